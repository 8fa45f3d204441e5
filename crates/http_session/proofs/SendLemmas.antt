-- Bytes that are written in two pieces.
use Rattle.std.proofs.Common.{◌≡◌, ℕ, ◌+◌, ◌≤◌, List, [], ◌∷◌, ◌++◌, length, take, refl, arith, ap, sym, subst, Option, length-append, true, false, suc}
use Rattle.std.specs.Prelude.{Bool}
use Rattle.std.proofs.lemmas.List.{take-append-le}
use Rattle.serve_io.specs.Causes.{Rose}
use Rattle.serve_io.specs.Whole.{Sends}
use Rattle.std.proofs.KnownBytes.{Appends-trans}
use Rattle.std.specs.Io.KnownBytes.{Appends}

take-append_more : (first next : List ℕ) (n : ℕ) → take (length first + n) (first ++ next) ≡ first ++ take n next
take-append_more [] next n = let e : 0 + n ≡ n = omega arith in rw e refl
take-append_more (b ∷ first) next n =
    let e : length (b ∷ first) + n ≡ suc (length first + n) = omega arith in
    rw e (ap (λ xs. b ∷ xs) (take-append_more first next n))

rose-later : (a b c : ℕ) → a ≤ b → Rose b c → Rose a c
rose-later a b c le h = omega arith

pub Sends-then : (a b c : Option (List ℕ)) (x y z : ℕ) (first next : List ℕ) (sent : Bool)
    → Sends a b x y first true → Sends b c y z next sent → Sends a c x z (first ++ next) sent
Sends-then a b c x y z first next sent s t = record {
  whole = λ e. Appends-trans a b c first next (s.whole refl) (t.whole e);
  cut = λ e. let k = t.cut e in (
    length first + k.0,
    omega (arith, k.1, length-append first next),
    subst (λ (xs : List ℕ). Appends a c xs) (sym (take-append_more first next k.0)) (Appends-trans a b c first (take k.0 next) (s.whole refl) k.2),
  );
  cause = record { later = omega (arith, s.cause.later, t.cause.later); rose = λ e. rose-later x y z s.cause.later (t.cause.rose e) };
}

pub Sends-stop : (a b : Option (List ℕ)) (x y : ℕ) (first next : List ℕ)
    → Sends a b x y first false → Sends a b x y (first ++ next) false
Sends-stop a b x y first next s = record {
  whole = λ e. absurd (cc);
  cut = λ e. let k = s.cut refl in (
    k.0,
    omega (arith, k.1, length-append first next),
    subst (λ (xs : List ℕ). Appends a b xs) (sym (take-append-le k.0 first next (omega (arith, k.1)))) k.2,
  );
  cause = s.cause;
}
