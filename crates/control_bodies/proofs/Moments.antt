-- The moment that a text or a number is.
use Rattle.std.proofs.Common.{◌≡◌, ◌∙◌, ◌⊎◌, inl, inr, ℕ, zero, suc, ◌≤◌, ◌<◌, Bool, true, false, List, Option, Some, None, Result, Ok, Err, refl, sym, ap, subst, arith, true≢false}
use Rattle.std.specs.Prelude.{nat_le, codes, IfSome, if◌then◌else◌}
use Rattle.std.specs.Str.{bytes_eq}
use Rattle.std.proofs.lemmas.Bool.{cases_lt}
use Rattle.std.proofs.lemmas.Bool.Decides.{nat_tests}
use Rattle.std.proofs.lemmas.Slice.Eq.{bytes_eq-Decides}
use Rattle.json_tree.specs.declared.value.Json.{Json}
use Rattle.json_tree.specs.declared.value.Json.TheViews.{out-Json}
use Rattle.json_tree.specs.declared.value.Json.TheOpen.{Json-F}
use Rattle.serve_names.specs.Moments.{last_moment, last_such, moment_bytes}
use Rattle.resource_codec.specs.Reading.{Member, under}
use Rattle.answers.specs.Answers.{◌>>=◌}
use Rattle.resource_types.proofs.Exact.{bytes-exact}
use Rattle.control_bodies.specs.declared.fields.Field.{Field}
use Rattle.control_bodies.specs.declared.fields.Field.TheVariants as field
use Rattle.control_bodies.specs.Bodies.{object_at, given, is_text_of, moment_of_text, moment_at, clock_in}

-- ---- the last number of which something is true

below_or_last : (n x : ℕ) (b : Bool) → x ≤ n → (if b then suc n else x) ≤ suc n
below_or_last n x true le = omega arith
below_or_last n x false le = omega (arith, le)

such_below : (p : ℕ → Bool) (n : ℕ) → last_such p n ≤ n
unfolding last_such
such_below p zero = omega arith
such_below p (suc n) = below_or_last n (last_such p n) (p (suc n)) (such_below p n)

holds_or_last : (p : ℕ → Bool) (n m x : ℕ) (b : Bool) → p (suc n) ≡ b → m ≤ suc n → p m ≡ true → (m ≤ n → p x ≡ true) → (n < m) ⊎ (m ≤ n)
    → p (if b then suc n else x) ≡ true
holds_or_last p n m x true e le h below which = e
holds_or_last p n m x false e le h below (inl lt) =
    let same : m ≡ suc n = omega (arith, le, lt) in absurd (true≢false (sym (subst (λ (y : ℕ). p y ≡ true) same h) ∙ e))
holds_or_last p n m x false e le h below (inr small) = below small

such_holds : (p : ℕ → Bool) (n m : ℕ) → m ≤ n → p m ≡ true → p (last_such p n) ≡ true
unfolding last_such
such_holds p zero m le h = let e : m ≡ 0 = omega (arith, le) in subst (λ (x : ℕ). p x ≡ true) e h
such_holds p (suc n) m le h =
    holds_or_last p n m (last_such p n) (p (suc n)) refl le h (λ small. such_holds p n m small h) (cases_lt n m)

-- ---- the moment of a text

is_text : (bytes : List ℕ) (m : ℕ) → bytes ≡ moment_bytes m → is_text_of bytes m ≡ true
is_text bytes m e = ap (λ (bs : List ℕ). bytes_eq (moment_bytes m) bs) e ∙ (bytes_eq-Decides (moment_bytes m) (moment_bytes m)).1 refl

text_is : (bytes : List ℕ) (m : ℕ) → is_text_of bytes m ≡ true → bytes ≡ moment_bytes m
text_is bytes m h = sym (bytes-exact (moment_bytes m) bytes h)

-- what a reading of moments answers is the moment of the text
pub reads_moment : (bytes : List ℕ) (answer : Option ℕ) → IfSome answer (λ n. (n ≤ last_moment) × (bytes ≡ moment_bytes n))
    → ((n : ℕ) → n ≤ last_moment → bytes ≡ moment_bytes n → answer ≡ Some n) → answer ≡ moment_of_text bytes
unfolding moment_of_text
reads_moment bytes answer found finds = go (is_text_of bytes moment) refl answer refl found
  where
    moment : ℕ
    moment = last_such (is_text_of bytes) last_moment

    go : (b : Bool) → is_text_of bytes moment ≡ b → (a : Option ℕ) → answer ≡ a → IfSome a (λ n. (n ≤ last_moment) × (bytes ≡ moment_bytes n))
        → answer ≡ (if b then Some moment else None)
    go true e a is found = finds moment (such_below (is_text_of bytes) last_moment) (text_is bytes moment e)
    go false e None is found = is
    go false e (Some n) is found =
        absurd (true≢false (sym (such_holds (is_text_of bytes) last_moment n found.0 (is_text bytes n found.1)) ∙ e))

text_range : (bytes : List ℕ) (m : ℕ) → moment_of_text bytes ≡ Some m → m ≤ last_moment
unfolding moment_of_text
text_range bytes m h = go (is_text_of bytes moment) h
  where
    moment : ℕ
    moment = last_such (is_text_of bytes) last_moment

    go : (b : Bool) → (if b then Some moment else None) ≡ Some m → m ≤ last_moment
    go true h = let e : moment ≡ m = cc in let le = such_below (is_text_of bytes) last_moment in subst (λ (x : ℕ). x ≤ last_moment) e le
    go false h = absurd cc

-- ---- the moment of a body

number_range : (n m : ℕ) (b : Bool) → nat_le n last_moment ≡ b → (if b then Some n else None) ≡ Some m → m ≤ last_moment
number_range n m true e h = let le : n ≤ last_moment = grind (arith, nat_tests) in let same : n ≡ m = cc in subst (λ (x : ℕ). x ≤ last_moment) same le
number_range n m false e h = absurd cc

value_range : (j : Json-F Json) (m : ℕ) → moment_at j ≡ Some m → m ≤ last_moment
value_range Json-F.Null m h = absurd cc
value_range (Json-F.Bool b) m h = absurd cc
value_range (Json-F.Int n) m h = absurd cc
value_range (Json-F.Nat n) m h = number_range n m (nat_le n last_moment) refl h
value_range (Json-F.Str s) m h = text_range s m h
value_range (Json-F.Arr js) m h = absurd cc
value_range (Json-F.Obj ms) m h = absurd cc

-- the moment to which a clock is set is one of a clock
pub clock_range : (json : Json) (m : ℕ) → clock_in json ≡ Ok m → m ≤ last_moment
unfolding clock_in
clock_range json m h = go (object_at field.Body (out-Json json)) h
  where
    of_given : (o : Option ℕ) → ((n : ℕ) → o ≡ Some n → n ≤ last_moment) → given field.Now o ≡ Ok m → m ≤ last_moment
    of_given (Some n) range e = let same : n ≡ m = cc in subst (λ (x : ℕ). x ≤ last_moment) same (range n refl)
    of_given None range e = absurd cc

    go : (members : Result (List Member) Field) → (members >>= (λ ms. given field.Now (moment_at (under (codes "now") ms)))) ≡ Ok m → m ≤ last_moment
    go (Ok ms) e = of_given (moment_at (under (codes "now") ms)) (λ n at. value_range (under (codes "now") ms) n at) e
    go (Err f) e = absurd cc
