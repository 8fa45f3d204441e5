-- A list from a place on: the next of it, and its end.
use Rattle.std.proofs.Common.{◌≡◌, ℕ, zero, suc, ◌≤◌, List, [], ◌∷◌, ◌++◌, take, drop, Some, None, refl, ap, arith}
use Rattle.std.specs.Prelude.{slice_get}

-- x is at the place n, and ys behind it
pub record IsNext {X : Type 0} (xs : List X) (n : ℕ) (x : X) (ys : List X) : Type 0 where
  pub at : slice_get xs n ≡ Some x
  pub rest : drop (suc n) xs ≡ ys
  pub front : take (suc n) xs ≡ take n xs ++ x ∷ []

pub next_of : {X : Type 0} (xs : List X) (n : ℕ) (x : X) (ys : List X) → drop n xs ≡ x ∷ ys → IsNext xs n x ys
next_of [] zero x ys e = absurd cc
next_of [] (suc n) x ys e = absurd cc
next_of (y ∷ xs) zero x ys e =
    let same : y ≡ x = cc in
    let behind : xs ≡ ys = cc in
    record { at = ap Some same; rest = behind; front = ap (λ z. z ∷ []) same }
next_of (y ∷ xs) (suc n) x ys e =
    let next = next_of xs n x ys e in
    record { at = next.at; rest = next.rest; front = ap (λ zs. y ∷ zs) next.front }

-- nothing is at the place n or behind it
pub take_ended : {X : Type 0} (xs : List X) (n m : ℕ) → drop n xs ≡ [] → n ≤ m → take m xs ≡ take n xs
take_ended [] zero zero e le = refl
take_ended [] zero (suc m) e le = refl
take_ended [] (suc n) zero e le = refl
take_ended [] (suc n) (suc m) e le = refl
take_ended (x ∷ xs) zero m e le = absurd cc
take_ended (x ∷ xs) (suc n) zero e le = absurd (omega (arith, le))
take_ended (x ∷ xs) (suc n) (suc m) e le = let less : n ≤ m = omega (arith, le) in ap (λ zs. x ∷ zs) (take_ended xs n m e less)

pub none_ended : {X : Type 0} (xs : List X) (n m : ℕ) → drop n xs ≡ [] → n ≤ m → slice_get xs m ≡ None
none_ended [] n m e le = refl
none_ended (x ∷ xs) zero m e le = absurd cc
none_ended (x ∷ xs) (suc n) zero e le = absurd (omega (arith, le))
none_ended (x ∷ xs) (suc n) (suc m) e le = let less : n ≤ m = omega (arith, le) in none_ended xs n m e less
