-- What numbers one after another give.
use Rattle.std.proofs.Common.{◌≡◌, ℕ, zero, suc, ◌+◌, ◌<◌, ◌≤◌, List, [], ◌∷◌, ◌++◌, map, replicate, refl, sym, ap, ap₂, subst, ◌∙◌, arith}
use Rattle.std.specs.List.Sorted.{IsPermutation}
use Rattle.std.proofs.lemmas.List.Sorted.{IsPermutation-to_front, IsPermutation-refl, IsPermutation-trans}
use Rattle.gateway_pick.specs.Picks.{along}

module _ {A : Type 0} where
  pub along-map : {B : Type 0} (f : A → B) (g : ℕ → A) (first count : ℕ) → map f (along g first count) ≡ along (λ k. f (g k)) first count
  along-map f g first zero = refl
  along-map f g first (suc count) = ap (λ xs. f (g first) ∷ xs) (along-map f g (first + 1) count)

  -- the same is given as by another function
  pub along-same : (f g : ℕ → A) (first count : ℕ) → ((k : ℕ) → first ≤ k → k < first + count → f k ≡ g k) → along f first count ≡ along g first count
  along-same f g first zero same = refl
  along-same f g first (suc count) same =
      ap₂ (λ x xs. x ∷ xs) (same first (omega arith) (omega arith))
      (along-same f g (first + 1) count (λ k le lt. same k (omega (arith, le)) (omega (arith, lt))))

  pub along-one : (x : A) (first count : ℕ) → along (λ k. x) first count ≡ replicate count x
  along-one x first zero = refl
  along-one x first (suc count) = ap (λ xs. x ∷ xs) (along-one x (first + 1) count)

  pub along-append : (f : ℕ → A) (first a b : ℕ) → along f first (a + b) ≡ along f first a ++ along f (first + a) b
  along-append f first zero b =
      let start : first ≡ first + zero = omega arith in
      let count : zero + b ≡ b = omega arith in
      ap (along f first) count ∙ ap (λ i. along f i b) start
  along-append f first (suc a) b =
      let count : suc a + b ≡ suc (a + b) = omega arith in
      let later : first + 1 + a ≡ first + suc a = omega arith in
      ap (along f first) count ∙ ap (λ xs. f first ∷ xs) (along-append f (first + 1) a b ∙ ap (λ i. along f (first + 1) a ++ along f i b) later)

  pub along-later : (f : ℕ → A) (first by count : ℕ) → along f (first + by) count ≡ along (λ k. f (k + by)) first count
  along-later f first by zero = refl
  along-later f first by (suc count) =
      let next : first + by + 1 ≡ first + 1 + by = omega arith in
      ap (λ xs. f (first + by) ∷ xs) (ap (λ i. along f i count) next ∙ along-later f (first + 1) by count)

  -- one number more
  pub along-more : (f : ℕ → A) (first count : ℕ) → along f first (suc count) ≡ along f first count ++ f (first + count) ∷ []
  along-more f first count = ap (along f first) {x = suc count} {y = count + 1} (omega arith) ∙ along-append f first count 1

  -- where what is given comes again, one number later the same is given in another order
  pub along-turn : (f : ℕ → A) (first count : ℕ) → f (first + suc count) ≡ f first → IsPermutation (along f (first + 1) (suc count)) (along f first (suc count))
  along-turn f first count again =
      let rest : List A = along f (first + 1) count in
      let last : f (first + 1 + count) ≡ f first = ap f {x = first + 1 + count} {y = first + suc count} (omega arith) ∙ again in
      subst (λ xs. IsPermutation xs (f first ∷ rest)) (sym (along-more f (first + 1) count ∙ ap (λ x. rest ++ x ∷ []) last)) (IsPermutation-to_front rest (f first))

  pub along-any : (f : ℕ → A) (count : ℕ) → ((k : ℕ) → f (k + suc count) ≡ f k) → (first : ℕ) → IsPermutation (along f first (suc count)) (along f 0 (suc count))
  along-any f count again zero = IsPermutation-refl (along f 0 (suc count))
  along-any f count again (suc first) =
      let next : first + 1 ≡ suc first = omega arith in
      let turned = subst (λ i. IsPermutation (along f i (suc count)) (along f first (suc count))) next (along-turn f first count (again first)) in
      IsPermutation-trans _ _ _ turned (along-any f count again first)
