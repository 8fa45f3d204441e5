-- A hundred numbers one after another have all the hundred places.
use Rattle.std.proofs.Common.{◌≡◌, ℕ, ◌+◌, ◌*◌, ◌%◌, List, [], ◌∷◌, Bool, true, false, cond, ◌==◌, Option, Some, None, refl, ap, subst, ◌∙◌, arith}
use Rattle.std.specs.Prelude.{option_map}
use Rattle.std.specs.Option.{option_map_or}
use Rattle.std.specs.List.Sorted.{IsPermutation}
use Rattle.std.proofs.lemmas.List.Sorted.{IsPermutation-refl, IsPermutation-trans, IsPermutation-cons, IsPermutation-sym, IsPermutation-append_left, IsPermutation-append_comm}
use borrow.Author.Tests.{eqb-true}
use Rattle.gateway_pick.specs.Picks.{along, place_of}
use Rattle.gateway_pick.proofs.Along.{along-any}

-- the list without the number, if it is there
abbrev without : ℕ → List ℕ → Option (List ℕ)
without n [] = None
without n (x ∷ xs) = cond (x == n) (Some xs) (option_map (λ ys. x ∷ ys) (without n xs))

abbrev is_nil : List ℕ → Bool
is_nil [] = true
is_nil (y ∷ ys) = false

-- each number of the first list can be taken from the second one, and none is left
abbrev are_same : List ℕ → List ℕ → Bool
are_same [] ys = is_nil ys
are_same (x ∷ xs) ys = option_map_or (are_same xs) (without x ys) false

taken_out : (n : ℕ) (xs ys : List ℕ) → without n xs ≡ Some ys → IsPermutation xs (n ∷ ys)
taken_out n [] ys e = cc
taken_out n (x ∷ xs) ys e = go (λ zs r. taken_out n xs zs r) (x == n) refl (without n xs) refl e
  where
    go : ((zs : List ℕ) → without n xs ≡ Some zs → IsPermutation xs (n ∷ zs)) → (b : Bool) → (x == n) ≡ b → (rest : Option (List ℕ)) → without n xs ≡ rest → cond b (Some xs) (option_map (λ zs. x ∷ zs) rest) ≡ Some ys → IsPermutation (x ∷ xs) (n ∷ ys)
    go again true is rest r e =
        let same : x ≡ n = eqb-true x n is in
        let left : xs ≡ ys = cc in
        subst (λ zs. IsPermutation (x ∷ xs) zs) (ap (λ y. y ∷ xs) same ∙ ap (λ zs. n ∷ zs) left) (IsPermutation-refl (x ∷ xs))
    go again false is None r e = cc
    go again false is (Some zs) r e =
        let left : x ∷ zs ≡ ys = cc in
        let inner = IsPermutation-cons x xs (n ∷ zs) (again zs r) in
        let turn : IsPermutation (x ∷ n ∷ zs) (n ∷ x ∷ zs) = IsPermutation-append_left zs (x ∷ n ∷ []) (n ∷ x ∷ []) (IsPermutation-append_comm (x ∷ []) (n ∷ [])) in
        subst (λ ws. IsPermutation (x ∷ xs) (n ∷ ws)) left (IsPermutation-trans _ _ _ inner turn)

same_numbers : (xs ys : List ℕ) → are_same xs ys ≡ true → IsPermutation ys xs
same_numbers [] [] e = IsPermutation-refl []
same_numbers [] (y ∷ ys) e = cc
same_numbers (x ∷ xs) ys e = go (λ zs f. same_numbers xs zs f) (without x ys) refl e
  where
    go : ((zs : List ℕ) → are_same xs zs ≡ true → IsPermutation zs xs) → (rest : Option (List ℕ)) → without x ys ≡ rest → option_map_or (are_same xs) rest false ≡ true → IsPermutation ys (x ∷ xs)
    go again None r e = cc
    go again (Some zs) r e = IsPermutation-trans _ _ _ (taken_out x ys zs r) (IsPermutation-cons x zs xs (again zs e))

all_places : are_same (along place_of 0 100) (along (λ k. k) 0 100) ≡ true
all_places = refl

place_again : (k : ℕ) → place_of (k + 100) ≡ place_of k
place_again k = ap (λ m. (37 * m) % 100) {x = (k + 100) % 100} {y = k % 100} (omega arith)

-- the places of a hundred numbers are all places, in another order
pub hundred_places : (first : ℕ) → IsPermutation (along place_of first 100) (along (λ k. k) 0 100)
hundred_places first =
    IsPermutation-trans _ _ _ (along-any place_of 99 place_again first) (IsPermutation-sym _ _ (same_numbers (along place_of 0 100) (along (λ k. k) 0 100) all_places))
