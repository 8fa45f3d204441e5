-- Two lists of one length, item beside item.
use Rattle.std.proofs.Common.{◌≡◌, ℕ, ◌<◌, List, [], ◌∷◌, length, get_or, arith, refl, sym, ap, ◌∙◌}
use Rattle.std.specs.List.{zip}
use Rattle.std.proofs.lemmas.Slice.Zip.{get_or-zip}

pub zip_long : {A B : Type 0} (xs : List A) (ys : List B) → length ys ≡ length xs → length (zip xs ys) ≡ length xs
zip_long [] ys e = refl
zip_long (x ∷ xs) [] e = absurd (omega arith)
zip_long (x ∷ xs) (y ∷ ys) e = let rest = zip_long xs ys (omega arith) in omega arith

module _ {A B : Type 0} (xs : List A) (ys : List B) (long : length ys ≡ length xs) (place : ℕ) (x : A) (y : B) (lt : place < length xs) where
  -- the place is one of the pairs
  pub pair_within : place < length (zip xs ys)
  pair_within = let same = zip_long xs ys long in omega arith

  -- the pair at the place has the two items at the place
  pub pair_at : x ≡ get_or xs place x → y ≡ get_or ys place y → (x, y) ≡ get_or (zip xs ys) place (x, y)
  pair_at e g =
      let within : place < length ys = omega arith in
      let at_x : (x, y) ≡ (get_or xs place x, y) = ap (λ a. (a, y)) e in
      let at_y : (get_or xs place x, y) ≡ (get_or xs place x, get_or ys place y) = ap (λ b. (get_or xs place x, b)) g in
      at_x ∙ at_y ∙ sym (get_or-zip xs ys place (x, y) lt within)
