-- A list that is the image of another, place by place.
use Rattle.std.proofs.Common.{◌≡◌, ℕ, ◌+◌, ◌<◌, List, length, take, get_or, sym, ap, ◌∙◌, subst}
use Rattle.std.specs.Prelude.{map}
use Rattle.std.proofs.lemmas.List.{get_or-map, length-map, take_more_same}

image_lt : {X Y : Type 0} (f : X → Y) (xs : List X) (i : ℕ) → i < length xs → i < length (map f xs)
image_lt f xs i lt = let P : ℕ → Type 0 = λ n. i < n in subst P (sym (length-map xs f)) lt

-- the item of the image at a place
at_place : {X Y : Type 0} (f : X → Y) (xs : List X) (i : ℕ) (x : X) (d : Y) → i < length xs → x ≡ get_or xs i x → get_or (map f xs) i d ≡ f x
at_place f xs i x d lt e = get_or-map f xs i x d lt ∙ ap f (sym e)

module _ {X Y : Type 0} (f : X → Y) (ys : List Y) (xs : List X) (i : ℕ) (y : Y) (x : X)
    (y-in : i < length ys) (x-in : i < length xs) (y-is : y ≡ get_or ys i y) (x-is : x ≡ get_or xs i x) where
  -- where the list is the image, the item at a place is
  pub image_at : ys ≡ map f xs → y ≡ f x
  image_at e = y-is ∙ ap (λ zs. get_or zs i y) e ∙ at_place f xs i x y x-in x-is

  -- where it is up to a place and at it, it is up to the next
  pub image_next : y ≡ f x → take i ys ≡ take i (map f xs) → take (i + 1) ys ≡ take (i + 1) (map f xs)
  image_next same h = take_more_same ys (map f xs) i y y-in (image_lt f xs i x-in) h (sym y-is ∙ same ∙ sym (at_place f xs i x y x-in x-is))
