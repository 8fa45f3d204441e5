-- A list from a place on, and what of it passes a test.
use Rattle.std.proofs.Common.{◌≡◌, ℕ, zero, suc, ◌+◌, List, [], ◌∷◌, drop, Bool, Some, ap, add-one}
use Rattle.std.specs.Prelude.{slice_get, ◌||◌}
use Rattle.std.specs.List.{list_any}

-- the item at a place is the first of the list from there on
pub drop_at : {X : Type 0} (xs : List X) (k : ℕ) (x : X) → slice_get xs k ≡ Some x → drop k xs ≡ x ∷ drop (k + 1) xs
drop_at [] k x e = cc
drop_at (y ∷ xs) zero x e = let f : y ≡ x = cc in ap (λ z. z ∷ xs) f
drop_at (y ∷ xs) (suc k) x e = rw add-one (rw add-one at (drop_at xs k x e))

-- one of the list from a place on passes the test where the first does or one behind it
pub any-next : {X : Type 0} (f : X → Bool) (xs : List X) (k : ℕ) (x : X) → slice_get xs k ≡ Some x → list_any f (drop k xs) ≡ (f x || list_any f (drop (k + 1) xs))
any-next f xs k x e = ap (list_any f) (drop_at xs k x e)
