-- Texts that are empty.
use Rattle.std.proofs.Common.{◌≡◌, ◌↔◌, ℕ, Bool, true, false, List, [], ◌∷◌, refl}
use Rattle.resource_types.specs.Lookups.{is_empty}

-- a test that is true exactly of the empty list
pub tells_empty : (t : Bool) (xs : List ℕ) → ((t ≡ true) ↔ (xs ≡ [])) → t ≡ is_empty xs
tells_empty t [] h = h.1 refl
tells_empty true (x ∷ xs) h = let e : x ∷ xs ≡ [] = h.0 refl in cc
tells_empty false (x ∷ xs) h = refl
