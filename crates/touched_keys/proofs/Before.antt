-- What stood under a key, by the entry on it, and texts among texts.
use Rattle.std.proofs.Common.{◌≡◌, ℕ, Bool, true, false, ◌||◌, cond, bytes_eq, List, [], ◌∷◌, Some, refl, ap}
use Rattle.std.specs.Prelude.{slice_get}
use Rattle.std.specs.List.{list_any}
use Rattle.version_store.specs.State as store
use Rattle.control_rules.specs.Standing.{listed}
use Rattle.resource_types.specs.contracts.names.KeyOrd.TheImpl as key_order
use Rattle.resource_types.specs.Lookups.{Journal, find}
use Rattle.control_rules.specs.Slots.{ObjectEntry, state_at}
use Rattle.touched_keys.specs.Places.{object_before}

pub before_is : (j : Journal) (place : ℕ) (e : ObjectEntry) → slice_get j place ≡ Some e → object_before j place ≡ find e.key (state_at j place)
unfolding object_before
before_is j place e g = ap (store.standing_under (λ o. o.key) key_order.ghosts.cmp j place) g

-- ---- texts among texts

pub listed_any : (name : List ℕ) (texts : List (List ℕ)) → list_any (λ x. bytes_eq name x) texts ≡ listed name texts
unfolding listed
listed_any name [] = refl
listed_any name (x ∷ xs) = go (bytes_eq name x) (listed_any name xs)
  where
    go : (b : Bool) → list_any (λ x. bytes_eq name x) xs ≡ listed name xs → (b || list_any (λ x. bytes_eq name x) xs) ≡ cond b true (listed name xs)
    go true e = refl
    go false e = e
