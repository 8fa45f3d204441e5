-- What an entry at a place of the journal changed, and what it touches.
use Rattle.std.specs.Prelude.{ℕ, Bool, false, slice_get, Option, Some, None}
use Rattle.version_store.specs.State as store
use Rattle.resource_types.specs.declared.names.SlotKey.{SlotKey}
use Rattle.resource_types.specs.declared.objects.Object.{Object}
use Rattle.resource_types.specs.contracts.names.KeyOrd.TheImpl as key_order
use Rattle.resource_types.specs.Lookups.{Journal, state, find}
use Rattle.control_rules.specs.Slots.{ObjectEntry, state_at}
use Rattle.control_touches.specs.Touches.{touches}

-- the object that stood under the key of the entry at the place before it
unfoldable pub object_before : Journal → ℕ → Option Object
object_before j place = store.replaced_at (λ o. o.key) key_order.ghosts.cmp j place

-- whether the entry touches the key
abbrev pub touches_by : Journal → ℕ → SlotKey → Option ObjectEntry → Bool
touches_by j place pick None = false
touches_by j place pick (Some e) = touches (state j) e.key (find e.key (state_at j place)) e.object pick

-- whether the entry at the place touches the key
unfoldable pub touches_at : Journal → ℕ → SlotKey → Bool
touches_at j place pick = touches_by j place pick (slice_get j place)
