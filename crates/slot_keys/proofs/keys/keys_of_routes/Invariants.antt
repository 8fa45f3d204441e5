use Rattle.std.proofs.Common.{◌≡◌, ◌++◌, drop, map}
use Rattle.resource_types.specs.declared.names.Controller.TheVariants as controller
use Rattle.resource_types.specs.Lookups.{state}
use Rattle.control_rules.specs.Slots.{slot_key, keys_for}
use Rattle.slot_keys.specs.Routed.{names_in}
use Rattle.slot_keys.proofs.keys.keys_of_routes.Given as goal

-- the keys so far, and those of the names that are left
abbrev pub invariant-loop-place : goal.invariant-loop-place
invariant-loop-place l = l.keys.items ++ map (slot_key controller.Route) (drop l.place (names_in l.rows)) ≡ keys_for controller.Route (state l.store.entries)
