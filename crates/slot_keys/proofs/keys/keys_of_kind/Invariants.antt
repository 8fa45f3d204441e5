use Rattle.std.proofs.Common.{◌≡◌, ◌++◌, drop, map}
use Rattle.resource_types.specs.Lookups.{state}
use Rattle.control_rules.specs.Slots.{names_of, slot_key}
use Rattle.slot_keys.proofs.keys.keys_of_kind.Given as goal

-- the keys so far, and those of the objects that are left
abbrev pub invariant-loop-place : goal.invariant-loop-place
invariant-loop-place l = l.keys.items ++ map (slot_key l.controller) (names_of l.kind (drop l.place l.objects)) ≡ map (slot_key l.controller) (names_of l.kind (state l.store.entries))
