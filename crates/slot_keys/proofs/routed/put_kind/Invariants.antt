use Rattle.std.proofs.Common.{◌≡◌, drop}
use Rattle.resource_types.specs.Lookups.{state}
use Rattle.control_rules.specs.Slots.{names_of}
use Rattle.slot_keys.specs.Routed.{put_names, names_in}
use Rattle.slot_keys.proofs.routed.put_kind.Given as goal

-- the names once those of the objects that are left are in, too
abbrev pub invariant-loop-place : goal.invariant-loop-place
invariant-loop-place l = put_names (names_of l.kind (drop l.place l.objects)) (names_in l.names) ≡ put_names (names_of l.kind (state l.store.entries)) (names_in l.fn.names)
