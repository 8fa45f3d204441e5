use Rattle.std.proofs.Common.{◌≡◌, drop}
use Rattle.std.specs.Prelude.{map}
use Rattle.control_rules.specs.Standing.{beside}
use Rattle.control_rules.specs.Slots.{holders}
use Rattle.slot_keys.specs.Routed.{put_names, names_in}
use Rattle.slot_keys.proofs.routed.put_holders.Given as goal

-- the names once those of the pins that are left are in, too
abbrev pub invariant-loop-place : goal.invariant-loop-place
invariant-loop-place l = put_names (map (beside l.revision.key.name) (drop l.place l.pins)) (names_in l.names) ≡ put_names (holders l.revision) (names_in l.fn.names)
