use Rattle.std.proofs.Common.{◌≡◌, drop}
use Rattle.std.specs.Prelude.{map, option_map}
use Rattle.resource_types.specs.declared.names.Controller.TheVariants as controller
use Rattle.control_rules.specs.Standing.{beside}
use Rattle.control_rules.specs.Slots.{holders}
use Rattle.slot_keys.specs.Routed.{after_each}
use Rattle.slot_keys.specs.Nexts.{name_as, comes_after, with_name}
use Rattle.slot_keys.proofs.nearest.with_pins.Given as goal

-- the least once the pins that are left count, too
abbrev pub invariant-loop-place : goal.invariant-loop-place
invariant-loop-place l =
    after_each (with_name (comes_after l.cursor controller.Route)) (map (beside l.revision.key.name) (drop l.place l.pins)) (option_map name_as l.best)
    ≡ after_each (with_name (comes_after l.cursor controller.Route)) (holders l.revision) (option_map name_as l.fn.least)
