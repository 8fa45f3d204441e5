use Rattle.std.proofs.Common.{◌≡◌, drop, None}
use Rattle.std.specs.Prelude.{option_map}
use Rattle.std.specs.List.{filter}
use Rattle.resource_types.specs.declared.names.Controller.TheVariants as controller
use Rattle.resource_types.specs.declared.names.Kind.TheVariants as kind
use Rattle.resource_types.specs.Objects.{is_of}
use Rattle.resource_types.specs.Lookups.{state}
use Rattle.control_rules.specs.Slots.{all_holders}
use Rattle.slot_keys.specs.Routed.{after_each}
use Rattle.slot_keys.specs.Nexts.{name_as, comes_after, with_name}
use Rattle.slot_keys.proofs.nearest.next_pin.Given as goal

-- the least once the pins of the Revisions that are left count, too
abbrev pub invariant-loop-place : goal.invariant-loop-place
invariant-loop-place l =
    after_each (with_name (comes_after l.cursor controller.Route)) (all_holders (filter (is_of kind.Revision) (drop l.place l.revisions))) (option_map name_as l.best)
    ≡ after_each (with_name (comes_after l.cursor controller.Route)) (all_holders (filter (is_of kind.Revision) (state l.store.entries))) None
