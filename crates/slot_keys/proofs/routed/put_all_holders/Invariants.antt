use Rattle.std.proofs.Common.{◌≡◌, drop}
use Rattle.std.specs.List.{filter}
use Rattle.resource_types.specs.declared.names.Kind.TheVariants as kind
use Rattle.resource_types.specs.Objects.{is_of}
use Rattle.resource_types.specs.Lookups.{state}
use Rattle.control_rules.specs.Slots.{all_holders}
use Rattle.slot_keys.specs.Routed.{put_names, names_in}
use Rattle.slot_keys.proofs.routed.put_all_holders.Given as goal

-- the names once those of the Routes that hold a Revision that is left are in, too
abbrev pub invariant-loop-place : goal.invariant-loop-place
invariant-loop-place l =
    put_names (all_holders (filter (is_of kind.Revision) (drop l.place l.revisions))) (names_in l.names)
    ≡ put_names (all_holders (filter (is_of kind.Revision) (state l.store.entries))) (names_in l.fn.names)
