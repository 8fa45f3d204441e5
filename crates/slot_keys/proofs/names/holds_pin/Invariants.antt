use Rattle.std.proofs.Common.{◌≡◌, drop}
use Rattle.std.specs.List.{list_any}
use Rattle.resource_types.specs.declared.names.Kind.TheVariants as kind
use Rattle.resource_types.specs.Lookups.{of_kind, state}
use Rattle.slot_keys.specs.Pins.{is_pinned_by}
use Rattle.slot_keys.proofs.names.holds_pin.Given as goal

abbrev pub invariant-loop-place : goal.invariant-loop-place
invariant-loop-place l = list_any (is_pinned_by l.name) (drop l.place l.revisions) ≡ list_any (is_pinned_by l.name) (of_kind kind.Revision (state l.store.entries))
