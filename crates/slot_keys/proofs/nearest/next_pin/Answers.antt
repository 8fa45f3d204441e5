use Rattle.std.proofs.Common.{◌+◌, ◌≤◌, drop, length, None, sym, ap, ◌∙◌, arith}
use Rattle.std.specs.Prelude.{option_map}
use Rattle.std.specs.List.{filter}
use Rattle.resource_types.specs.declared.names.Kind.TheVariants as kind
use Rattle.resource_types.specs.Objects.{is_of}
use Rattle.control_rules.specs.Slots.{all_holders}
use Rattle.slot_keys.specs.Routed.{after_each}
use Rattle.slot_keys.specs.Nexts.{name_as, comes_after, with_name}
use Rattle.resource_types.specs.declared.names.Controller.TheVariants as controller
use Rattle.resource_types.specs.Lookups.{state}
use Rattle.slot_keys.proofs.Least.{with_swaps}
use Rattle.slot_keys.proofs.Routing.{holders_init, holders_more, holders_less, holders_whole}
use Rattle.slot_keys.proofs.nearest.next_pin.Goals.{then-is_of, else-is_of}
use Rattle.slot_keys.proofs.nearest.next_pin.Goals as goal

pub loop-place-init : goal.loop-place-init
loop-place-init c =
    let after = comes_after c.args.cursor.now controller.Route in
    holders_init (with_name after) (with_swaps after) c.walk-revisions.result (state c.args.store.now.entries) None c.walk-revisions.ensures

pub loop-place-preserved : goal.loop-place-preserved
loop-place-preserved c =
    let after = comes_after c.args.cursor.now controller.Route in
    let revisions = c.walk-revisions.result in
    let left = all_holders (filter (is_of kind.Revision) (drop (c.loop-place.place + 1) revisions)) in
    elim c.if-is_of.branch [
      | then-is_of w ↦
          ap (λ best. after_each (with_name after) left (option_map name_as best)) w.best-is
          ∙ holders_more (with_name after) (with_swaps after) revisions c.loop-place.place _ _ c.loop-place.invariant c.at-revision.result.now c.at-revision.ensures _
          (sym c.is_of.ensures.value ∙ w.if-is_of.true) w.with_pins-best.ensures
      | else-is_of w ↦
          ap (λ best. after_each (with_name after) left (option_map name_as best)) w.best-is
          ∙ holders_less (with_name after) (with_swaps after) revisions c.loop-place.place _ _ c.loop-place.invariant c.at-revision.result.now c.at-revision.ensures
          (sym c.is_of.ensures.value ∙ w.if-is_of.false)
    ]

pub returns : goal.returns
returns c =
    let after = comes_after c.args.cursor.now controller.Route in
    let le : length c.walk-revisions.result ≤ c.loop-place.place = omega (arith, c.loop-place-test.false, c.len-place-end.ensures) in
    holders_whole (with_name after) (with_swaps after) c.walk-revisions.result c.loop-place.place _ _ c.loop-place.invariant le
