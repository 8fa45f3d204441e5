use Rattle.std.proofs.Common.{◌+◌, ◌≤◌, drop, length, sym, ap, ◌∙◌, arith}
use Rattle.std.specs.List.{filter}
use Rattle.resource_types.specs.declared.names.Kind.TheVariants as kind
use Rattle.resource_types.specs.Objects.{is_of}
use Rattle.control_rules.specs.Slots.{all_holders}
use Rattle.slot_keys.specs.Routed.{put_name, put_names, names_in}
use Rattle.resource_types.specs.Lookups.{state}
use Rattle.slot_keys.proofs.Swaps.{put_swaps}
use Rattle.slot_keys.proofs.Routing.{holders_init, holders_more, holders_less, holders_whole}
use Rattle.slot_keys.proofs.routed.put_all_holders.Goals.{then-is_of+in_ok-put_holders, else-is_of}
use Rattle.slot_keys.proofs.routed.put_all_holders.Goals as goal

pub loop-place-init : goal.loop-place-init
loop-place-init c = holders_init put_name put_swaps c.walk-revisions.result (state c.args.store.now.entries) (names_in c.args.names.now) c.walk-revisions.ensures

pub loop-place-preserved : goal.loop-place-preserved
loop-place-preserved c =
    let revisions = c.walk-revisions.result in
    let left = all_holders (filter (is_of kind.Revision) (drop (c.loop-place.place + 1) revisions)) in
    elim c.if-is_of.branch [
      | then-is_of+in_ok-put_holders w ↦
          ap (λ rows. put_names left (names_in rows)) w.names-is
          ∙ holders_more put_name put_swaps revisions c.loop-place.place _ _ c.loop-place.invariant c.at-revision.result.now c.at-revision.ensures _
          (sym c.is_of.ensures.value ∙ w.if-is_of.true) w.in_ok-put_holders.ensures
      | else-is_of w ↦
          ap (λ rows. put_names left (names_in rows)) w.names-is
          ∙ holders_less put_name put_swaps revisions c.loop-place.place _ _ c.loop-place.invariant c.at-revision.result.now c.at-revision.ensures
          (sym c.is_of.ensures.value ∙ w.if-is_of.false)
    ]

pub returns : goal.returns
returns c =
    let le : length c.walk-revisions.result ≤ c.loop-place.place = omega (arith, c.loop-place-test.false, c.len-place-end.ensures) in
    holders_whole put_name put_swaps c.walk-revisions.result c.loop-place.place _ _ c.loop-place.invariant le
