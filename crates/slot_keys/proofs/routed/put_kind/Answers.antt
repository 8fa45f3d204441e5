use Rattle.std.proofs.Common.{◌+◌, ◌≤◌, drop, length, sym, ap, ◌∙◌, arith}
use Rattle.control_rules.specs.Slots.{names_of}
use Rattle.slot_keys.specs.Routed.{put_name, put_names, names_in}
use Rattle.resource_types.specs.Lookups.{state}
use Rattle.slot_keys.proofs.Swaps.{put_swaps}
use Rattle.slot_keys.proofs.Routing.{kind_init, kind_more, kind_less, kind_whole}
use Rattle.slot_keys.proofs.routed.put_kind.Goals.{then-is_of+in_ok-put_name, else-is_of}
use Rattle.slot_keys.proofs.routed.put_kind.Goals as goal

pub loop-place-init : goal.loop-place-init
loop-place-init c = kind_init put_name put_swaps c.args.kind c.walk-objects.result (state c.args.store.now.entries) (names_in c.args.names.now) c.walk-objects.ensures

pub loop-place-preserved : goal.loop-place-preserved
loop-place-preserved c =
    let objects = c.walk-objects.result in
    let left = names_of c.args.kind (drop (c.loop-place.place + 1) objects) in
    elim c.if-is_of.branch [
      | then-is_of+in_ok-put_name w ↦
          ap (λ rows. put_names left (names_in rows)) w.names-is
          ∙ kind_more put_name put_swaps c.args.kind objects c.loop-place.place _ _ c.loop-place.invariant c.at-object.result.now c.at-object.ensures _
          (sym c.is_of.ensures.value ∙ w.if-is_of.true) w.in_ok-put_name.ensures
      | else-is_of w ↦
          ap (λ rows. put_names left (names_in rows)) w.names-is
          ∙ kind_less put_name put_swaps c.args.kind objects c.loop-place.place _ _ c.loop-place.invariant c.at-object.result.now c.at-object.ensures
          (sym c.is_of.ensures.value ∙ w.if-is_of.false)
    ]

pub returns : goal.returns
returns c =
    let le : length c.walk-objects.result ≤ c.loop-place.place = omega (arith, c.loop-place-test.false, c.len-place-end.ensures) in
    kind_whole put_name put_swaps c.args.kind c.walk-objects.result c.loop-place.place _ _ c.loop-place.invariant le
