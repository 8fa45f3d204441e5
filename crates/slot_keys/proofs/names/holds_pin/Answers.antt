use Rattle.std.proofs.Common.{Bool, ◌+◌, drop, sym, ap, ◌∙◌}
use Rattle.std.specs.Prelude.{◌||◌}
use Rattle.std.specs.List.{list_any}
use Rattle.resource_types.proofs.Lists.{any-next}
use Rattle.slot_keys.specs.Pins.{is_pinned_by}
use Rattle.slot_keys.proofs.names.holds_pin.Goals as goal

pub loop-place-init : goal.loop-place-init
loop-place-init c = ap (list_any (is_pinned_by c.args.name.now)) c.walk-revisions.ensures

pub returns-then-is_pinned_by : goal.returns-then-is_pinned_by
returns-then-is_pinned_by c =
    let test = is_pinned_by c.args.name.now in
    let revisions = c.walk-revisions.result in
    ap (λ (b : Bool). b || list_any test (drop (c.loop-place.place + 1) revisions)) (sym (sym c.is_pinned_by.ensures ∙ c.if-is_pinned_by.true))
    ∙ sym (any-next test revisions c.loop-place.place c.at.result.now c.at.ensures) ∙ c.loop-place.invariant

pub loop-place-preserved : goal.loop-place-preserved
loop-place-preserved c =
    let test = is_pinned_by c.args.name.now in
    let revisions = c.walk-revisions.result in
    ap (λ (b : Bool). b || list_any test (drop (c.loop-place.place + 1) revisions)) (sym (sym c.is_pinned_by.ensures ∙ c.if-is_pinned_by.false))
    ∙ sym (any-next test revisions c.loop-place.place c.at.result.now c.at.ensures) ∙ c.loop-place.invariant
