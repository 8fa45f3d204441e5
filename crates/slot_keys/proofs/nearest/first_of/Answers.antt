use Rattle.std.proofs.Common.{◌≤◌, length, refl, sym, ap, ◌∙◌, Some, arith}
use Rattle.slot_keys.proofs.Behind.{first_here, first_later, first_nowhere}
use Rattle.slot_keys.proofs.nearest.first_of.Goals as goal

pub loop-place-init : goal.loop-place-init
loop-place-init c = refl

pub loop-place-preserved : goal.loop-place-preserved
loop-place-preserved c =
    first_later c.args.kind c.args.objects.now c.loop-place.place _ c.loop-place.invariant c.at-object.result.now c.at-object.ensures (sym c.is_of.ensures.value ∙ c.if-is_of.false)

pub returns-then-is_of : goal.returns-then-is_of
returns-then-is_of c =
    ap Some c.parts_of.ensures
    ∙ first_here c.args.kind c.args.objects.now c.loop-place.place _ c.loop-place.invariant c.at-object.result.now c.at-object.ensures (sym c.is_of.ensures.value ∙ c.if-is_of.true)

pub returns : goal.returns
returns c =
    let le : length c.args.objects.now ≤ c.loop-place.place = omega (arith, c.loop-place-test.false, c.len-place-end.ensures) in
    first_nowhere c.args.kind c.args.objects.now c.loop-place.place _ c.loop-place.invariant le
