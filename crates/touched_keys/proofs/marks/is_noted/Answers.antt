use Rattle.std.proofs.Common.{sym, ◌∙◌, arith}
use Rattle.touched_keys.proofs.Noted.{since_hit, since_miss, since_none}
use Rattle.touched_keys.proofs.marks.is_noted.Goals as goal

pub returns-then-touches : goal.returns-then-touches
returns-then-touches c = since_hit c.args.store.now.entries c.args.upto c.loop-place.place c.args.key.now c.loop-place.invariant (omega (arith, c.loop-place-test.true, c.version-place-end.ensures.count)) (sym c.touches.ensures ∙ c.if-touches.true)

pub loop-place-preserved : goal.loop-place-preserved
loop-place-preserved c = since_miss c.args.store.now.entries c.args.upto c.loop-place.place c.args.key.now c.loop-place.invariant (omega (arith, c.loop-place-test.true, c.version-place-end.ensures.count)) (sym c.touches.ensures ∙ c.if-touches.false)

pub returns : goal.returns
returns c = sym (c.loop-place.invariant ∙ since_none c.args.store.now.entries c.loop-place.place c.args.key.now (omega (arith, c.loop-place-test.false, c.version-place-end.ensures.count)))
