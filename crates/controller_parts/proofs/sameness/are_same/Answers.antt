use Rattle.std.proofs.Common.{arith}
use Rattle.control_rules.specs.Differences.{timeless}
use Rattle.controller_parts.proofs.Images.{agree_at, agree_next}
use Rattle.controller_parts.proofs.sameness.are_same.Goals as goal

pub returns-then-not-is_same : goal.returns-then-not-is_same
returns-then-not-is_same c = (
  (λ h. absurd cc),
  λ all.
      let same = c.is_same.ensures.1 (agree_at timeless c.args.one.now c.args.two.now c.loop-place.place c.index-one-place.result c.index-two-place.result (omega arith) (omega arith) c.index-one-place.is c.index-two-place.is all) in
      cc,
)

pub loop-place-preserved : goal.loop-place-preserved
loop-place-preserved c =
    agree_next timeless c.args.one.now c.args.two.now c.loop-place.place c.index-one-place.result c.index-two-place.result (omega arith) (omega arith) c.index-one-place.is c.index-two-place.is
    (c.is_same.ensures.0 c.if-not-is_same.false) c.loop-place.invariant
