use Rattle.std.proofs.Common.{arith}
use Rattle.control_rules.specs.NextService.{converted_target}
use Rattle.service_rec.proofs.ImageSteps.{image_at, image_next}
use Rattle.service_rec.proofs.targets.are_converted.Goals as goal

pub returns-then-not-is_converted : goal.returns-then-not-is_converted
returns-then-not-is_converted c = (
  (λ h. absurd cc),
  λ all.
      let same = c.is_converted.ensures.1 (image_at (converted_target c.args.name.now) c.args.old.now c.args.targets.now c.loop-place.place c.index-old-place.result c.index-targets-place.result (omega arith) (omega arith) c.index-old-place.is c.index-targets-place.is all) in
      cc,
)

pub loop-place-preserved : goal.loop-place-preserved
loop-place-preserved c =
    image_next (converted_target c.args.name.now) c.args.old.now c.args.targets.now c.loop-place.place c.index-old-place.result c.index-targets-place.result (omega arith) (omega arith) c.index-old-place.is c.index-targets-place.is
    (c.is_converted.ensures.0 c.if-not-is_converted.false) c.loop-place.invariant
