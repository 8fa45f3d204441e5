use Rattle.std.proofs.Common.{◌≡◌, drop}
use Rattle.std.specs.List.{find}
use Rattle.conditions.specs.Fold.{has_truth}
use Rattle.conditions.proofs.ready.first_with.Given as goal

abbrev pub invariant-loop-part : goal.invariant-loop-part
invariant-loop-part l = find (has_truth l.truth) l.parts ≡ find (has_truth l.truth) (drop l.part-index l.part-items)
