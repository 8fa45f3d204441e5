use Rattle.std.proofs.Common.{◌≡◌, ◌^◌, ◌-◌, take, min}
use Rattle.std.specs.Prelude.{sum_by}
use Rattle.validation.specs.Rules.{percent_of}
use Rattle.validation.proofs.targets.sums_to_hundred.Given as goal

abbrev pub invariant-loop-target : goal.invariant-loop-target
invariant-loop-target l = l.total ≡ min (sum_by percent_of (take l.target-index l.targets)) (2 ^ 64 - 1)
