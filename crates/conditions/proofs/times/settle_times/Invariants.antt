use Rattle.conditions.specs.Times.{with_time}
use Rattle.conditions.proofs.Settling.{IsChangedTo}
use Rattle.conditions.proofs.times.settle_times.Given as goal

abbrev pub invariant-loop-place : goal.invariant-loop-place
invariant-loop-place l = IsChangedTo (with_time l.old l.moment) l.initial.conditions.items l.place l.conditions.items
