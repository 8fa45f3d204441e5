use Rattle.touched_keys.specs.Changes.{IsTouched, MarksOverBelow}
use Rattle.touched_keys.specs.Marks.{Adds}
use Rattle.touched_keys.proofs.marking.mark_over.Given as goal

-- the keys of the names that end before this place are marked
abbrev pub invariant-loop-end : goal.invariant-loop-end
invariant-loop-end l = record {
  adds : Adds (IsTouched l.fn.change) l.fn.keys l.keys;
  all : MarksOverBelow l.end l.fn.change l.fn.controller l.keys;
}
