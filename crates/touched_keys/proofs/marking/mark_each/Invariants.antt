use Rattle.touched_keys.specs.Changes.{IsTouched, MarksFirst}
use Rattle.touched_keys.specs.Marks.{Adds}
use Rattle.touched_keys.proofs.marking.mark_each.Given as goal

-- the keys of the objects up to this place are marked
abbrev pub invariant-loop-place : goal.invariant-loop-place
invariant-loop-place l = record {
  adds : Adds (IsTouched l.fn.change) l.fn.keys l.keys;
  all : MarksFirst l.place l.fn.change l.fn.controller l.objects l.keys;
}
