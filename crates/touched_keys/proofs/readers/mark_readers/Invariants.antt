use Rattle.touched_keys.specs.Changes.{IsTouched, MarksReadersFirst}
use Rattle.touched_keys.specs.Marks.{Adds}
use Rattle.touched_keys.proofs.readers.mark_readers.Given as goal

-- the Routes up to this place that read what was changed are marked
abbrev pub invariant-loop-place : goal.invariant-loop-place
invariant-loop-place l = record {
  adds : Adds (IsTouched l.fn.change) l.fn.keys l.keys;
  all : MarksReadersFirst l.place l.fn.change l.routes l.keys;
}
