use Rattle.touched_keys.specs.Changes.{IsTouched, MarksNamed}
use Rattle.touched_keys.specs.Marks.{Adds}
use Rattle.touched_keys.proofs.marking.mark_pins.Given as goal

-- the Routes of the pins up to this place are marked
abbrev pub invariant-loop-pin : goal.invariant-loop-pin
invariant-loop-pin l = record {
  adds : Adds (IsTouched l.fn.change) l.fn.keys l.keys;
  all : MarksNamed l.pin-index l.fn.change l.pin-items l.keys;
}
