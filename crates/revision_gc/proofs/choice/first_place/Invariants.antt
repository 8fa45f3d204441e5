use Rattle.std.proofs.Common.{◌≡◌, None, drop}
use Rattle.std.specs.Prelude.{option_map}
use Rattle.control_rules.specs.Collection.{first_from}
use Rattle.revision_gc.specs.Choices.{best_of, counts_by}
use Rattle.revision_gc.proofs.choice.first_place.Given as goal

abbrev pub invariant-loop-place : goal.invariant-loop-place
invariant-loop-place l = first_from (counts_by l.among) l.place (option_map best_of l.best) (drop l.place l.candidates) ≡ first_from (counts_by l.among) 0 None l.candidates
