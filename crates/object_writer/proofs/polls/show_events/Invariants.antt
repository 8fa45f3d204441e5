use Rattle.std.specs.Option.{option_copied}
use Rattle.object_writer.proofs.Told.{IsWrittenTo}
use Rattle.object_writer.proofs.polls.show_events.Given as goal

abbrev pub invariant-loop-place : goal.invariant-loop-place
invariant-loop-place l = IsWrittenTo l.entries l.kind (option_copied l.space) l.after l.initial.out l.out l.count l.place
