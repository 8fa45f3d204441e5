use Rattle.std.proofs.Common.{refl}
use Rattle.journal_text.specs.Texts.{journal_text}
use Rattle.journal_export.proofs.Endings.{ends_quietly}
use Rattle.journal_export.proofs.command.end_export.Goals as goal

pub returns-in-Clean-clause-ends : goal.returns-in-Clean-clause-ends
returns-in-Clean-clause-ends g c = rw c.in-Clean.is c.write_text.ensures.writes

pub returns-in-Closed-clause-ends : goal.returns-in-Closed-clause-ends
returns-in-Closed-clause-ends g c = rw c.in-Closed.is c.write_text-in-Closed.ensures.writes

pub returns-in_default : goal.returns-in_default
returns-in_default g c = record {
  ends = ends_quietly c.args.end (journal_text c.args.plane.now.plane) (g.K.Sink.taken c.args.sink.now) (g.K.Sink.faults c.args.sink.now) c.end_of.result
      c.in_default.not-Clean c.in_default.not-Closed c.end_of.ensures.value;
  usage = c.end_of.ensures.usage;
  reads = c.end_of.ensures.reads;
  calm_sink = λ is. refl;
}
