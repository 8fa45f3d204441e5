use Rattle.std.proofs.Common.{sym, subst}
use Rattle.journal_reader.specs.Lines.{HasShortPut}
use Rattle.journal_reader.proofs.Readings.{read_short}
use Rattle.journal_reader.proofs.Steps.{any_ok}
use Rattle.journal_reader.proofs.said.members_said.Goals as goal

pub returns-in_ok-text-in-Put-clause-put : goal.returns-in_ok-text-in-Put-clause-put
returns-in_ok-text-in-Put-clause-put c =
    any_ok c.asking_line.result (HasShortPut c.args.line.now.deed) (subst HasShortPut (sym c.in-Put.is) (read_short _ _ c.in_ok-text-in-Put.ensures.again))
