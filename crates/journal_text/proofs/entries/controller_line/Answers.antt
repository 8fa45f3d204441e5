use Rattle.journal_text.specs.Lines.{controller_line}
use Rattle.journal_text.proofs.entries.controller_line.Goals as goal

pub returns : goal.returns
unfolding controller_line
returns c = c.look_line.ensures
