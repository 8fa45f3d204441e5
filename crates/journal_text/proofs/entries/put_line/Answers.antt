use Rattle.std.proofs.Common.{◌≡◌, subst}
use Rattle.std.specs.Prelude.{IfOk}
use Rattle.journal_text.specs.Lines.{asking_line, put_line}
use Rattle.journal_text.proofs.entries.put_line.Goals as goal

pub returns : goal.returns
unfolding put_line
returns c = subst (λ t. IfOk c.asking_line.result (λ m. m.entries ≡ asking_line c.args.moment t)) c.in_ok-text.ensures c.asking_line.ensures
