use Rattle.std.proofs.Common.{refl}
use Rattle.journal_text.specs.Lines.{removal_line}
use Rattle.journal_text.proofs.entries.removal_line.Goals as goal

pub returns : goal.returns
unfolding removal_line
returns c = rw (c.in_ok-add_object.ensures, c.in_ok-add_number.ensures, c.in_ok-add_word.ensures, c.new-members.ensures) (rw c.in_ok-removed.ensures refl)
