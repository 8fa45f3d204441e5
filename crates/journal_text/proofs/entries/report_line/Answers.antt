use Rattle.std.proofs.Common.{refl}
use Rattle.journal_text.specs.Lines.{report_line}
use Rattle.journal_text.proofs.entries.report_line.Goals as goal

pub returns : goal.returns
unfolding report_line
returns c = rw (c.in_ok-add_object-2.ensures, c.in_ok-add_text-2.ensures, c.in_ok-add_text.ensures, c.in_ok-add_number.ensures, c.in_ok-add_object.ensures, c.in_ok-add_word.ensures, c.new-members.ensures) (rw (c.in_ok-container.ensures, c.in_ok-resources.ensures) refl)
