use Rattle.std.proofs.Common.{refl}
use Rattle.journal_text.proofs.entries.look_line.Goals as goal

pub returns : goal.returns
returns c = rw (c.in_ok-add_number-3.ensures, c.in_ok-add_number-2.ensures, c.in_ok-add_text-2.ensures, c.in_ok-add_text.ensures, c.in_ok-add_number.ensures, c.in_ok-add_word.ensures, c.new-members.ensures) (rw c.controller_word.ensures refl)
