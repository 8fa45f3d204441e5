use Rattle.std.proofs.Common.{refl}
use Rattle.journal_text.proofs.entries.asking_line.Goals as goal

pub returns : goal.returns
returns c = rw (c.in_ok-add.ensures, c.in_ok-add_number.ensures, c.in_ok-add_word.ensures, c.new-members.ensures) refl
