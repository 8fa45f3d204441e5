use Rattle.std.proofs.Common.{refl}
use Rattle.journal_text.specs.Lines.{header_of}
use Rattle.journal_text.proofs.header.header_line.Goals as goal

pub returns : goal.returns
unfolding header_of
returns c = rw (c.in_ok-add_count-3.ensures, c.in_ok-add_count-2.ensures, c.in_ok-add_number-2.ensures, c.in_ok-add_number.ensures, c.in_ok-add_count.ensures, c.in_ok-add_word.ensures, c.in_ok-add_text.ensures, c.new-members.ensures) refl
