use Rattle.std.proofs.Common.{refl}
use Rattle.journal_text.specs.Lines.{part_members}
use Rattle.journal_text.proofs.entries.part_members.Goals as goal

pub returns : goal.returns
unfolding part_members
returns c = rw (c.in_ok-add_word.ensures, c.in_ok-add_text-2.ensures, c.in_ok-add_text.ensures, c.new-members.ensures) (rw c.truth_word.ensures refl)
