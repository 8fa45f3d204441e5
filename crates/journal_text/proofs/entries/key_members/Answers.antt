use Rattle.std.proofs.Common.{refl}
use Rattle.journal_text.specs.Lines.{key_members}
use Rattle.journal_text.proofs.entries.key_members.Goals as goal

pub returns : goal.returns
unfolding key_members
returns c = rw (c.in_ok-add_text-2.ensures, c.in_ok-add_text.ensures, c.in_ok-add_word.ensures, c.new-members.ensures) (rw c.as_str.ensures refl)
