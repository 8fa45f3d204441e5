use Rattle.std.proofs.Common.{subst, sym}
use Rattle.journal_text.specs.Texts.{IsTold}
use Rattle.journal_text.proofs.texts.add_entries.Goals as goal

pub add_entry-requires : goal.add_entry-requires
add_entry-requires c =
    subst IsTold (sym c.entry-item.is) (c.requires c.loop-entry.entry-index c.entry-item.result c.loop-entry-test.true)
