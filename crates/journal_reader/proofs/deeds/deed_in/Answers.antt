use Rattle.journal_reader.proofs.Others.{others_good}
use Rattle.journal_reader.proofs.deeds.deed_in.Goals as goal

pub returns-in_default-clause-good : goal.returns-in_default-clause-good
returns-in_default-clause-good c = others_good c.args.members.now.entries c.other_in.result c.other_in.ensures
