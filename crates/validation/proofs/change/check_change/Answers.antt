use Rattle.std.proofs.Common.{Ok, Err, rules}
use Rattle.validation.proofs.Changes.{refused_as}
use Rattle.validation.proofs.change.check_change.Goals as goal

pub returns-then-differs_under_name-clause-refused : goal.returns-then-differs_under_name-clause-refused
returns-then-differs_under_name-clause-refused c = refused_as c.args.old.now c.args.new.now (Err (record {})) (search rules)

pub returns-else-differs_under_name-clause-refused : goal.returns-else-differs_under_name-clause-refused
returns-else-differs_under_name-clause-refused c = refused_as c.args.old.now c.args.new.now (Ok tt) (search rules)
