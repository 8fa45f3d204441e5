use Rattle.std.proofs.Common.{sym}
use Rattle.service_rec.proofs.Conversions.{on_services, on_given}
use Rattle.service_rec.proofs.targets.configuration_of.Goals as goal

pub returns-then-is_blank : goal.returns-then-is_blank
returns-then-is_blank c = on_services c.args.name.now c.args.target.now (sym c.if-is_blank.ensures)

pub returns : goal.returns
returns c = on_given c.args.name.now c.args.target.now (sym c.if-is_blank.ensures)
