use Rattle.std.proofs.Common.{rules}
use Rattle.step_scheduler.proofs.Promising.{kept_safe, kept_unused}
use Rattle.control_cli.proofs.command.plane_keeps.Goals as goal

pub returns-clause-safe : goal.returns-clause-safe
returns-clause-safe c = kept_safe c.args.world.now.plane (search rules)

pub returns-clause-unused : goal.returns-clause-unused
returns-clause-unused c = kept_unused c.args.world.now.plane (search rules)
