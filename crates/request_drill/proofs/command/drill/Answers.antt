use Rattle.step_scheduler.proofs.Promising.{kept_safe, kept_unused}
use Rattle.request_drill.proofs.Keeping.{drills_kept, drill_stops_kept}
use Rattle.request_drill.proofs.command.drill.Goals as goal

pub returns-in-Ok-clause-kept : goal.returns-in-Ok-clause-kept
returns-in-Ok-clause-kept g c = drills_kept c.args.count c.args.world.now c.lines_of_run.new.world c.in-Ok.lines c.in-Ok.ensures.ok

pub returns-in-Ok-clause-safe : goal.returns-in-Ok-clause-safe
returns-in-Ok-clause-safe g c k = kept_safe c.lines_of_run.new.world.plane (returns-in-Ok-clause-kept g c k)

pub returns-in-Ok-clause-unused : goal.returns-in-Ok-clause-unused
returns-in-Ok-clause-unused g c k = kept_unused c.lines_of_run.new.world.plane (returns-in-Ok-clause-kept g c k)

pub returns-in-Err-clause-kept : goal.returns-in-Err-clause-kept
returns-in-Err-clause-kept g c = drill_stops_kept c.args.count c.args.world.now c.lines_of_run.new.world c.in-Err.ensures.err

pub returns-in-Err-clause-safe : goal.returns-in-Err-clause-safe
returns-in-Err-clause-safe g c k = kept_safe c.lines_of_run.new.world.plane (returns-in-Err-clause-kept g c k)

pub returns-in-Err-clause-unused : goal.returns-in-Err-clause-unused
returns-in-Err-clause-unused g c k = kept_unused c.lines_of_run.new.world.plane (returns-in-Err-clause-kept g c k)
