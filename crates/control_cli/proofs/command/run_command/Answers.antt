use Rattle.control_cli.proofs.Commands.{replay_leaves}
use Rattle.control_cli.proofs.command.run_command.Goals as goal

pub returns-in-Replay-clause-leaves : goal.returns-in-Replay-clause-leaves
returns-in-Replay-clause-leaves g c =
    replay_leaves c.args.command c.in-Replay.options _ _ _ _ c.replay.result c.in-Replay.is c.replay.ensures.runs c.replay.ensures.complete

pub returns-in-Export-clause-leaves : goal.returns-in-Export-clause-leaves
returns-in-Export-clause-leaves g c = rw c.in-Export.is c.export_journal.ensures.leaves

pub returns-in-Export-clause-usage : goal.returns-in-Export-clause-usage
returns-in-Export-clause-usage g c = rw c.in-Export.is c.export_journal.ensures.usage
