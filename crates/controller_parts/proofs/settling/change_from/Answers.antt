use Rattle.control_rules.specs.Differences.{timed}
use Rattle.controller_parts.proofs.Puts.{put_as}
use Rattle.controller_parts.proofs.settling.change_from.Goals as goal

pub returns : goal.returns
returns c =
    put_as c.args.object.now c.in_ok-frame.frame c.in_ok-body.body c.with_status.result c.in_ok-status.status (timed c.args.old.now c.args.new.now c.args.now) c.with.result
    c.in_ok-frame.ensures c.in_ok-body.ensures c.in_ok-status.ensures c.with_status.ensures c.with.ensures
