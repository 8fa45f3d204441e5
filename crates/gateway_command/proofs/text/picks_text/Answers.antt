use Rattle.std.proofs.Common.{rules}
use Rattle.gateway_pick.specs.Picks.{pick_among}
use Rattle.gateway_command.proofs.Texts.{one_more}
use Rattle.gateway_command.proofs.text.picks_text.Goals as goal

pub loop-place-preserved : goal.loop-place-preserved
loop-place-preserved c =
    let more = one_more (pick_among c.args.rows.now c.args.host.now) c.args.first c.loop-place.place in
    search (rules, more)
