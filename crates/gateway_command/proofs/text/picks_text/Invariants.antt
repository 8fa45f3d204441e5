use Rattle.std.proofs.Common.{◌≡◌}
use Rattle.gateway_pick.specs.Picks.{pick_among}
use Rattle.gateway_command.specs.Texts.{picks_text}
use Rattle.gateway_command.proofs.text.picks_text.Given as goal

abbrev pub invariant-loop-place : goal.invariant-loop-place
invariant-loop-place l = l.text.items ≡ picks_text (pick_among l.rows l.host) l.first l.place
