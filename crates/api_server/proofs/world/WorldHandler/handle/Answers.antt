use Rattle.std.proofs.Common.{refl, sym}
use Rattle.api_server.proofs.Handles.{asks_from}
use Rattle.api_server.proofs.world.WorldHandler.handle.Goals as goal

pub returns-in-Ok-clause-asked : goal.returns-in-Ok-clause-asked
returns-in-Ok-clause-asked c = asks_from c.args.self.now c.move_clock.new.self _ _ c.args.now c.args.request.now c.in-Ok.reply c.mark-mark.result
    c.move_clock.ensures (sym c.self.view_is) c.mark-mark.ensures.mark c.mark-mark.ensures.kept c.in-Ok.ensures.ok c.in-Ok.ensures.leads c.in_ok-push.ensures.ok refl
