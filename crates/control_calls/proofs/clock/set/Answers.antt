use Rattle.std.proofs.Common.{refl}
use Rattle.control_calls.proofs.Events.{clock_back}
use Rattle.control_calls.proofs.clock.set.Goals as goal

pub returns-in-Err-clause-ok : goal.returns-in-Err-clause-ok
returns-in-Err-clause-ok c = clock_back c.args.plane.now.plane c.set_clock.new.self.plane c.args.moment c.in-Err.field-0.now c.reply.result
    (c.in-Err.ensures.back.0 refl) c.in-Err.ensures.err c.in-Err.ensures.stands c.reply.ensures.value
