use Rattle.std.proofs.Common.{arith}
use Rattle.std.specs.Option.{option_copied}
use Rattle.touched_keys.proofs.Covering.{pins_all}
use Rattle.touched_keys.proofs.marking.mark_pins.Goals as goal

pub returns-clause-all : goal.returns-clause-all
returns-clause-all c =
    pins_all c.args.change.now (option_copied c.args.object) c.pins_in-pin-items.result.now c.loop-pin.pin-index c.loop-pin.keys c.pins_in-pin-items.ensures (omega (arith, c.loop-pin-test.false)) c.loop-pin.invariant.all
