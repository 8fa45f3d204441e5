use Rattle.std.proofs.Common.{◌≡◌, take}
use Rattle.std.specs.Prelude.{bytes_eq, filter, not}
use Rattle.route_rec.proofs.pins.without_pin.Given as goal

abbrev pub invariant-loop-pin : goal.invariant-loop-pin
invariant-loop-pin l = l.after ≡ filter (λ pin. not (bytes_eq pin l.gone)) (take l.pin-index l.pins)
