use Rattle.route_rec.proofs.Inserted.{placed_as}
use Rattle.route_rec.proofs.pins.with_pin.Goals as goal

pub returns : goal.returns
returns c =
    placed_as c.args.new.now c.args.pins.now c.place_behind.result c.unwrap_or-place.result c.in_ok-after.after c.in_ok-copy.field-0 c.insert.new.self
    c.place_behind.ensures c.unwrap_or-place.ensures c.in_ok-after.ensures c.in_ok-copy.ensures c.in_ok-insert.ensures.ok
