use Rattle.std.proofs.Common.{◌≤◌, length, ap, arith}
use Rattle.std.specs.Prelude.{map, option_map}
use Rattle.resource_types.specs.declared.names.Controller.TheVariants as controller
use Rattle.control_rules.specs.Standing.{beside}
use Rattle.slot_table.proofs.Place.{read_at}
use Rattle.slot_keys.specs.Routed.{after_each}
use Rattle.slot_keys.specs.Nexts.{name_as, comes_after, with_name}
use Rattle.slot_keys.proofs.Least.{with_swaps}
use Rattle.slot_keys.proofs.Routing.{pin_more, pins_whole}
use Rattle.slot_keys.proofs.nearest.with_pins.Goals as goal

pub loop-place-init : goal.loop-place-init
loop-place-init c =
    let after = comes_after c.args.cursor.now controller.Route in
    ap (λ pins. after_each (with_name after) (map (beside c.args.revision.now.key.name) pins) (option_map name_as c.args.least)) c.pins-pins.ensures

pub loop-place-preserved : goal.loop-place-preserved
loop-place-preserved c =
    let after = comes_after c.args.cursor.now controller.Route in
    pin_more (with_name after) (with_swaps after) c.args.revision.now.key.name c.pins-pins.result.now c.loop-place.place _ _ c.loop-place.invariant c.index-pins-place.result
    (read_at c.pins-pins.result.now _ _ (omega (arith, c.loop-place-test.true)) c.index-pins-place.is) _ c.with_pin-best.ensures

pub returns : goal.returns
returns c =
    let after = comes_after c.args.cursor.now controller.Route in
    let le : length c.pins-pins.result.now ≤ c.loop-place.place = omega (arith, c.loop-place-test.false) in
    pins_whole (with_name after) (with_swaps after) c.args.revision.now.key.name c.pins-pins.result.now c.loop-place.place _ _ c.loop-place.invariant le
