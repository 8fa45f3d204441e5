use Rattle.std.proofs.Common.{◌≤◌, length, ap, arith}
use Rattle.std.specs.Prelude.{map}
use Rattle.control_rules.specs.Standing.{beside}
use Rattle.slot_table.proofs.Place.{read_at}
use Rattle.slot_keys.specs.Routed.{put_name, put_names, names_in}
use Rattle.slot_keys.proofs.Swaps.{put_swaps}
use Rattle.slot_keys.proofs.Routing.{pin_more, pins_whole}
use Rattle.slot_keys.proofs.routed.put_holders.Goals as goal

pub loop-place-init : goal.loop-place-init
loop-place-init c = ap (λ pins. put_names (map (beside c.args.revision.now.key.name) pins) (names_in c.args.names.now)) c.pins-pins.ensures

pub loop-place-preserved : goal.loop-place-preserved
loop-place-preserved c =
    pin_more put_name put_swaps c.args.revision.now.key.name c.pins-pins.result.now c.loop-place.place _ _ c.loop-place.invariant c.index-pins-place.result
    (read_at c.pins-pins.result.now _ _ (omega (arith, c.loop-place-test.true)) c.index-pins-place.is) _ c.in_ok-put_name.ensures

pub returns : goal.returns
returns c =
    let le : length c.pins-pins.result.now ≤ c.loop-place.place = omega (arith, c.loop-place-test.false) in
    pins_whole put_name put_swaps c.args.revision.now.key.name c.pins-pins.result.now c.loop-place.place _ _ c.loop-place.invariant le
