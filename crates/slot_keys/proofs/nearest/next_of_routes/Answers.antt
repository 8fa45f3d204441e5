use Rattle.std.proofs.Common.{ap, ◌∙◌}
use Rattle.std.specs.Prelude.{option_map}
use Rattle.slot_keys.specs.Nexts.{name_as, lesser}
use Rattle.slot_keys.proofs.Behind.{next_routed}
use Rattle.slot_keys.proofs.nearest.next_of_routes.Goals as goal

pub returns : goal.returns
returns c =
    c.lesser-2.ensures ∙ ap (lesser (option_map name_as c.next_of_kind-route.result)) c.lesser.ensures
    ∙ next_routed c.args.cursor.now c.args.store.now.entries _ _ _ c.next_of_kind-route.ensures c.next_of_kind-table.ensures c.next_pin-pin.ensures
