use Rattle.std.proofs.Common.{[], ◌∷◌, ◌++◌, sym, ap, ◌∙◌}
use Rattle.resource_types.specs.declared.names.Controller.TheVariants as controller
use Rattle.control_rules.specs.Slots.{slot_key}
use Rattle.slot_table.proofs.Place.{read_at}
use Rattle.slot_keys.specs.declared.routed.Routed.{Routed}
use Rattle.slot_keys.specs.Routed.{names_in}
use Rattle.slot_keys.proofs.Routing.{name_at}
use Rattle.slot_keys.proofs.Keying.{name_more}
use Rattle.slot_keys.proofs.keys.keys_of_routes.Goals as goal

pub loop-place-preserved : goal.loop-place-preserved
loop-place-preserved c =
    let rows = c.rows-rows.result.now in
    name_more controller.Route (names_in rows) _ c.loop-place.keys.items c.loop-place.place c.loop-place.invariant c.index-rows-place.result.name
    (name_at rows c.loop-place.place c.index-rows-place.result (read_at rows c.loop-place.place c.index-rows-place.result c.loop-place-test.true c.index-rows-place.is)) _
    (c.in_ok-push.ensures.items ∙ ap (λ n. c.loop-place.keys.items ++ slot_key controller.Route n ∷ []) c.in_ok-name.ensures
    ∙ ap (λ (r : Routed). c.loop-place.keys.items ++ slot_key controller.Route r.name ∷ []) (sym c.index-rows-place.is))
