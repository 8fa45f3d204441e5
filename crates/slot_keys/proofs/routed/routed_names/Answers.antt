use Rattle.std.proofs.Common.{ap, ◌∙◌}
use Rattle.resource_types.specs.declared.names.Kind.TheVariants as kind
use Rattle.resource_types.specs.Lookups.{state}
use Rattle.control_rules.specs.Slots.{names_of}
use Rattle.slot_keys.specs.Routed.{put_names, names_in}
use Rattle.slot_keys.proofs.Routing.{names_routed}
use Rattle.slot_keys.proofs.routed.routed_names.Goals as goal

pub returns : goal.returns
returns c =
    let st = state c.args.store.now.entries in
    names_routed st _ _ _
    (c.in_ok-put_kind.ensures ∙ ap (λ rows. put_names (names_of kind.Route st) (names_in rows)) c.new-names.ensures)
    c.in_ok-put_kind-2.ensures c.in_ok-put_all_holders.ensures
