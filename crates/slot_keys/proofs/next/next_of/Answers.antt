use Rattle.std.proofs.Common.{Some, sym, ap, ◌∙◌}
use Rattle.std.specs.Prelude.{option_map}
use Rattle.resource_types.specs.Lookups.{state}
use Rattle.control_rules.specs.Slots.{slot_key}
use Rattle.slot_keys.specs.Nexts.{name_as}
use Rattle.slot_keys.proofs.Behind.{key_found}
use Rattle.slot_keys.proofs.next.next_of.Goals as goal

pub returns-in_ok-key_of-in-Some : goal.returns-in_ok-key_of-in-Some
returns-in_ok-key_of-in-Some c =
    ap Some c.in_ok-key_of-in-Some.ensures ∙ sym (ap (λ name. option_map (slot_key c.args.controller) (option_map name_as name)) c.in-Some.is)
    ∙ key_found c.args.cursor.now c.args.controller (state c.args.store.now.entries) _ c.next_name.ensures

pub returns-in-None : goal.returns-in-None
returns-in-None c =
    sym (ap (λ name. option_map (slot_key c.args.controller) (option_map name_as name)) c.in-None.is)
    ∙ key_found c.args.cursor.now c.args.controller (state c.args.store.now.entries) _ c.next_name.ensures
