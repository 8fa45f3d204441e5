use Rattle.std.proofs.Common.{sym, ◌∙◌}
use Rattle.resource_types.specs.Lookups.{state}
use Rattle.control_rules.specs.Slots.{all_keys}
use Rattle.slot_keys.proofs.Nexts.{next_there, next_first}
use Rattle.slot_keys.proofs.next.next_key.Goals as goal

pub returns-in-Some : goal.returns-in-Some
returns-in-Some c = next_there c.args.cursor.now (all_keys (state c.args.store.now.entries)) _ (sym c.in-Some.is ∙ c.in_ok-key.ensures)

pub returns-in_ok-first-in-None : goal.returns-in_ok-first-in-None
returns-in_ok-first-in-None c = next_first c.args.cursor.now (all_keys (state c.args.store.now.entries)) _ (sym c.in-None.is ∙ c.in_ok-key.ensures) c.in_ok-first-in-None.ensures
