use Rattle.std.proofs.Common.{sym, ◌∙◌}
use Rattle.resource_types.specs.Lookups.{state}
use Rattle.slot_keys.proofs.Nexts.{next_service, next_configuration, next_revision, next_collector, next_route, none_if}
use Rattle.slot_keys.proofs.next.next_after.Goals as goal

pub returns-in-Some : goal.returns-in-Some
returns-in-Some c = next_service c.args.cursor.now (state c.args.store.now.entries) c.in-Some.key (sym c.in-Some.is ∙ c.in_ok-key.ensures)

pub returns-in-Some-2 : goal.returns-in-Some-2
returns-in-Some-2 c =
    next_configuration c.args.cursor.now (state c.args.store.now.entries) (none_if _ _ c.in_default.not-Some c.in_ok-key.ensures) c.in-Some-2.key (sym c.in-Some-2.is ∙ c.in_ok-key-2.ensures)

pub returns-in-Some-3 : goal.returns-in-Some-3
returns-in-Some-3 c =
    next_revision c.args.cursor.now (state c.args.store.now.entries) (none_if _ _ c.in_default.not-Some c.in_ok-key.ensures) (none_if _ _ c.in_default-2.not-Some c.in_ok-key-2.ensures)
    c.in-Some-3.key (sym c.in-Some-3.is ∙ c.in_ok-key-3.ensures)

pub returns-in-Some-4 : goal.returns-in-Some-4
returns-in-Some-4 c =
    next_collector c.args.cursor.now (state c.args.store.now.entries) (none_if _ _ c.in_default.not-Some c.in_ok-key.ensures) (none_if _ _ c.in_default-2.not-Some c.in_ok-key-2.ensures)
    (none_if _ _ c.in_default-3.not-Some c.in_ok-key-3.ensures) c.in-Some-4.key (sym c.in-Some-4.is ∙ c.in_ok-key-4.ensures)

pub returns : goal.returns
returns c =
    next_route c.args.cursor.now (state c.args.store.now.entries) (none_if _ _ c.in_default.not-Some c.in_ok-key.ensures) (none_if _ _ c.in_default-2.not-Some c.in_ok-key-2.ensures)
    (none_if _ _ c.in_default-3.not-Some c.in_ok-key-3.ensures) _ (none_if _ _ c.in_default-4.not-Some c.in_ok-key-4.ensures) c.in_ok-key-5.ensures
