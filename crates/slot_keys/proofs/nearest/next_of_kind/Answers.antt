use Rattle.std.proofs.Common.{None, Some, refl, sym, ap, ◌∙◌}
use Rattle.std.specs.List.{find}
use Rattle.resource_types.specs.Lookups.{state, of_kind, behind, key_of}
use Rattle.control_rules.specs.Slots.{names_of}
use Rattle.slot_keys.specs.Nexts.{comes_after}
use Rattle.slot_keys.proofs.Behind.{next_all, after_earlier, next_none, next_behind}
use Rattle.slot_keys.proofs.nearest.next_of_kind.Goals as goal

pub returns-in-Less : goal.returns-in-Less
returns-in-Less c =
    let st = state c.args.store.now.entries in
    c.first_of.ensures
    ∙ next_all (Some c.in-Some.last) c.args.controller c.args.kind st c.walk.result (after_earlier c.in-Some.last c.args.controller (sym c.cmp.ensures ∙ c.in-Less.is)) c.walk.ensures
    ∙ ap (λ cursor. find (comes_after cursor c.args.controller) (names_of c.args.kind st)) (sym c.in-Some.is)

pub returns-in-Equal : goal.returns-in-Equal
returns-in-Equal c =
    let st = state c.args.store.now.entries in
    let kind = c.args.kind in
    c.first_of-in-Equal.ensures
    ∙ next_behind c.in-Some.last c.args.controller (sym c.cmp.ensures ∙ c.in-Equal.is) kind st c.walk_after.result
    (c.walk_after.ensures ∙ ap (λ s. behind (key_of kind s c.as_str-name.result.now) (of_kind kind st)) c.as_str-space.ensures
    ∙ ap (λ n. behind (key_of kind c.in-Some.last.name.space n) (of_kind kind st)) c.as_str-name.ensures)
    ∙ ap (λ cursor. find (comes_after cursor c.args.controller) (names_of kind st)) (sym c.in-Some.is)

pub returns-in-Greater : goal.returns-in-Greater
returns-in-Greater c =
    let names = names_of c.args.kind (state c.args.store.now.entries) in
    next_none c.in-Some.last c.args.controller (sym c.cmp.ensures ∙ c.in-Greater.is) names
    ∙ ap (λ cursor. find (comes_after cursor c.args.controller) names) (sym c.in-Some.is)

pub returns-in-None : goal.returns-in-None
returns-in-None c =
    let st = state c.args.store.now.entries in
    c.first_of-in-None.ensures ∙ next_all None c.args.controller c.args.kind st c.walk-in-None.result (λ n. refl) c.walk-in-None.ensures
    ∙ ap (λ cursor. find (comes_after cursor c.args.controller) (names_of c.args.kind st)) (sym c.in-None.is)
