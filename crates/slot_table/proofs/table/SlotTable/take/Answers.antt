use Rattle.std.proofs.Common.{map, sym, ap, ◌∙◌}
use Rattle.version_store.specs.State.{find, without}
use Rattle.version_store.specs.Index.{search_in}
use Rattle.slot_table.proofs.Changes.{found_at, found_nowhere, removed, removed_not, ordered_without}
use Rattle.slot_table.proofs.Place.{read_there}
use Rattle.slot_table.proofs.table.SlotTable.take.Goals as goal

pub invariant_of-self : goal.invariant_of-self
invariant_of-self g c =
    let total = g.met.R.Key.Ord.total in
    let cmp = g.R.Key.Ord.cmp in
    let key_of = g.R.Keyed.key in
    let rows = c.self.inside.rows.items in
    let key = c.args.key.now in
    ordered_without key_of cmp total rows c.self.invariant key c.remove.new.self.items
    (c.remove.ensures.items
    ∙ removed key_of cmp total rows c.self.invariant key c.in-Ok.place
    (c.in-Ok.ensures.place ∙ ap (λ xs. search_in cmp key (map key_of xs)) c.deref.ensures.value))

pub returns-in-Ok-clause-taken : goal.returns-in-Ok-clause-taken
returns-in-Ok-clause-taken g c =
    let total = g.met.R.Key.Ord.total in
    let cmp = g.R.Key.Ord.cmp in
    let key_of = g.R.Keyed.key in
    let rows = c.self.inside.rows.items in
    let key = c.args.key.now in
    sym (ap (find key_of cmp key) (sym c.self.view_is)
    ∙ found_at key_of cmp total rows c.self.invariant key c.in-Ok.place c.remove.result
    (c.in-Ok.ensures.place ∙ ap (λ xs. search_in cmp key (map key_of xs)) c.deref.ensures.value)
    (read_there rows c.deref.result.now c.in-Ok.place c.remove.result c.deref.ensures.value c.in-Ok.ensures.within c.remove.ensures.value))

pub returns-in-Ok-clause-rest : goal.returns-in-Ok-clause-rest
returns-in-Ok-clause-rest g c =
    let total = g.met.R.Key.Ord.total in
    let cmp = g.R.Key.Ord.cmp in
    let key_of = g.R.Keyed.key in
    let rows = c.self.inside.rows.items in
    let key = c.args.key.now in
    c.remove.ensures.items
    ∙ removed key_of cmp total rows c.self.invariant key c.in-Ok.place
    (c.in-Ok.ensures.place ∙ ap (λ xs. search_in cmp key (map key_of xs)) c.deref.ensures.value)
    ∙ ap (without key_of cmp key) c.self.view_is

pub returns-in-Err-clause-taken : goal.returns-in-Err-clause-taken
returns-in-Err-clause-taken g c =
    let total = g.met.R.Key.Ord.total in
    let cmp = g.R.Key.Ord.cmp in
    let key_of = g.R.Keyed.key in
    let rows = c.self.inside.rows.items in
    let key = c.args.key.now in
    sym (ap (find key_of cmp key) (sym c.self.view_is)
    ∙ found_nowhere key_of cmp total rows c.self.invariant key c.in-Err.field-0
    (c.in-Err.ensures.place ∙ ap (λ xs. search_in cmp key (map key_of xs)) c.deref.ensures.value))

pub returns-in-Err-clause-rest : goal.returns-in-Err-clause-rest
returns-in-Err-clause-rest g c =
    let total = g.met.R.Key.Ord.total in
    let cmp = g.R.Key.Ord.cmp in
    let key_of = g.R.Keyed.key in
    let rows = c.self.inside.rows.items in
    let key = c.args.key.now in
    sym c.self.view_is
    ∙ removed_not key_of cmp total rows c.self.invariant key c.in-Err.field-0
    (c.in-Err.ensures.place ∙ ap (λ xs. search_in cmp key (map key_of xs)) c.deref.ensures.value)
    ∙ ap (without key_of cmp key) c.self.view_is
