use Rattle.std.proofs.Common.{map, sym, ap, ◌∙◌}
use Rattle.version_store.specs.State.{find}
use Rattle.version_store.specs.Index.{search_in}
use Rattle.slot_table.proofs.Changes.{found_at, found_nowhere}
use Rattle.slot_table.proofs.Place.{read_there}
use Rattle.slot_table.proofs.table.SlotTable.find.Goals as goal

pub returns-in-Ok : goal.returns-in-Ok
returns-in-Ok g c =
    let total = g.met.R.Key.Ord.total in
    let cmp = g.R.Key.Ord.cmp in
    let key_of = g.R.Keyed.key in
    let rows = c.self.inside.rows.items in
    let key = c.args.key.now in
    sym (ap (find key_of cmp key) (sym c.self.view_is)
    ∙ found_at key_of cmp total rows c.self.invariant key c.in-Ok.place c.index.result.now
    (c.in-Ok.ensures.place ∙ ap (λ xs. search_in cmp key (map key_of xs)) c.deref.ensures.value)
    (read_there rows c.deref.result.now c.in-Ok.place c.index.result.now c.deref.ensures.value c.in-Ok.ensures.within c.index.ensures))

pub returns-in-Err : goal.returns-in-Err
returns-in-Err g c =
    let total = g.met.R.Key.Ord.total in
    let cmp = g.R.Key.Ord.cmp in
    let key_of = g.R.Keyed.key in
    let rows = c.self.inside.rows.items in
    let key = c.args.key.now in
    sym (ap (find key_of cmp key) (sym c.self.view_is)
    ∙ found_nowhere key_of cmp total rows c.self.invariant key c.in-Err.field-0
    (c.in-Err.ensures.place ∙ ap (λ xs. search_in cmp key (map key_of xs)) c.deref.ensures.value))
