use Rattle.std.proofs.Common.{◌≡◌, map, refl, sym, ap, set, subst, ◌∙◌}
use Rattle.std.specs.Prelude.{IsSome, IfSome}
use Rattle.version_store.specs.State.{find, put}
use Rattle.version_store.specs.Index.{search_in}
use Rattle.slot_table.proofs.Changes.{found_nowhere, changed_there, ordered_there}
use Rattle.slot_table.proofs.Place.{read_there, no_some}
use Rattle.slot_table.proofs.table.SlotTable+Slot+K+H.set_held.Goals as goal

pub invariant_of-self : goal.invariant_of-self
invariant_of-self g c =
    let total = g.met.K.Ord.total in
    let cmp = g.K.Ord.cmp in
    let rows = c.self.inside.rows.items in
    let key = c.args.key.now in
    ordered_there (λ slot. slot.key) cmp total rows c.self.invariant key c.in-Ok.place c.index_mut.result.now (λ slot. record slot { held = c.args.held }) (λ slot. refl)
    (c.in-Ok.ensures.place ∙ ap (λ xs. search_in cmp key (map (λ slot. slot.key) xs)) c.deref.ensures.value)
    (read_there rows c.deref.result.now c.in-Ok.place c.index_mut.result.now c.deref.ensures.value c.in-Ok.ensures.within c.index_mut.ensures.value)

pub unreachable-requires : goal.unreachable-requires
unreachable-requires g c =
    let total = g.met.K.Ord.total in
    let cmp = g.K.Ord.cmp in
    let rows = c.self.inside.rows.items in
    let key = c.args.key.now in
    let none = found_nowhere (λ slot. slot.key) cmp total rows c.self.invariant key c.in-Err.field-0
    (c.in-Err.ensures.place ∙ ap (λ xs. search_in cmp key (map (λ slot. slot.key) xs)) c.deref.ensures.value) in
    let some : IsSome (find (λ slot. slot.key) cmp key rows) = subst (λ xs. IsSome (find (λ slot. slot.key) cmp key xs)) (sym c.self.view_is) c.requires in
    no_some none some

pub returns : goal.returns
returns g c =
    let total = g.met.K.Ord.total in
    let cmp = g.K.Ord.cmp in
    let rows = c.self.inside.rows.items in
    let key = c.args.key.now in
    subst (λ xs. IfSome (find (λ slot. slot.key) cmp key xs) (λ slot. set rows c.in-Ok.place (record c.index_mut.result.now { held = c.args.held }) ≡ put (λ slot. slot.key) cmp (record slot { held = c.args.held }) xs)) c.self.view_is
    (changed_there (λ slot. slot.key) cmp total rows c.self.invariant key c.in-Ok.place c.index_mut.result.now (λ slot. record slot { held = c.args.held }) (λ slot. refl)
    (c.in-Ok.ensures.place ∙ ap (λ xs. search_in cmp key (map (λ slot. slot.key) xs)) c.deref.ensures.value)
    (read_there rows c.deref.result.now c.in-Ok.place c.index_mut.result.now c.deref.ensures.value c.in-Ok.ensures.within c.index_mut.ensures.value))
