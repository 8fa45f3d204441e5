use Rattle.std.proofs.Common.{ap, ◌∙◌}
use Rattle.version_store.specs.State.{put}
use Rattle.slot_table.proofs.Changes.{search-equal, put_over, put_new, ordered_put}
use Rattle.slot_table.proofs.Place.{key_self}
use Rattle.slot_table.proofs.table.SlotTable.hold.Goals as goal

pub invariant_of-self : goal.invariant_of-self
invariant_of-self g c =
    let total = g.met.R.Key.Ord.total in
    let cmp = g.R.Key.Ord.cmp in
    let key_of = g.R.Keyed.key in
    let rows = c.self.inside.rows.items in
    ordered_put key_of cmp total rows c.self.invariant c.args.row _
    (put_over key_of cmp total rows c.self.invariant (key_of c.args.row) c.args.row c.in-Ok.place (key_self cmp total (key_of c.args.row))
    (c.in-Ok.ensures.place ∙ search-equal key_of cmp _ _ _ _ c.key.ensures c.deref.ensures.value))

pub invariant_of-self-in-Continue-1 : goal.invariant_of-self-in-Continue-1
invariant_of-self-in-Continue-1 g c =
    let total = g.met.R.Key.Ord.total in
    let cmp = g.R.Key.Ord.cmp in
    let key_of = g.R.Keyed.key in
    let rows = c.self.inside.rows.items in
    ordered_put key_of cmp total rows c.self.invariant c.args.row c.insert.new.self.items
    (c.in_ok-insert-in-Err.ensures.items
    ∙ put_new key_of cmp total rows c.self.invariant c.args.row c.in-Err.place
    (c.in-Err.ensures.place ∙ search-equal key_of cmp _ _ _ _ c.key.ensures c.deref.ensures.value))

pub returns-in-Ok-clause-ok : goal.returns-in-Ok-clause-ok
returns-in-Ok-clause-ok g c =
    let total = g.met.R.Key.Ord.total in
    let cmp = g.R.Key.Ord.cmp in
    let key_of = g.R.Keyed.key in
    let rows = c.self.inside.rows.items in
    put_over key_of cmp total rows c.self.invariant (key_of c.args.row) c.args.row c.in-Ok.place (key_self cmp total (key_of c.args.row))
    (c.in-Ok.ensures.place ∙ search-equal key_of cmp _ _ _ _ c.key.ensures c.deref.ensures.value)
    ∙ ap (put key_of cmp c.args.row) c.self.view_is

pub returns-in_ok-insert-in-Err-clause-ok : goal.returns-in_ok-insert-in-Err-clause-ok
returns-in_ok-insert-in-Err-clause-ok g c =
    let total = g.met.R.Key.Ord.total in
    let cmp = g.R.Key.Ord.cmp in
    let key_of = g.R.Keyed.key in
    let rows = c.self.inside.rows.items in
    c.in_ok-insert-in-Err.ensures.items
    ∙ put_new key_of cmp total rows c.self.invariant c.args.row c.in-Err.place
    (c.in-Err.ensures.place ∙ search-equal key_of cmp _ _ _ _ c.key.ensures c.deref.ensures.value)
    ∙ ap (put key_of cmp c.args.row) c.self.view_is
