use Rattle.std.proofs.Common.{◌<◌, ◌-◌, ◌^◌, length, ap, sym, ◌∙◌, subst}
use Rattle.version_store.specs.State.{state, find}
use Rattle.version_store.specs.Journal.{GenerationBelow}
use Rattle.version_store.proofs.States.{generation_below}
use Rattle.version_store.proofs.store.Store.stamp_of.Goals as goal

pub next_stamp-requires : goal.next_stamp-requires
next_stamp-requires g c =
    let item = g.O.Item in
    let cmp = g.O.Key.Ord.cmp in
    let entries = c.self.inside.entries.items in
    let key = c.key.result.now in
    subst (GenerationBelow item.stamp (2 ^ 64 - 1)) (sym (c.find-standing.ensures ∙ ap (λ es. find item.key cmp key (state item.key cmp es)) c.deref.ensures.value))
    (generation_below item cmp entries key (2 ^ 64 - 1) c.self.invariant.stamped (subst (λ v. length v.entries < 2 ^ 64 - 1) (sym c.self.view_is) c.requires))
