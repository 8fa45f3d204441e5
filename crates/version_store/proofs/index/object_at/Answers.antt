use Rattle.std.proofs.Common.{◌<◌, length, ap, sym, ◌∙◌, subst}
use Rattle.version_store.specs.State.{state}
use Rattle.version_store.specs.Index.{IsIndex, IsPlaceIn, found}
use Rattle.version_store.proofs.States.{present_index}
use Rattle.version_store.proofs.Present.{object_read}
use Rattle.version_store.proofs.index.object_at.Goals as goal

pub entry_at-requires-clause-index : goal.entry_at-requires-clause-index
entry_at-requires-clause-index g c =
    let cmp = g.O.Key.Ord.cmp in
    subst (IsIndex cmp c.args.entries.now) (sym c.requires.index.versions) (present_index g.O.Item cmp g.met.O.Key.Ord.total c.args.entries.now c.requires.index.stamped)

pub returns-in-Ok : goal.returns-in-Ok
returns-in-Ok g c =
    let cmp = g.O.Key.Ord.cmp in
    let entries = c.args.entries.now in
    let present = c.args.present.now in
    let within : c.in-Ok.place < length present = subst (λ r. IsPlaceIn r (length present)) c.in-Ok.is c.requires.within in
    c.as_ref.ensures.value
    ∙ object_read g.O.Item cmp entries present c.requires.index c.in-Ok.place c.entry_at.result.now within c.entry_at.ensures.entry
    ∙ ap (found (state g.O.Item.key cmp entries)) (sym c.in-Ok.is)
