use Rattle.std.proofs.Common.{◌∙◌, ap, sym, subst}
use Rattle.version_store.specs.State.{state}
use Rattle.version_store.specs.Index.{IsIndex, keys_at, search_in, found}
use Rattle.version_store.proofs.Keyed.{find-search}
use Rattle.version_store.proofs.States.{present_index, keys_present, state_order}
use Rattle.version_store.proofs.index.find.Goals as goal

pub search-place-requires : goal.search-place-requires
search-place-requires g c =
    let cmp = g.O.Key.Ord.cmp in
    subst (IsIndex cmp c.args.entries.now) (sym c.requires.versions) (present_index g.O.Item cmp g.met.O.Key.Ord.total c.args.entries.now c.requires.stamped)

pub returns : goal.returns
returns g c =
    let item = g.O.Item in
    let cmp = g.O.Key.Ord.cmp in
    let total = g.met.O.Key.Ord.total in
    let entries = c.args.entries.now in
    let key = g.S.SearchKey.sought c.args.sought.now in
    let st = state item.key cmp entries in
    c.object_at.ensures
    ∙ ap (found st) (c.search-place.ensures.place ∙ ap (search_in cmp key) (ap (keys_at entries) c.requires.versions ∙ keys_present item cmp total entries c.requires.stamped))
    ∙ sym (find-search item.key cmp total key st (state_order item cmp total entries))
