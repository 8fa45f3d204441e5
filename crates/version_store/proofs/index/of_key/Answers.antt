use Rattle.std.proofs.Common.{◌∙◌, length, ap, sym, subst}
use Rattle.std.proofs.lemmas.List.{length-map}
use Rattle.version_store.specs.State.{state}
use Rattle.version_store.specs.Index.{IsIndex, IsPlaceIn, keys_at, search_in, found, last_rows, row_version}
use Rattle.version_store.proofs.Keyed.{find-search}
use Rattle.version_store.proofs.States.{present_index, keys_present, state_order}
use Rattle.version_store.proofs.Lasts.{last_index, last_version-found, keys_last}
use Rattle.version_store.proofs.index.of_key.Goals as goal

pub search-among_lasts-requires : goal.search-among_lasts-requires
search-among_lasts-requires g c =
    let cmp = g.O.Key.Ord.cmp in
    subst (IsIndex cmp c.args.entries.now) (sym c.requires.lasts) (last_index cmp g.met.O.Key.Ord.total c.args.entries.now)

pub search-among_present-requires : goal.search-among_present-requires
search-among_present-requires g c =
    let cmp = g.O.Key.Ord.cmp in
    subst (IsIndex cmp c.args.entries.now) (sym c.requires.present.versions) (present_index g.O.Item cmp g.met.O.Key.Ord.total c.args.entries.now c.requires.present.stamped)

pub returns-clause-present : goal.returns-clause-present
returns-clause-present g c =
    let cmp = g.O.Key.Ord.cmp in
    let entries = c.args.entries.now in
    c.search-among_present.ensures.place
    ∙ ap (search_in cmp c.args.key.now) (ap (keys_at entries) c.requires.present.versions ∙ keys_present g.O.Item cmp g.met.O.Key.Ord.total entries c.requires.present.stamped)

pub returns-clause-standing : goal.returns-clause-standing
returns-clause-standing g c =
    let item = g.O.Item in
    let cmp = g.O.Key.Ord.cmp in
    let total = g.met.O.Key.Ord.total in
    let entries = c.args.entries.now in
    let st = state item.key cmp entries in
    c.object_at.ensures
    ∙ ap (found st) (c.search-among_present.ensures.place ∙ ap (search_in cmp c.args.key.now) (ap (keys_at entries) c.requires.present.versions ∙ keys_present item cmp total entries c.requires.present.stamped))
    ∙ sym (find-search item.key cmp total c.args.key.now st (state_order item cmp total entries))

pub returns-clause-lasts : goal.returns-clause-lasts
returns-clause-lasts g c =
    let cmp = g.O.Key.Ord.cmp in
    let entries = c.args.entries.now in
    c.search-among_lasts.ensures.place ∙ ap (search_in cmp c.args.key.now) (ap (keys_at entries) c.requires.lasts ∙ keys_last cmp entries)

pub returns-clause-last : goal.returns-clause-last
returns-clause-last g c =
    let cmp = g.O.Key.Ord.cmp in
    let entries = c.args.entries.now in
    let len = ap length c.requires.lasts ∙ length-map (last_rows cmp entries) row_version in
    c.version_at.ensures
    ∙ last_version-found cmp g.met.O.Key.Ord.total c.args.key.now entries c.args.lasts.now c.search-among_lasts.result c.requires.lasts (subst (IsPlaceIn c.search-among_lasts.result) len c.search-among_lasts.ensures.within) c.search-among_lasts.ensures.place
