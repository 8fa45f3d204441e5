use Rattle.std.proofs.Common.{◌∙◌, length, ap, sym, subst}
use Rattle.std.proofs.lemmas.List.{length-map}
use Rattle.version_store.specs.Index.{IsIndex, IsPlaceIn, last_rows, row_version}
use Rattle.version_store.proofs.Lasts.{last_index, last_version-found}
use Rattle.version_store.proofs.index.last.Goals as goal

pub search-place-requires : goal.search-place-requires
search-place-requires g c =
    let cmp = g.O.Key.Ord.cmp in
    subst (IsIndex cmp c.args.entries.now) (sym c.requires) (last_index cmp g.met.O.Key.Ord.total c.args.entries.now)

pub returns : goal.returns
returns g c =
    let cmp = g.O.Key.Ord.cmp in
    let entries = c.args.entries.now in
    let len = ap length c.requires ∙ length-map (last_rows cmp entries) row_version in
    c.version_at.ensures
    ∙ last_version-found cmp g.met.O.Key.Ord.total c.args.key.now entries c.args.lasts.now c.search-place.result c.requires (subst (IsPlaceIn c.search-place.result) len c.search-place.ensures.within) c.search-place.ensures.place
