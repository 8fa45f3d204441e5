use Rattle.std.proofs.Common.{◌≡◌, ◌∙◌, ℕ, List, Some, option_copied, find, codes, sym, ap}
use Rattle.api_paths.specs.Queries.{parts_of, is_named}
use Rattle.api_paths.proofs.VersionLemmas.{version_is_good}
use Rattle.api_paths.proofs.queries.version_after.Goals as goal

pub version_of-requires : goal.version_of-requires
version_of-requires c =
    let found : find (is_named (codes "resourceVersion")) (parts_of c.args.query.now) ≡ Some c.in-Some.part.now =
    sym c.first_named.ensures ∙ ap (option_copied {T = List ℕ}) c.in-Some.is in
    rw c.value_of.ensures (version_is_good c.args.query.now c.in-Some.part.now c.requires found)
