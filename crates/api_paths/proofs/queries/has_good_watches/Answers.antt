use Rattle.std.proofs.Common.{rules, ◌==◌, ℕ, List}
use Rattle.std.proofs.lemmas.Iterator.Search.{all_from_yields_List}
use Rattle.std.proofs.lemmas.Iterator.Splits.{YieldsList-from_slice_split}
use Rattle.api_paths.specs.Queries as queries
use Rattle.api_paths.proofs.queries.has_good_watches.Goals as goal

pub returns : goal.returns
returns c =
    all_from_yields_List (λ (part : List ℕ). queries.is_good_watch part) _ _ c.all.result c.all.ensures.ran
    (YieldsList-from_slice_split _ (λ (b : ℕ). b == 38) c.args.query.now c.split.ensures.rest c.split.ensures.done c.split.ensures.closure (λ x b q k. search rules))
    (λ x b q k. search rules)
