use Rattle.std.proofs.Common.{rules, ◌∙◌, ◌==◌, ℕ, List}
use Rattle.std.proofs.lemmas.Iterator.Consumers.{count_from_yields_List, YieldsList-from_filter}
use Rattle.std.proofs.lemmas.Iterator.Splits.{YieldsList-from_slice_split}
use Rattle.std.proofs.lemmas.List.Sums.{length-filter}
use Rattle.api_paths.specs.Queries as queries
use Rattle.api_paths.proofs.queries.count_named.Goals as goal

pub returns : goal.returns
returns c =
    count_from_yields_List c.filter.result c.count.result c.count.ensures.ran
    (YieldsList-from_filter _ (λ (part : List ℕ). queries.is_named c.args.name.now part)
    (YieldsList-from_slice_split _ (λ (b : ℕ). b == 38) c.args.query.now (cc) (cc) (cc) (λ x b q k. search rules))
    c.filter.ensures.closure
    (λ x b q k. search rules))
    ∙ length-filter (λ (part : List ℕ). queries.is_named c.args.name.now part) (queries.parts_of c.args.query.now)
