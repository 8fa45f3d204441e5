use Rattle.std.proofs.Common.{rules, ℕ, ◌==◌, List}
use Rattle.std.proofs.lemmas.Iterator.Search.{all_from_yields_List}
use Rattle.std.proofs.lemmas.Iterator.Splits.{YieldsList-from_slice_split}
use Rattle.serve_names.specs.Labels as spec
use Rattle.serve_names.proofs.domains.has_labels.Goals as goal

pub returns : goal.returns
returns c =
    all_from_yields_List (λ (part : List ℕ). spec.is_label_of part 63) _ _ c.all.result c.all.ensures.ran
    (YieldsList-from_slice_split _ (λ (b : ℕ). b == 46) c.args.bytes.now c.split.ensures.rest c.split.ensures.done c.split.ensures.closure (λ x b q k. search rules))
    (λ x b q k. search rules)
