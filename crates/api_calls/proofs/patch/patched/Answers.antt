use Rattle.std.proofs.Common.{◌≡◌, ap, ◌∙◌}
use Rattle.std.proofs.lemmas.Result.{IfOk-weaker}
use Rattle.json_tree.specs.declared.value.Json.{Json}
use Rattle.json_tree.specs.Tree.{data_of}
use Rattle.json_tree.specs.Back.{json_of}
use Rattle.json_tree.proofs.Back.{value_by}
use Rattle.merge_patch.specs.Merge.{merge_of}
use Rattle.api_calls.specs.Calls.{patched_document}
use Rattle.api_calls.proofs.patch.patched.Goals as goal

pub returns-clause-value : goal.returns-clause-value
returns-clause-value c =
    let patch = c.args.patch.now in
    let document = c.in_ok-document.document in
    IfOk-weaker c.merge.result (λ (j : Json). data_of j ≡ merge_of (data_of document) (data_of patch)) (λ (j : Json). j ≡ patched_document c.args.old.now patch)
    (λ j e. value_by j (merge_of (data_of document) (data_of patch)) e ∙ ap (λ (d : Json). json_of (merge_of (data_of d) (data_of patch))) c.in_ok-document.ensures.value)
    c.merge.ensures.value
