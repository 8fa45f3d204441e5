use Rattle.std.proofs.Common.{sym, ap, ◌∙◌}
use Rattle.std.proofs.lemmas.Result.{on_ok_weaker}
use Rattle.json_tree.specs.declared.value.Json.{Bool}
use Rattle.resource_codec.specs.Written.{truth_field}
use Rattle.object_writer.specs.Tokens.{with_value, with_field}
use Rattle.object_writer.proofs.Left.{truth_present, truth_absent}
use Rattle.object_writer.proofs.text.JsonText.truth_field.Goals as goal

pub returns-in_ok-name-in-Some : goal.returns-in_ok-name-in-Some
returns-in_ok-name-in-Some c =
    let k = c.args.name.now in
    let ts = c.args.self.now in
    on_ok_weaker c.truth.result
    (λ e. e ∙ ap (with_value (Bool c.in-Some.truth)) c.in_ok-name-in-Some.ensures ∙ truth_present k c.in-Some.truth ts
    ∙ ap (λ o. with_field k (truth_field o) ts) (sym c.in-Some.is))
    c.truth.ensures

pub returns-in-None : goal.returns-in-None
returns-in-None c =
    let k = c.args.name.now in
    let ts = c.args.self.now in
    truth_absent k ts ∙ ap (λ o. with_field k (truth_field o) ts) (sym c.in-None.is)
