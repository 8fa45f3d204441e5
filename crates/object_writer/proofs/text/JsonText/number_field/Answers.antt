use Rattle.std.proofs.Common.{sym, ap, ◌∙◌}
use Rattle.std.proofs.lemmas.Result.{on_ok_weaker}
use Rattle.json_tree.specs.declared.value.Json.{Nat}
use Rattle.resource_codec.specs.Written.{number_field}
use Rattle.object_writer.specs.Tokens.{with_value, with_field}
use Rattle.object_writer.proofs.Left.{number_present, number_absent}
use Rattle.object_writer.proofs.text.JsonText.number_field.Goals as goal

pub returns-in_ok-name-in-Some : goal.returns-in_ok-name-in-Some
returns-in_ok-name-in-Some c =
    let k = c.args.name.now in
    let ts = c.args.self.now in
    on_ok_weaker c.number.result
    (λ e. e ∙ ap (with_value (Nat c.in-Some.number)) c.in_ok-name-in-Some.ensures ∙ number_present k c.in-Some.number ts
    ∙ ap (λ o. with_field k (number_field o) ts) (sym c.in-Some.is))
    c.number.ensures

pub returns-in-None : goal.returns-in-None
returns-in-None c =
    let k = c.args.name.now in
    let ts = c.args.self.now in
    number_absent k ts ∙ ap (λ o. with_field k (number_field o) ts) (sym c.in-None.is)
