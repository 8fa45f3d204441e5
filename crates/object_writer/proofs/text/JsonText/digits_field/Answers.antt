use Rattle.std.proofs.Common.{ap, ◌∙◌, decimal}
use Rattle.std.proofs.lemmas.Result.{on_ok_weaker}
use Rattle.json_tree.specs.declared.value.Json.{Str}
use Rattle.object_writer.specs.Tokens.{with_value}
use Rattle.object_writer.proofs.Left.{some_text, digits_some}
use Rattle.object_writer.proofs.text.JsonText.digits_field.Goals as goal

pub returns : goal.returns
returns c =
    let n = c.args.number in
    on_ok_weaker c.digits.result
    (λ e. e ∙ ap (with_value (Str (decimal n))) c.in_ok-name.ensures ∙ some_text c.args.name.now (decimal n) c.args.self.now (digits_some n c.ranges.number.fits))
    c.digits.ensures
