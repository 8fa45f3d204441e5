use Rattle.std.proofs.Common.{ap, ◌∙◌}
use Rattle.std.proofs.lemmas.Result.{on_ok_weaker}
use Rattle.json_tree.specs.declared.value.Json.{Str}
use Rattle.object_writer.specs.Tokens.{with_value}
use Rattle.object_writer.proofs.Left.{text_absent, text_present}
use Rattle.object_writer.proofs.text.JsonText.text_field.Goals as goal

pub returns-then-is_empty : goal.returns-then-is_empty
returns-then-is_empty c = text_absent c.args.name.now c.args.text.now c.args.self.now c.if-is_empty.ensures

pub returns : goal.returns
returns c =
    on_ok_weaker c.text.result
    (λ e. e ∙ ap (with_value (Str c.args.text.now)) c.in_ok-name.ensures ∙ text_present c.args.name.now c.args.text.now c.args.self.now c.if-is_empty.ensures)
    c.text.ensures
