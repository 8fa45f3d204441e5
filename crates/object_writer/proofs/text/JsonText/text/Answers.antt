use Rattle.std.proofs.Common.{◌++◌, ◌∷◌, [], ap, ◌∙◌}
use Rattle.std.proofs.lemmas.Result.{on_ok_weaker}
use Rattle.json.specs.Token as token
use Rattle.object_writer.proofs.Scalars.{text_written}
use Rattle.object_writer.proofs.text.JsonText.text.Goals as goal

pub returns : goal.returns
returns c = on_ok_weaker c.string.result (λ e. e ∙ ap (λ ts. ts ++ token.string c.args.text.now ∷ []) c.self.view_is ∙ text_written _ _) c.string.ensures.ok
