use Rattle.std.proofs.Common.{◌++◌, ◌∷◌, [], ap, ◌∙◌}
use Rattle.std.proofs.lemmas.Result.{on_ok_weaker}
use Rattle.json.specs.Token as token
use Rattle.object_writer.proofs.Scalars.{null_written}
use Rattle.object_writer.proofs.text.JsonText.null.Goals as goal

pub returns : goal.returns
returns c = on_ok_weaker c.null.result (λ e. e ∙ ap (λ ts. ts ++ token.null ∷ []) c.self.view_is ∙ null_written _) c.null.ensures.ok
