use Rattle.std.proofs.Common.{◌++◌, ◌∷◌, [], ap, ◌∙◌}
use Rattle.std.proofs.lemmas.Result.{on_ok_weaker}
use Rattle.json.specs.Token as token
use Rattle.object_writer.proofs.Scalars.{truth_written}
use Rattle.object_writer.proofs.text.JsonText.truth.Goals as goal

pub returns : goal.returns
returns c = on_ok_weaker c.boolean.result (λ e. e ∙ ap (λ ts. ts ++ token.boolean c.args.truth ∷ []) c.self.view_is ∙ truth_written _ _) c.boolean.ensures.ok
