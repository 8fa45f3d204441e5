use Rattle.std.proofs.Common.{◌++◌, ◌∷◌, [], ap, ◌∙◌, decimal}
use Rattle.std.proofs.lemmas.Result.{on_ok_weaker}
use Rattle.json.specs.Token as token
use Rattle.object_writer.proofs.Scalars.{number_written}
use Rattle.object_writer.proofs.text.JsonText.number.Goals as goal

pub returns : goal.returns
returns c = on_ok_weaker c.u64.result (λ e. e ∙ ap (λ ts. ts ++ token.number (decimal c.args.number) ∷ []) c.self.view_is ∙ number_written _ _) c.u64.ensures.ok
