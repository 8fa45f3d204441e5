use Rattle.std.proofs.Common.{◌++◌, ◌∷◌, [], ap, ◌∙◌, decimal}
use Rattle.std.proofs.lemmas.Result.{on_ok_weaker}
use Rattle.json.specs.Token as token
use Rattle.object_writer.proofs.Scalars.{text_written}
use Rattle.object_writer.proofs.text.JsonText.digits.Goals as goal

pub returns : goal.returns
returns c = on_ok_weaker c.quoted_u64.result (λ e. e ∙ ap (λ ts. ts ++ token.string (decimal c.args.number) ∷ []) c.self.view_is ∙ text_written _ _) c.quoted_u64.ensures.ok
