use Rattle.std.proofs.Common.{◌++◌, ◌∷◌, [], ap, ◌∙◌, SFits, w64, to_z-of_z, rules}
use Rattle.std.proofs.lemmas.Result.{on_ok_weaker}
use Rattle.std.specs.Fmt.{signed_decimal}
use Rattle.json.specs.Token as token
use Rattle.object_writer.proofs.Scalars.{signed_written}
use Rattle.object_writer.proofs.text.JsonText.signed.Goals as goal

pub returns : goal.returns
returns c =
    let fits : SFits w64 c.args.number = search rules in
    let digits = ap (λ n. c.self.inside.writer.tokens ++ token.number (signed_decimal n) ∷ []) (to_z-of_z fits) in
    on_ok_weaker c.i64.result
    (λ e. e ∙ digits ∙ ap (λ ts. ts ++ token.number (signed_decimal c.args.number) ∷ []) c.self.view_is ∙ signed_written _ _) c.i64.ensures.ok
