use Rattle.std.proofs.Common.{◌∙◌, ◌++◌, ◌∷◌, [], ap, codes}
use Rattle.std.proofs.lemmas.Result.{on_ok_weaker}
use Rattle.json.specs.Token.{end_object}
use Rattle.resource_codec.specs.Objects.{status_json}
use Rattle.object_writer.specs.Tokens.{with_value}
use Rattle.object_writer.proofs.Tokens.{field_written}
use Rattle.object_writer.proofs.objects.write_tail.Goals as goal

pub returns : goal.returns
returns c =
    let j = status_json c.args.status.now in
    on_ok_weaker c.close_object.result
    (λ e. e ∙ ap (λ ts. ts ++ end_object ∷ []) (c.in_ok-write_status.ensures ∙ ap (with_value j) c.in_ok-name.ensures ∙ field_written (codes "status") j c.args.out.now))
    c.close_object.ensures
