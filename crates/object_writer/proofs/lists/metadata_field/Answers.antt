use Rattle.std.proofs.Common.{◌∙◌, ◌++◌, ◌∷◌, [], refl, codes}
use Rattle.std.proofs.lemmas.Result.{on_ok_weaker}
use Rattle.json.specs.Token.{key}
use Rattle.resource_codec.specs.Written.{object_of}
use Rattle.resource_codec.specs.Lists.{list_metadata_fields, list_metadata}
use Rattle.object_writer.proofs.Tokens.{object_written, field_written}
use Rattle.object_writer.proofs.lists.metadata_field.Goals as goal

pub returns : goal.returns
unfolding list_metadata
returns c =
    let ts = c.args.out.now in
    on_ok_weaker c.close_object.result
    (λ e. e ∙ rw (c.in_ok-digits_field.ensures, c.in_ok-open_object.ensures, c.in_ok-name.ensures)
    (object_written (list_metadata_fields c.args.version) (ts ++ key (codes "metadata") ∷ []) refl)
    ∙ field_written (codes "metadata") (object_of (list_metadata c.args.version)) ts)
    c.close_object.ensures
