use Rattle.std.proofs.Common.{◌∙◌, ◌++◌, ◌∷◌, [], refl, codes}
use Rattle.std.proofs.lemmas.Result.{on_ok_weaker}
use Rattle.json.specs.Token.{key}
use Rattle.resource_codec.specs.Written.{metadata_fields, metadata_members}
use Rattle.resource_codec.specs.Objects.{object_metadata}
use Rattle.object_writer.specs.Documents.{body_labels, body_annotations}
use Rattle.object_writer.proofs.Tokens.{object_written, object_behind}
use Rattle.object_writer.proofs.Parts.{metadata_some}
use Rattle.object_writer.proofs.metadata.metadata_field.Goals as goal

pub returns : goal.returns
unfolding metadata_members
returns c =
    let o = c.args.object.now in
    let h = object_metadata o (body_labels o o.body) (body_annotations o o.body) in
    let ts = c.args.out.now in
    on_ok_weaker c.close_object.result
    (λ e. e ∙ rw (c.in_ok-text_field-4.ensures, c.in_ok-digits_field.ensures, c.in_ok-owner_field.ensures, c.in_ok-text_field-3.ensures, c.in_ok-text_field-2.ensures, c.in_ok-labels_field.ensures, c.in_ok-number_field.ensures, c.in_ok-text_field.ensures, c.in_ok-annotations_field.ensures, c.in_ok-open_object.ensures, c.in_ok-name.ensures)
    (rw (c.as_str.ensures, c.as_str-2.ensures, c.as_str-3.ensures, c.as_str-4.ensures, c.in_ok-created.ensures, c.in_ok-uid.ensures) (object_written (metadata_fields h) (ts ++ key (codes "metadata") ∷ []) refl))
    ∙ object_behind (codes "metadata") (metadata_members h) ts (metadata_some o (body_labels o o.body) (body_annotations o o.body)))
    c.close_object.ensures
