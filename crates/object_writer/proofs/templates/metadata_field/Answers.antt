use Rattle.std.proofs.Common.{◌∙◌, ◌++◌, ◌∷◌, [], refl, codes}
use Rattle.std.proofs.lemmas.Result.{on_ok_weaker}
use Rattle.json.specs.Token.{key}
use Rattle.resource_codec.specs.Written.{template_metadata, template_metadata_fields}
use Rattle.object_writer.proofs.Tokens.{object_written, object_behind}
use Rattle.object_writer.proofs.Left.{unless_empty}
use Rattle.object_writer.proofs.Parts.{object_absent}
use Rattle.object_writer.proofs.templates.metadata_field.Goals as goal

pub returns-then-is_bare : goal.returns-then-is_bare
returns-then-is_bare c = object_absent (codes "metadata") (template_metadata c.args.template.now) c.args.out.now (c.if-is_bare.ensures.0 refl)

pub returns : goal.returns
unfolding template_metadata
returns c =
    let t = c.args.template.now in
    let ts = c.args.out.now in
    on_ok_weaker c.close_object.result
    (λ e. e ∙ rw (c.in_ok-text_field.ensures, c.in_ok-texts_field-2.ensures, c.in_ok-texts_field.ensures, c.in_ok-open_object.ensures, c.in_ok-name.ensures)
    (rw c.as_str.ensures (object_written (template_metadata_fields t) (ts ++ key (codes "metadata") ∷ []) refl))
    ∙ object_behind (codes "metadata") (template_metadata t) ts (unless_empty c.if-is_bare.ensures.1))
    c.close_object.ensures
