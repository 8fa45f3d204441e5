use Rattle.std.proofs.Common.{◌∙◌, refl}
use Rattle.std.proofs.lemmas.Result.{on_ok_weaker}
use Rattle.resource_codec.specs.Written.{template_fields, template_members}
use Rattle.object_writer.proofs.Tokens.{object_written}
use Rattle.object_writer.proofs.templates.write_template.Goals as goal

pub returns : goal.returns
unfolding template_members
returns c =
    on_ok_weaker c.close_object.result
    (λ e. e ∙ rw (c.in_ok-pod_field.ensures, c.in_ok-metadata_field.ensures, c.in_ok-open_object.ensures)
    (object_written (template_fields c.args.template.now) c.args.out.now refl))
    c.close_object.ensures
