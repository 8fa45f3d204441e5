use Rattle.std.proofs.Common.{◌∙◌, refl}
use Rattle.std.proofs.lemmas.Result.{on_ok_weaker}
use Rattle.object_writer.proofs.objects.write_head.Goals as goal

pub returns : goal.returns
returns c =
    on_ok_weaker c.name.result
    (λ e. e ∙ rw (c.in_ok-metadata_field.ensures, c.in_ok-text_field-2.ensures, c.in_ok-text_field.ensures, c.in_ok-open_object.ensures)
    (rw (c.api_version.ensures, c.as_str.ensures) refl))
    c.name.ensures
