use Rattle.std.proofs.Common.{◌∙◌, refl}
use Rattle.std.proofs.lemmas.Result.{on_ok_weaker}
use Rattle.object_writer.proofs.targets.target_fields.Goals as goal

pub returns : goal.returns
returns c =
    on_ok_weaker c.text_field-3.result
    (λ e. e ∙ rw (c.in_ok-text_field-2.ensures, c.in_ok-number_field.ensures, c.in_ok-truth_field.ensures, c.in_ok-text_field.ensures)
    (rw (c.as_str.ensures, c.as_str-2.ensures, c.as_str-3.ensures) refl))
    c.text_field-3.ensures
