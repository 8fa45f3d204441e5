use Rattle.std.proofs.Common.{◌∙◌, refl}
use Rattle.std.proofs.lemmas.Result.{on_ok_weaker}
use Rattle.resource_codec.specs.Objects.{row_fields, row_members}
use Rattle.object_writer.proofs.Tokens.{object_written}
use Rattle.object_writer.proofs.tables.write_row.Goals as goal

pub returns : goal.returns
unfolding row_members
returns c =
    on_ok_weaker c.close_object.result
    (λ e. e ∙ rw (c.in_ok-text_field-4.ensures, c.in_ok-text_field-3.ensures, c.in_ok-text_field-2.ensures, c.in_ok-number_field.ensures, c.in_ok-text_field.ensures, c.in_ok-open_object.ensures)
    (rw (c.as_str.ensures, c.as_str-2.ensures, c.as_str-3.ensures, c.as_str-4.ensures, c.in_ok-uid.ensures) (object_written (row_fields c.args.row.now) c.args.out.now refl)))
    c.close_object.ensures
