use Rattle.std.proofs.Common.{◌∙◌, refl}
use Rattle.std.proofs.lemmas.Result.{on_ok_weaker}
use Rattle.resource_codec.specs.Objects.{table_fields, table_members}
use Rattle.object_writer.proofs.Tokens.{object_written}
use Rattle.object_writer.proofs.tables.write_table.Goals as goal

pub returns : goal.returns
unfolding table_members
returns c =
    let fields = table_fields c.args.object.now c.args.route c.args.rows.now c.args.targets.now in
    on_ok_weaker c.close_object.result
    (λ e. e ∙ rw (c.in_ok-published_field.ensures, c.in_ok-rows_field.ensures, c.in_ok-text_field-4.ensures, c.in_ok-digits_field.ensures, c.in_ok-text_field-3.ensures, c.in_ok-text_field-2.ensures, c.in_ok-text_field.ensures, c.in_ok-open_object.ensures)
    (rw (c.other_namespace-space.ensures, c.as_str.ensures, c.as_str-2.ensures, c.as_str-3.ensures, c.in_ok-uid.ensures) (object_written fields c.args.out.now refl)))
    c.close_object.ensures
