use Rattle.std.proofs.Common.{◌∙◌, refl}
use Rattle.std.proofs.lemmas.Result.{on_ok_weaker}
use Rattle.std.specs.Prelude.{map, length}
use Rattle.std.specs.Option.{option_copied}
use Rattle.resource_codec.specs.Objects.{encoded}
use Rattle.resource_codec.specs.Views.{objects_asked}
use Rattle.resource_codec.specs.Lists.{table_list_fields, table_list}
use Rattle.object_writer.proofs.Tokens.{object_written}
use Rattle.object_writer.proofs.lists.show_tables.Goals as goal

pub returns : goal.returns
unfolding table_list
returns c =
    on_ok_weaker c.close_object.result
    (λ e. e ∙ rw (c.in_ok-digits_field.ensures, c.in_ok-text_field.ensures, c.in_ok-items_field.ensures, c.in_ok-open_object.ensures)
    (rw c.version.ensures.count (object_written (table_list_fields (map encoded (objects_asked c.args.store.now.entries c.args.kind (option_copied c.args.space))) (length c.args.store.now.entries)) c.args.out.now refl)))
    c.close_object.ensures
