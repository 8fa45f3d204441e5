use Rattle.std.proofs.Common.{◌∙◌, map, codes}
use Rattle.std.specs.Option.{option_copied}
use Rattle.std.proofs.lemmas.Result.{on_ok_weaker}
use Rattle.resource_codec.specs.Objects.{encoded}
use Rattle.resource_codec.specs.Views.{objects_asked}
use Rattle.object_writer.proofs.Tokens.{array_field_written}
use Rattle.object_writer.proofs.lists.items_field.Goals as goal

pub returns : goal.returns
returns c =
    on_ok_weaker c.close_array.result
    (λ e. e ∙ rw (c.in_ok-show_items.ensures, c.in_ok-open_array.ensures, c.in_ok-name.ensures)
    (array_field_written (codes "items") (map encoded (objects_asked c.args.store.now.entries c.args.kind (option_copied c.args.space))) c.args.out.now))
    c.close_array.ensures
