use Rattle.std.proofs.Common.{◌∙◌, Bool, sym, ap}
use Rattle.std.specs.Prelude.{if◌then◌else◌, map, length}
use Rattle.std.specs.Option.{option_copied}
use Rattle.std.proofs.lemmas.Result.{on_ok_weaker}
use Rattle.resource_codec.specs.Written.{object_of}
use Rattle.resource_codec.specs.Objects.{encoded}
use Rattle.resource_codec.specs.Lists.{object_list, table_list}
use Rattle.resource_codec.specs.Views.{objects_asked}
use Rattle.object_writer.specs.Tokens.{with_value}
use Rattle.object_writer.proofs.lists.show_list.Goals as goal

pub returns-then-eq : goal.returns-then-eq
returns-then-eq c =
    let k = c.args.kind in
    let items = map encoded (objects_asked c.args.store.now.entries k (option_copied c.args.space)) in
    let n = length c.args.store.now.entries in
    on_ok_weaker c.show_tables.result
    (λ e. e ∙ ap (λ (b : Bool). with_value (object_of (if b then table_list items n else object_list k items n)) c.args.out.now) (sym (sym c.eq.ensures ∙ c.if-eq.true)))
    c.show_tables.ensures

pub returns-else-eq : goal.returns-else-eq
returns-else-eq c =
    let k = c.args.kind in
    let items = map encoded (objects_asked c.args.store.now.entries k (option_copied c.args.space)) in
    let n = length c.args.store.now.entries in
    on_ok_weaker c.show_objects.result
    (λ e. e ∙ ap (λ (b : Bool). with_value (object_of (if b then table_list items n else object_list k items n)) c.args.out.now) (sym (sym c.eq.ensures ∙ c.if-eq.false)))
    c.show_objects.ensures
