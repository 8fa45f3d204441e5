use Rattle.std.proofs.Common.{◌≡◌, ap, sym, subst, ◌∙◌, OnOk}
use Rattle.std.specs.Prelude.{map}
use Rattle.std.specs.Option.{option_copied}
use Rattle.resource_types.specs.Lookups.{state, of_kind, in_space}
use Rattle.resource_codec.specs.Objects.{encoded}
use Rattle.resource_codec.specs.Views.{objects_asked}
use Rattle.resource_codec.proofs.Polled.{all_asked, space_asked}
use Rattle.object_writer.specs.Tokens.{with_values}
use Rattle.object_writer.proofs.lists.show_items.Goals as goal

pub returns-in-Some : goal.returns-in-Some
returns-in-Some c =
    let entries = c.args.store.now.entries in
    let objects = of_kind c.args.kind (state entries) in
    subst (λ asked. OnOk c.show_walk.result (c.show_walk.new.out ≡ with_values (map encoded asked) c.args.out.now))
    (c.walk_space.ensures ∙ ap (λ space. in_space space objects) c.as_str.ensures ∙ space_asked c.in-Some.space.now objects
    ∙ ap (λ space. objects_asked entries c.args.kind (option_copied space)) (sym c.in-Some.is))
    c.show_walk.ensures

pub returns-in-None : goal.returns-in-None
returns-in-None c =
    let entries = c.args.store.now.entries in
    subst (λ asked. OnOk c.show_walk-in-None.result (c.show_walk-in-None.new.out ≡ with_values (map encoded asked) c.args.out.now))
    (c.walk.ensures ∙ all_asked (of_kind c.args.kind (state entries)) ∙ ap (λ space. objects_asked entries c.args.kind (option_copied space)) (sym c.in-None.is))
    c.show_walk-in-None.ensures
