use Rattle.std.proofs.Common.{ap, ◌∙◌}
use Rattle.std.specs.Option.{option_copied}
use Rattle.json.specs.Print.{print}
use Rattle.resource_codec.specs.Views.{list_of}
use Rattle.object_writer.specs.Tokens.{with_value}
use Rattle.object_writer.proofs.Tokens.{compact}
use Rattle.object_writer.proofs.lists.write_list.Goals as goal

pub returns-clause-text : goal.returns-clause-text
returns-clause-text c =
    let j = list_of c.args.store.now.entries c.args.kind (option_copied c.args.space) in
    c.into_bytes.ensures.text ∙ ap print (c.in_ok-show_list.ensures ∙ ap (with_value j) c.in_ok-out.ensures) ∙ compact j
