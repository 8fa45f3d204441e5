use Rattle.std.proofs.Common.{ap, ◌∙◌}
use Rattle.json.specs.Print.{print}
use Rattle.resource_codec.specs.Objects.{encoded}
use Rattle.object_writer.specs.Tokens.{with_value}
use Rattle.object_writer.proofs.Tokens.{compact}
use Rattle.object_writer.proofs.objects.write_object.Goals as goal

pub returns-clause-text : goal.returns-clause-text
returns-clause-text c =
    let j = encoded c.args.object.now in
    c.into_bytes.ensures.text ∙ ap print (c.in_ok-show_object.ensures ∙ ap (with_value j) c.in_ok-out.ensures) ∙ compact j
