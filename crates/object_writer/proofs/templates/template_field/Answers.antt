use Rattle.std.proofs.Common.{◌∙◌, ap, codes}
use Rattle.std.proofs.lemmas.Result.{on_ok_weaker}
use Rattle.resource_codec.specs.Written.{object_of, template_members}
use Rattle.object_writer.specs.Tokens.{with_value}
use Rattle.object_writer.proofs.Tokens.{field_written}
use Rattle.object_writer.proofs.templates.template_field.Goals as goal

pub returns : goal.returns
returns c =
    let j = object_of (template_members c.args.template.now) in
    on_ok_weaker c.write_template.result
    (λ e. e ∙ ap (with_value j) c.in_ok-name.ensures ∙ field_written (codes "template") j c.args.out.now)
    c.write_template.ensures
