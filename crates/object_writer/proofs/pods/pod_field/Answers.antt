use Rattle.std.proofs.Common.{◌∙◌, ap}
use Rattle.std.proofs.lemmas.Result.{on_ok_weaker}
use Rattle.resource_codec.specs.Written.{object_of, pod_members}
use Rattle.object_writer.specs.Tokens.{with_value}
use Rattle.object_writer.proofs.Tokens.{field_written}
use Rattle.object_writer.proofs.pods.pod_field.Goals as goal

pub returns : goal.returns
returns c =
    let j = object_of (pod_members c.args.spec.now) in
    on_ok_weaker c.write_pod.result (λ e. e ∙ ap (with_value j) c.in_ok-name.ensures ∙ field_written c.args.name.now j c.args.out.now) c.write_pod.ensures
