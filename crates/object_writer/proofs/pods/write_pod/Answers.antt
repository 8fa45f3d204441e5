use Rattle.std.proofs.Common.{◌∙◌, ◌++◌, ◌∷◌, [], refl, ap, codes}
use Rattle.std.proofs.lemmas.Result.{on_ok_weaker}
use Rattle.json.specs.Token.{end_object}
use Rattle.resource_codec.specs.Written.{number_field, pod_members, put_fields, pod_fields}
use Rattle.object_writer.specs.Tokens.{with_members}
use Rattle.object_writer.proofs.Tokens.{members_written}
use Rattle.object_writer.proofs.Splits.{both_put}
use Rattle.object_writer.proofs.pods.write_pod.Goals as goal

pub returns : goal.returns
unfolding pod_members
returns c =
    let s = c.args.spec.now in
    let written = c.in_ok-write_members.ensures
    ∙ both_put (codes "containerConcurrency") (codes "timeoutSeconds") (number_field s.concurrency) (number_field s.timeout)
    c.entries-members.result.now c.in_ok-members.members.now c.in_ok-members-2.members.now
    c.open_object.new.self c.write_up_to.new.out c.write_up_to-2.new.out refl c.in_ok-members.ensures c.in_ok-members-2.ensures
    ∙ ap (λ es. with_members (put_fields (pod_fields s) es) c.open_object.new.self) c.entries-members.ensures
    ∙ ap (with_members (pod_members s)) c.in_ok-open_object.ensures in
    on_ok_weaker c.close_object.result
    (λ e. e ∙ ap (λ xs. xs ++ end_object ∷ []) written ∙ members_written (pod_members s) c.args.out.now)
    c.close_object.ensures
