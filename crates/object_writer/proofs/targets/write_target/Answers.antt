use Rattle.std.proofs.Common.{◌∙◌, refl}
use Rattle.std.proofs.lemmas.Result.{on_ok_weaker}
use Rattle.resource_codec.specs.Written.{target_fields, target_members}
use Rattle.object_writer.proofs.Tokens.{object_written}
use Rattle.object_writer.proofs.targets.write_target.Goals as goal

pub returns : goal.returns
unfolding target_members
returns c =
    on_ok_weaker c.close_object.result
    (λ e. e ∙ rw (c.in_ok-target_fields.ensures, c.in_ok-open_object.ensures)
    (object_written (target_fields c.args.target.now) c.args.out.now refl))
    c.close_object.ensures
