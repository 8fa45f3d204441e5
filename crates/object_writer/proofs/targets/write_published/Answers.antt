use Rattle.std.proofs.Common.{◌∙◌, refl}
use Rattle.std.proofs.lemmas.Result.{on_ok_weaker}
use Rattle.object_writer.proofs.Published.{published_fields}
use Rattle.resource_codec.specs.Written.{target_members}
use Rattle.resource_codec.specs.Objects.{published_members}
use Rattle.object_writer.proofs.Tokens.{object_written}
use Rattle.object_writer.proofs.targets.write_published.Goals as goal

pub returns : goal.returns
unfolding target_members published_members
returns c =
    on_ok_weaker c.close_object.result
    (λ e. e ∙ rw (c.in_ok-text_field.ensures, c.in_ok-target_fields.ensures, c.in_ok-open_object.ensures)
    (rw c.as_str.ensures (object_written (published_fields c.args.target.now) c.args.out.now refl)))
    c.close_object.ensures
