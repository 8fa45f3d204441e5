use Rattle.std.proofs.Common.{refl}
use Rattle.resource_codec.specs.Written.{target_fields, target_members}
use Rattle.resource_codec.proofs.InOrder.{in_order}
use Rattle.resource_codec.proofs.writing.target_members.Goals as goal

pub returns : goal.returns
unfolding target_members
returns c = rw (c.in_ok-add_text-3.ensures, c.in_ok-add_text-2.ensures, c.in_ok-add_number.ensures, c.in_ok-add_truth.ensures, c.in_ok-add_text.ensures, c.in_ok-members.ensures) (in_order (target_fields c.args.target.now) refl)
