use Rattle.std.proofs.Common.{refl}
use Rattle.resource_codec.specs.Objects.{condition_fields, condition_members}
use Rattle.resource_codec.proofs.InOrder.{in_order}
use Rattle.resource_codec.proofs.statuses.condition_members.Goals as goal

pub returns : goal.returns
unfolding condition_members
returns c =
    rw (c.in_ok-add_word-3.ensures, c.in_ok-add_word-2.ensures, c.in_ok-add_word.ensures, c.in_ok-add_text-2.ensures, c.in_ok-add_text.ensures, c.in_ok-add_made.ensures, c.in_ok-members.ensures)
    (rw (c.in_ok-since.ensures, c.severity_word.ensures, c.truth_word.ensures, c.condition_word.ensures) (in_order (condition_fields c.args.condition.now) refl))
