use Rattle.std.proofs.Common.{refl}
use Rattle.resource_codec.specs.Lists.{poll_fields, poll_members}
use Rattle.resource_codec.proofs.InOrder.{in_order}
use Rattle.resource_codec.proofs.events.poll_members.Goals as goal

pub returns : goal.returns
unfolding poll_members
returns c =
    rw (c.in_ok-add_made.ensures, c.in_ok-add_word.ensures, c.in_ok-add.ensures, c.new-members.ensures)
    (rw c.in_ok-digits.ensures (in_order (poll_fields c.args.events c.args.version) refl))
