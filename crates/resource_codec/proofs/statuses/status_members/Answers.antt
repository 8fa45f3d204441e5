use Rattle.std.proofs.Common.{refl}
use Rattle.resource_codec.specs.Objects.{status_fields, status_members}
use Rattle.resource_codec.proofs.InOrder.{in_order}
use Rattle.resource_codec.proofs.statuses.status_members.Goals as goal

pub returns : goal.returns
unfolding status_members
returns c =
    rw (c.in_ok-add_text-3.ensures, c.in_ok-add_array-2.ensures, c.in_ok-add_number.ensures, c.in_ok-add_text-2.ensures, c.in_ok-add_text.ensures, c.in_ok-add_array.ensures, c.new-members.ensures)
    (rw (c.in_ok-conditions.ensures, c.observed_generation-observed.ensures, c.in_ok-traffic.ensures) (in_order (status_fields c.args.status.now) refl))
