use Rattle.std.proofs.Common.{refl}
use Rattle.resource_codec.specs.Objects.{owner_fields, owner_members}
use Rattle.resource_codec.proofs.InOrder.{in_order}
use Rattle.resource_codec.proofs.objects.owner_members.Goals as goal

pub returns : goal.returns
unfolding owner_members
returns c =
    rw (c.in_ok-add_made.ensures, c.in_ok-add_text.ensures, c.in_ok-add_word-2.ensures, c.in_ok-add_truth.ensures, c.in_ok-add_word.ensures, c.new-members.ensures)
    (rw (c.api_version.ensures, c.as_str.ensures, c.in_ok-uid.ensures) (in_order (owner_fields c.args.owner.now) refl))
