use Rattle.resource_codec.proofs.InOrder.{address_behind}
use Rattle.resource_codec.proofs.statuses.published_members.Goals as goal

pub returns : goal.returns
returns c = rw (c.in_ok-add_text.ensures, c.in_ok-members.ensures) (address_behind c.args.target.now)
