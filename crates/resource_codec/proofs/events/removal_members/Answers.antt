use Rattle.std.proofs.Common.{refl}
use Rattle.resource_codec.specs.Lists.{removal_event_fields, removal_event}
use Rattle.resource_codec.proofs.InOrder.{in_order}
use Rattle.resource_codec.proofs.events.removal_members.Goals as goal

pub returns : goal.returns
unfolding removal_event
returns c =
    rw (c.in_ok-add_word-2.ensures, c.in_ok-add_made.ensures, c.in_ok-add_word.ensures, c.in_ok-add_text.ensures, c.new-members.ensures)
    (rw (c.removal_namespace.ensures, c.in_ok-digits.ensures) (in_order (removal_event_fields c.args.key.now c.args.version) refl))
