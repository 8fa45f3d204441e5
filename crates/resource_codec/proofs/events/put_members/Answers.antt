use Rattle.std.proofs.Common.{refl}
use Rattle.resource_codec.specs.Lists.{put_event_fields, put_event}
use Rattle.resource_codec.proofs.InOrder.{in_order}
use Rattle.resource_codec.proofs.events.put_members.Goals as goal

pub returns : goal.returns
unfolding put_event
returns c =
    rw (c.in_ok-add_word.ensures, c.in_ok-add.ensures, c.new-members.ensures)
    (rw (c.in_ok-shown.ensures.encoded, c.put_type.ensures) (in_order (put_event_fields c.args.object.now c.args.made) refl))
