use Rattle.std.proofs.Common.{sym, ap, ◌∙◌}
use Rattle.control_rules.specs.Slots.{slot_key}
use Rattle.touched_keys.specs.Changes.{IsTouched}
use Rattle.touched_keys.specs.Marks.{is_marked}
use Rattle.touched_keys.proofs.Adding.{adds_mark, mark_here}
use Rattle.touched_keys.proofs.marking.mark_if.Goals as goal

pub returns-in_ok-mark-clause-adds : goal.returns-in_ok-mark-clause-adds
returns-in_ok-mark-clause-adds c =
    adds_mark (IsTouched c.args.change.now) (slot_key c.args.controller c.args.name.now) c.args.keys.now c.mark.new.keys c.in_ok-mark.ensures.ok (sym c.touches.ensures ∙ c.if-touches.true)

pub returns-in_ok-mark-clause-all : goal.returns-in_ok-mark-clause-all
returns-in_ok-mark-clause-all c = λ t. ap (is_marked (slot_key c.args.controller c.args.name.now)) c.in_ok-mark.ensures.ok ∙ mark_here (slot_key c.args.controller c.args.name.now) c.args.keys.now
