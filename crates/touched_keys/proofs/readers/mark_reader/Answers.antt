use Rattle.std.proofs.Common.{sym, ap, ◌∙◌}
use Rattle.resource_types.specs.declared.names.Controller.TheVariants as controller
use Rattle.control_rules.specs.Slots.{slot_key}
use Rattle.touched_keys.specs.Changes.{IsTouched}
use Rattle.touched_keys.specs.Marks.{is_marked}
use Rattle.touched_keys.proofs.Adding.{adds_mark, mark_here}
use Rattle.touched_keys.proofs.Reading.{reader_touched}
use Rattle.touched_keys.proofs.readers.mark_reader.Goals as goal

pub returns-in_ok-mark-clause-adds : goal.returns-in_ok-mark-clause-adds
returns-in_ok-mark-clause-adds c =
    adds_mark (IsTouched c.args.change.now) (slot_key controller.Route c.args.route.now.key.name) c.args.keys.now c.mark.new.keys c.in_ok-mark.ensures.ok
    (reader_touched c.args.change.now c.args.route.now c.requires.read c.requires.beside (sym c.is_reader.ensures ∙ c.if-is_reader.true))

pub returns-in_ok-mark-clause-all : goal.returns-in_ok-mark-clause-all
returns-in_ok-mark-clause-all c = λ t. ap (is_marked (slot_key controller.Route c.args.route.now.key.name)) c.in_ok-mark.ensures.ok ∙ mark_here (slot_key controller.Route c.args.route.now.key.name) c.args.keys.now
