use Rattle.std.proofs.Common.{ap, ◌∙◌}
use Rattle.control_rules.specs.Slots.{look_of, slot_of}
use Rattle.step_scheduler.specs.declared.held.Held.TheVariants as held
use Rattle.step_scheduler.proofs.Rows.{slot_found, slot_idle}
use Rattle.step_scheduler.proofs.plane.Plane.slot.Goals as goal

pub returns-in-View : goal.returns-in-View
returns-in-View c =
    slot_found c.args.key.now c.self.inside.slots c.in-Some.slot.now (held.View c.in-View.field-0) c.in-Some.ensures c.in-View.is ∙ ap (λ v. slot_of (look_of c.args.key.now v.plane.slots)) c.self.view_is

pub returns-in-Plan : goal.returns-in-Plan
returns-in-Plan c =
    slot_found c.args.key.now c.self.inside.slots c.in-Some.slot.now (held.Plan c.in-Plan.field-0) c.in-Some.ensures c.in-Plan.is ∙ ap (λ v. slot_of (look_of c.args.key.now v.plane.slots)) c.self.view_is

pub returns-in-None : goal.returns-in-None
returns-in-None c = slot_idle c.args.key.now c.self.inside.slots c.in-None.ensures ∙ ap (λ v. slot_of (look_of c.args.key.now v.plane.slots)) c.self.view_is
