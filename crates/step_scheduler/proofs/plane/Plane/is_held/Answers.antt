use Rattle.std.proofs.Common.{ap, ◌∙◌}
use Rattle.std.specs.Option.{is_some}
use Rattle.control_rules.specs.Slots.{look_of}
use Rattle.step_scheduler.proofs.Rows.{is_found}
use Rattle.step_scheduler.proofs.plane.Plane.is_held.Goals as goal

pub returns : goal.returns
returns c = c.is_some.ensures ∙ is_found c.args.key.now c.self.inside.slots c.find.result c.find.ensures ∙ ap (λ v. is_some (look_of c.args.key.now v.plane.slots)) c.self.view_is
