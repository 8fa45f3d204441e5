use Rattle.std.proofs.Common.{sym, subst, ◌∙◌}
use Rattle.step_scheduler.specs.Planes.{plane_of}
use Rattle.step_scheduler.specs.Touched.{HasNothing}
use Rattle.step_scheduler.proofs.Marking.{untouched_rests}
use Rattle.step_scheduler.proofs.plane.Plane.touched.Goals as goal

pub returns-clause-rest : goal.returns-clause-rest
returns-clause-rest c = λ e.
    let p = c.self.inside in
    subst (λ v. HasNothing v.plane c.args.key.now) c.self.view_is
    (untouched_rests (plane_of p.settings p.store.entries p.moment p.slots p.cursor) c.self.invariant.slots.kept p.marks c.self.invariant.marked c.args.key.now (sym c.is_touched.ensures ∙ e))
