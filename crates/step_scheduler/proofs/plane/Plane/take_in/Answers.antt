use Rattle.step_scheduler.specs.Planes.{plane_of}
use Rattle.step_scheduler.proofs.Marking.{marks_come}
use Rattle.step_scheduler.proofs.plane.Plane.take_in.Goals as goal

pub invariant_of-self : goal.invariant_of-self
invariant_of-self c = record {
  slots = c.self.invariant.slots;
  marked =
      let p = c.self.inside in
      marks_come (plane_of p.settings p.store.entries p.moment p.slots p.cursor) c.self.invariant.slots.kept p.marks c.self.invariant.marked c.take_in.new.self c.take_in.result
      c.take_in.ensures.touched c.take_in.ensures.ok c.take_in.ensures.err;
}
