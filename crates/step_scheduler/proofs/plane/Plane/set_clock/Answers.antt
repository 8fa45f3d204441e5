use Rattle.step_scheduler.proofs.Events.{clock_moves}
use Rattle.step_scheduler.proofs.Marking.{marks_move}
use Rattle.step_scheduler.proofs.plane.Plane.set_clock.Goals as goal

pub invariant_of-self : goal.invariant_of-self
invariant_of-self c = record {
  slots =
      let p = c.self.inside in
      clock_moves p.settings p.store.entries p.moment p.slots p.cursor c.self.invariant.slots c.args.moment c.if-moment-self.false c.requires;
  marked =
      let p = c.self.inside in
      marks_move p.settings p.store.entries p.moment p.marks c.self.invariant.marked c.args.moment c.note_moment.new.self c.note_moment.ensures.keys c.note_moment.ensures.upto c.note_moment.ensures.moved;
}
