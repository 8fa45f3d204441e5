use Rattle.std.proofs.Common.{refl, sym, subst, ◌∙◌}
use Rattle.step_scheduler.specs.Planes.{plane_of, view_of}
use Rattle.step_scheduler.specs.Touched.{DropsMark, HasNothing, TookIn}
use Rattle.step_scheduler.proofs.Marking.{marks_drop}
use Rattle.step_scheduler.proofs.Touched.{mark_drops}
use Rattle.step_scheduler.proofs.plane.Plane.unmark.Goals as goal

pub invariant_of-self : goal.invariant_of-self
invariant_of-self c = record {
  slots = c.self.invariant.slots;
  marked =
      let p = c.self.inside in
      marks_drop (plane_of p.settings p.store.entries p.moment p.slots p.cursor) p.marks c.unmark.new.self c.args.key.now c.self.invariant.marked
      (subst TookIn (sym c.self.view_is) c.requires.taken) (subst (λ v. HasNothing v.plane c.args.key.now) (sym c.self.view_is) c.requires.nothing)
      c.unmark.ensures.keys c.unmark.ensures.upto c.unmark.ensures.moved;
}

pub returns-clause-touched : goal.returns-clause-touched
returns-clause-touched c =
    let p = c.self.inside in
    let taken = subst TookIn (sym c.self.view_is) c.requires.taken in
    let v = view_of p.settings p.store p.moment p.slots p.cursor p.look_count p.turn_count c.unmark.new.self in
    subst (λ u. DropsMark c.args.key.now u v) c.self.view_is
    (mark_drops (view_of p.settings p.store p.moment p.slots p.cursor p.look_count p.turn_count p.marks) v c.args.key.now
    (record { upto = c.unmark.ensures.upto ∙ taken.upto; moved = c.unmark.ensures.moved ∙ taken.moved }) refl c.unmark.ensures.keys c.unmark.ensures.upto c.unmark.ensures.moved)
