use Rattle.std.proofs.Common.{Some, refl, subst}
use Rattle.version_store.specs.State.{Grows}
use Rattle.step_scheduler.specs.Reported.{WritesReport}
use Rattle.step_scheduler.specs.Planes.{view_of}
use Rattle.step_scheduler.specs.Touched.{IsRevisionKey, TouchesAtMost}
use Rattle.step_scheduler.proofs.Reporting.{report_makeable, reports_is, reports_kept, hears_none, hears, hears_at, hears_same}
use Rattle.step_scheduler.proofs.Marking.{marks_grow}
use Rattle.step_scheduler.proofs.Touched.{hearing_touches}
use Rattle.step_scheduler.proofs.plane.Plane.hear.Goals as goal

pub returns-in_default-clause-event : goal.returns-in_default-clause-event
returns-in_default-clause-event c =
    let p = c.self.inside in
    hears_same c.args.report _ _ _ c.self.view_is (hears_none p.settings p.store.entries p.moment p.slots p.cursor c.self.invariant.slots c.args.report c.in_default.ensures)

pub apply-requires-clause-key : goal.apply-requires-clause-key
apply-requires-clause-key c = (report_makeable c.self.inside.store.entries c.prepare.new.self.entries c.args.report c.in-Some.uid c.in-Ok.plan c.in-Some.ensures c.in-Ok.ensures).key

pub apply-requires-clause-removal : goal.apply-requires-clause-removal
apply-requires-clause-removal c = (report_makeable c.self.inside.store.entries c.prepare.new.self.entries c.args.report c.in-Some.uid c.in-Ok.plan c.in-Some.ensures c.in-Ok.ensures).removal

pub invariant_of-self-in-Ok : goal.invariant_of-self-in-Ok
invariant_of-self-in-Ok c = record {
  slots =
      let p = c.self.inside in
      let writes : WritesReport c.prepare.new.self.entries c.apply.new.self.entries p.moment c.args.report c.in-Some.uid c.in-Ok.plan c.version-seen.result c.apply.result =
      record { planned = c.in-Ok.ensures; count = c.version-seen.ensures.count; written = c.apply.ensures.entries; answered = c.apply.ensures.answer } in
      reports_kept p.settings p.store.entries p.moment p.slots p.cursor c.self.invariant.slots c.apply.new.self.entries c.args.report (Some c.apply.result)
      (subst (λ j. Grows j c.apply.new.self.entries) c.prepare.ensures.entries c.apply.ensures.grows)
      (reports_is p.settings p.store.entries p.moment p.slots p.cursor c.self.invariant.slots c.apply.new.self.entries c.args.report c.in-Some.uid c.in-Ok.plan c.version-seen.result c.apply.result c.in-Some.ensures
      (subst (λ j. WritesReport j c.apply.new.self.entries p.moment c.args.report c.in-Some.uid c.in-Ok.plan c.version-seen.result c.apply.result) c.prepare.ensures.entries writes));
  marked =
      let p = c.self.inside in
      marks_grow p.settings p.store.entries p.moment p.marks c.self.invariant.marked c.apply.new.self.entries
      (subst (λ j. Grows j c.apply.new.self.entries) c.prepare.ensures.entries c.apply.ensures.grows);
}

pub returns-in-Ok-clause-event : goal.returns-in-Ok-clause-event
returns-in-Ok-clause-event c =
    let p = c.self.inside in
    let writes : WritesReport c.prepare.new.self.entries c.apply.new.self.entries p.moment c.args.report c.in-Some.uid c.in-Ok.plan c.version-seen.result c.apply.result =
    record { planned = c.in-Ok.ensures; count = c.version-seen.ensures.count; written = c.apply.ensures.entries; answered = c.apply.ensures.answer } in
    hears_at c.args.report _ _ _ _ c.self.view_is
    (hears p.settings p.store.entries p.moment p.slots p.cursor c.self.invariant.slots c.apply.new.self.entries c.args.report c.in-Some.uid c.in-Ok.plan c.version-seen.result c.apply.result c.in-Some.ensures
    (subst (λ j. WritesReport j c.apply.new.self.entries p.moment c.args.report c.in-Some.uid c.in-Ok.plan c.version-seen.result c.apply.result) c.prepare.ensures.entries writes))

pub returns-in-Ok-clause-touched : goal.returns-in-Ok-clause-touched
returns-in-Ok-clause-touched c =
    let p = c.self.inside in
    let writes : WritesReport c.prepare.new.self.entries c.apply.new.self.entries p.moment c.args.report c.in-Some.uid c.in-Ok.plan c.version-seen.result c.apply.result =
    record { planned = c.in-Ok.ensures; count = c.version-seen.ensures.count; written = c.apply.ensures.entries; answered = c.apply.ensures.answer } in
    let event = reports_is p.settings p.store.entries p.moment p.slots p.cursor c.self.invariant.slots c.apply.new.self.entries c.args.report c.in-Some.uid c.in-Ok.plan c.version-seen.result c.apply.result c.in-Some.ensures
    (subst (λ j. WritesReport j c.apply.new.self.entries p.moment c.args.report c.in-Some.uid c.in-Ok.plan c.version-seen.result c.apply.result) c.prepare.ensures.entries writes) in
    let v = view_of p.settings c.apply.new.self p.moment p.slots p.cursor p.look_count p.turn_count p.marks in
    subst (λ u. TouchesAtMost (IsRevisionKey c.args.report.revision) u v) c.self.view_is
    (hearing_touches (view_of p.settings p.store p.moment p.slots p.cursor p.look_count p.turn_count p.marks) v c.args.report c.self.invariant.marked.within refl event.plane_is)
