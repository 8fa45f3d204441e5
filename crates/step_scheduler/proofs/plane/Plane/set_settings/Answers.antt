use Rattle.std.proofs.Common.{sym, ◌∙◌}
use Rattle.step_scheduler.proofs.Sets.{nothing_written, sets}
use Rattle.step_scheduler.proofs.Marking.{marks_first}
use Rattle.step_scheduler.proofs.plane.Plane.set_settings.Goals as goal

pub invariant_of-self : goal.invariant_of-self
invariant_of-self c = record {
  slots =
      let p = c.self.inside in
      sets p.settings p.store.entries p.moment p.slots p.cursor c.self.invariant.slots (nothing_written p.store.entries (sym c.version.ensures.count ∙ c.if-version-eq0.true)) c.args.settings;
  marked =
      let p = c.self.inside in
      marks_first c.args.settings p.store.entries p.moment p.marks (nothing_written p.store.entries (sym c.version.ensures.count ∙ c.if-version-eq0.true)) c.self.invariant.marked.within;
}
