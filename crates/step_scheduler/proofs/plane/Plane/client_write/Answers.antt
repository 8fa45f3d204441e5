use Rattle.std.proofs.Common.{sym, subst}
use Rattle.manifest_intake.specs.Good.{is_good}
use Rattle.control_rules.specs.Lawful.{MayWrite}
use Rattle.control_rules.specs.Slots.{present}
use Rattle.step_scheduler.proofs.Events.{client_plane}
use Rattle.step_scheduler.proofs.Marking.{marks_grow}
use Rattle.step_scheduler.proofs.Promising.{kept_safe, kept_unused}
use Rattle.step_scheduler.proofs.plane.Plane.client_write.Goals as goal

pub invariant_of-self : goal.invariant_of-self
invariant_of-self c = record {
  slots =
      let p = c.self.inside in
      client_plane p.settings p.store.entries p.moment p.slots p.cursor c.self.invariant.slots c.apply.new.self.entries c.apply.ensures.grows c.args.plan c.version-seen.result c.apply.ensures.entries c.version-seen.ensures.count
      (subst (λ v. MayWrite is_good (present v.plane) c.args.plan) (sym c.self.view_is) c.requires.may);
  marked =
      let p = c.self.inside in
      marks_grow p.settings p.store.entries p.moment p.marks c.self.invariant.marked c.apply.new.self.entries c.apply.ensures.grows;
}

pub returns-clause-safe : goal.returns-clause-safe
returns-clause-safe c =
    let p = c.self.inside in
    kept_safe _
    (client_plane p.settings p.store.entries p.moment p.slots p.cursor c.self.invariant.slots c.apply.new.self.entries c.apply.ensures.grows c.args.plan c.version-seen.result c.apply.ensures.entries c.version-seen.ensures.count
    (subst (λ v. MayWrite is_good (present v.plane) c.args.plan) (sym c.self.view_is) c.requires.may)).kept

pub returns-clause-unused : goal.returns-clause-unused
returns-clause-unused c =
    let p = c.self.inside in
    kept_unused _
    (client_plane p.settings p.store.entries p.moment p.slots p.cursor c.self.invariant.slots c.apply.new.self.entries c.apply.ensures.grows c.args.plan c.version-seen.result c.apply.ensures.entries c.version-seen.ensures.count
    (subst (λ v. MayWrite is_good (present v.plane) c.args.plan) (sym c.self.view_is) c.requires.may)).kept
