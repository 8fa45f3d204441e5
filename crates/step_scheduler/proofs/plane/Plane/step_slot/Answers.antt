use Rattle.std.proofs.Common.{Some, None, sym, ap, subst, ◌∙◌}
use Rattle.step_scheduler.specs.declared.held.Stage.TheVariants as stage
use Rattle.step_scheduler.specs.Works.{Writes}
use Rattle.step_scheduler.specs.Planes.{plane_of}
use Rattle.step_scheduler.proofs.Steps.{idle_stage, looked_stage, planned_stage, steps_off, steps_look, steps_nothing, steps_plan, steps_grow, steps_write, planned_at, at_view, stays_same}
use Rattle.step_scheduler.proofs.Marking.{marks_grow}
use Rattle.step_scheduler.proofs.Promising.{can_look, on_err}
use Rattle.step_scheduler.proofs.plane.Plane.step_slot.Goals as goal

pub invariant_of-self : goal.invariant_of-self
invariant_of-self c = record {
  slots =
      let p = c.self.inside in
      (steps_off p.settings p.store.entries p.moment p.slots p.cursor c.args.key.now c.self.invariant.slots (sym c.is_key.ensures ∙ c.if-not-is_key.true) c.idle.new.self c.idle.ensures).plane;
  marked = c.self.invariant.marked;
}

pub returns-then-not-is_key-clause-ok : goal.returns-then-not-is_key-clause-ok
returns-then-not-is_key-clause-ok c =
    let p = c.self.inside in
    at_view c.args.key.now _ _ _ _ c.self.view_is (steps_off p.settings p.store.entries p.moment p.slots p.cursor c.args.key.now c.self.invariant.slots (sym c.is_key.ensures ∙ c.if-not-is_key.true) c.idle.new.self c.idle.ensures).event

pub look-requires : goal.look-requires
look-requires c =
    let p = c.self.inside in
    can_look (plane_of p.settings p.store.entries p.moment p.slots p.cursor) c.self.invariant.slots.kept c.args.key.now.controller

pub invariant_of-self-in-Idle : goal.invariant_of-self-in-Idle
invariant_of-self-in-Idle c = record {
  slots =
      let p = c.self.inside in
      (steps_look p.settings p.store.entries p.moment p.slots p.cursor c.args.key.now c.self.invariant.slots (sym c.is_key.ensures ∙ c.if-not-is_key.false) (idle_stage _ (sym c.in-Idle.is ∙ c.in_ok-stage.ensures)) c.look.new.slots c.in_ok-seen-in-Idle.seen c.in_ok-seen-in-Idle.ensures.ok).plane;
  marked = c.self.invariant.marked;
}

pub invariant_of-self-in-Looked-None : goal.invariant_of-self-in-Looked-None
invariant_of-self-in-Looked-None c = record {
  slots =
      let p = c.self.inside in
      (steps_nothing p.settings p.store.entries p.moment p.slots p.cursor c.args.key.now c.self.invariant.slots (sym c.is_key.ensures ∙ c.if-not-is_key.false) (looked_stage _ None (ap stage.Looked (sym c.in-Looked-None.field-0-is) ∙ sym c.in-Looked-None.is ∙ c.in_ok-stage.ensures)) c.idle-in-Looked-None.new.self c.idle-in-Looked-None.ensures).plane;
  marked = c.self.invariant.marked;
}

pub invariant_of-self-in-Looked-Some : goal.invariant_of-self-in-Looked-Some
invariant_of-self-in-Looked-Some c = record {
  slots =
      let p = c.self.inside in
      (steps_plan p.settings p.store.entries p.moment p.slots p.cursor c.args.key.now c.self.invariant.slots (sym c.is_key.ensures ∙ c.if-not-is_key.false) c.in-Looked-Some.plan (looked_stage _ (Some c.in-Looked-Some.plan) (ap stage.Looked (sym c.in-Looked-Some.field-0-is) ∙ sym c.in-Looked-Some.is ∙ c.in_ok-stage.ensures)) c.set_held.new.self c.set_held.ensures).plane;
  marked = c.self.invariant.marked;
}

pub write-requires-clause-planned : goal.write-requires-clause-planned
write-requires-clause-planned c =
    let p = c.self.inside in
    planned_at p.settings p.store.entries p.moment p.slots p.cursor c.args.key.now c.self.invariant.slots (sym c.is_key.ensures ∙ c.if-not-is_key.false) (planned_stage _ (sym c.in-Planned.is ∙ c.in_ok-stage.ensures))

pub invariant_of-self-in-Planned : goal.invariant_of-self-in-Planned
invariant_of-self-in-Planned c = record {
  slots =
      let p = c.self.inside in
      (steps_write p.settings p.store.entries p.moment p.slots p.cursor c.args.key.now c.self.invariant.slots (sym c.is_key.ensures ∙ c.if-not-is_key.false) (planned_stage _ (sym c.in-Planned.is ∙ c.in_ok-stage.ensures)) c.write.new.store.entries c.write.new.slots c.write.result
      (subst (λ j. Writes j c.write.new.store.entries p.moment c.args.key.now p.slots c.write.new.slots c.write.result) c.in_ok-prepare-in-Planned.ensures.entries c.write.ensures)).plane;
  marked =
      let p = c.self.inside in
      marks_grow p.settings p.store.entries p.moment p.marks c.self.invariant.marked c.write.new.store.entries
      (steps_grow p.settings p.store.entries p.moment p.slots p.cursor c.args.key.now c.self.invariant.slots (sym c.is_key.ensures ∙ c.if-not-is_key.false) (planned_stage _ (sym c.in-Planned.is ∙ c.in_ok-stage.ensures)) c.write.new.store.entries c.write.new.slots c.write.result
      (subst (λ j. Writes j c.write.new.store.entries p.moment c.args.key.now p.slots c.write.new.slots c.write.result) c.in_ok-prepare-in-Planned.ensures.entries c.write.ensures));
}

pub returns-in_ok-seen-in-Idle-clause-ok : goal.returns-in_ok-seen-in-Idle-clause-ok
returns-in_ok-seen-in-Idle-clause-ok c =
    let p = c.self.inside in
    at_view c.args.key.now _ _ _ _ c.self.view_is (steps_look p.settings p.store.entries p.moment p.slots p.cursor c.args.key.now c.self.invariant.slots (sym c.is_key.ensures ∙ c.if-not-is_key.false) (idle_stage _ (sym c.in-Idle.is ∙ c.in_ok-stage.ensures)) c.look.new.slots c.in_ok-seen-in-Idle.seen c.in_ok-seen-in-Idle.ensures.ok).event

pub returns-in-Looked-None-clause-ok : goal.returns-in-Looked-None-clause-ok
returns-in-Looked-None-clause-ok c =
    let p = c.self.inside in
    at_view c.args.key.now _ _ _ _ c.self.view_is (steps_nothing p.settings p.store.entries p.moment p.slots p.cursor c.args.key.now c.self.invariant.slots (sym c.is_key.ensures ∙ c.if-not-is_key.false) (looked_stage _ None (ap stage.Looked (sym c.in-Looked-None.field-0-is) ∙ sym c.in-Looked-None.is ∙ c.in_ok-stage.ensures)) c.idle-in-Looked-None.new.self c.idle-in-Looked-None.ensures).event

pub returns-in-Looked-Some-clause-ok : goal.returns-in-Looked-Some-clause-ok
returns-in-Looked-Some-clause-ok c =
    let p = c.self.inside in
    at_view c.args.key.now _ _ _ _ c.self.view_is (steps_plan p.settings p.store.entries p.moment p.slots p.cursor c.args.key.now c.self.invariant.slots (sym c.is_key.ensures ∙ c.if-not-is_key.false) c.in-Looked-Some.plan (looked_stage _ (Some c.in-Looked-Some.plan) (ap stage.Looked (sym c.in-Looked-Some.field-0-is) ∙ sym c.in-Looked-Some.is ∙ c.in_ok-stage.ensures)) c.set_held.new.self c.set_held.ensures).event

pub returns-in_ok-prepare-in-Planned-clause-ok : goal.returns-in_ok-prepare-in-Planned-clause-ok
returns-in_ok-prepare-in-Planned-clause-ok c =
    let p = c.self.inside in
    at_view c.args.key.now _ _ _ _ c.self.view_is (steps_write p.settings p.store.entries p.moment p.slots p.cursor c.args.key.now c.self.invariant.slots (sym c.is_key.ensures ∙ c.if-not-is_key.false) (planned_stage _ (sym c.in-Planned.is ∙ c.in_ok-stage.ensures)) c.write.new.store.entries c.write.new.slots c.write.result
    (subst (λ j. Writes j c.write.new.store.entries p.moment c.args.key.now p.slots c.write.new.slots c.write.result) c.in_ok-prepare-in-Planned.ensures.entries c.write.ensures)).event

pub returns-in_err-stage-clause-err : goal.returns-in_err-stage-clause-err
returns-in_err-stage-clause-err c = on_err _ _ (stays_same _ _ c.self.view_is c.self.invariant.slots.kept)
