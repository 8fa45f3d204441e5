use Rattle.std.proofs.Common.{refl, arith}
use Rattle.step_scheduler.proofs.Chains.{then_works, works_grow}
use Rattle.step_scheduler.proofs.Settling.{settling_starts, settling_ends, settling_goes, settling_falls, turns_fit, no_more, more_next, turn_made, calm_ends}
use Rattle.step_scheduler.proofs.Promising.{settles_well, keeps_tables}
use Rattle.step_scheduler.proofs.plane.Plane.settle.Goals as goal

pub turns-init : goal.turns-init
turns-init c = record {
  settling = settling_starts c.args.self.now.plane c.version-version.result c.version-version.ensures.kept c.version-version.ensures.count (omega arith);
  looks = omega arith;
  count = no_more _;
  calm = λ h. record { none = refl; looks = refl; untouched = h };
}

pub turns-preserved : goal.turns-preserved
turns-preserved c = record {
  settling =
      settling_goes c.args.self.now.plane c.turns.self.plane c.turn.new.self.plane c.turns.turns c.turns.version c.version-after.result c.turns.invariant.settling c.in_ok-turn.ensures.ok.is c.in_ok-turn.ensures.works
      c.version-after.ensures.count (λ e. absurd (omega (arith, e, c.if-after-version.false))) (omega arith);
  looks = omega (arith, c.turns.invariant.looks, c.in_ok-turn.ensures.looks);
  count = more_next _ _ _ _ c.turns.invariant.count c.in_ok-turn.ensures.turns;
  calm = λ h. absurd (
      let made = turn_made c.turns.self.plane c.turn.new.self.plane c.turns.version c.version-after.result c.in_ok-turn.field-0 c.in_ok-turn.ensures.ok c.turns.invariant.settling.counted c.version-after.ensures.count in
      let none = (c.in_ok-turn.ensures.calm (c.turns.invariant.calm h).untouched).0 in
      let longer = (works_grow c.in_ok-turn.ensures.works).longer in
      omega (arith, made, none, longer, c.turns.invariant.settling.counted, c.version-after.ensures.count, c.if-after-version.false));
}

pub turns-smaller : goal.turns-smaller
turns-smaller c =
    settling_falls c.args.self.now.plane c.turns.self.plane c.turn.new.self.plane c.turns.turns c.turns.version c.version-after.result c.turns.invariant.settling c.in_ok-turn.ensures.ok.is c.in_ok-turn.ensures.works
    c.version-after.ensures.count (λ e. absurd (omega (arith, e, c.if-after-version.false))) (omega arith)

pub overflow_add-turns : goal.overflow_add-turns
overflow_add-turns c = omega (arith, turns_fit c.args.self.now.plane c.turns.self.plane c.turns.turns c.turns.version c.turns.invariant.settling)

pub returns-in_err-turn-clause-works : goal.returns-in_err-turn-clause-works
returns-in_err-turn-clause-works c = then_works c.turns.invariant.settling.works c.in_err-turn.ensures.works

pub returns-then-after-version-clause-works : goal.returns-then-after-version-clause-works
returns-then-after-version-clause-works c = then_works c.turns.invariant.settling.works c.in_ok-turn.ensures.works

pub returns-then-after-version-clause-ok : goal.returns-then-after-version-clause-ok
returns-then-after-version-clause-ok c =
    settling_ends c.args.self.now.plane c.turns.self.plane c.turn.new.self.plane c.turns.turns c.turns.version c.version-after.result c.turns.invariant.settling c.in_ok-turn.ensures.ok.is c.in_ok-turn.ensures.works
    c.version-after.ensures.count (omega (arith, c.if-after-version.true))

pub returns-then-after-version-clause-good : goal.returns-then-after-version-clause-good
returns-then-after-version-clause-good c =
    settles_well _ _ _ c.turns.invariant.settling.kept
    (settling_ends c.args.self.now.plane c.turns.self.plane c.turn.new.self.plane c.turns.turns c.turns.version c.version-after.result c.turns.invariant.settling c.in_ok-turn.ensures.ok.is c.in_ok-turn.ensures.works
    c.version-after.ensures.count (omega (arith, c.if-after-version.true)))

pub returns-then-after-version-clause-tables : goal.returns-then-after-version-clause-tables
returns-then-after-version-clause-tables c = keeps_tables _ c.turns.invariant.settling.kept _

pub returns-then-after-version-clause-turns : goal.returns-then-after-version-clause-turns
returns-then-after-version-clause-turns c = more_next _ _ _ _ c.turns.invariant.count c.in_ok-turn.ensures.turns

pub returns-then-after-version-clause-untouched : goal.returns-then-after-version-clause-untouched
returns-then-after-version-clause-untouched c =
    let made = turn_made c.turns.self.plane c.turn.new.self.plane c.turns.version c.version-after.result c.in_ok-turn.field-0 c.in_ok-turn.ensures.ok c.turns.invariant.settling.counted c.version-after.ensures.count in
    c.in_ok-turn.ensures.untouched (omega (arith, made, c.if-after-version.true))

pub returns-then-after-version-clause-calm : goal.returns-then-after-version-clause-calm
returns-then-after-version-clause-calm c = λ h.
    let start = c.turns.invariant.calm h in
    calm_ends c.args.self.now c.turns.self c.turn.new.self c.turns.turns start (c.in_ok-turn.ensures.calm start.untouched).1
