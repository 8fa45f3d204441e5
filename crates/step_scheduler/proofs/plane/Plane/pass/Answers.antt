use Rattle.std.proofs.Common.{Some, refl, sym, ap, subst, ◌∙◌}
use Rattle.control_rules.specs.Turns.{rounds}
use Rattle.step_scheduler.specs.Passes.{IsVisited, IsVisit}
use Rattle.step_scheduler.proofs.Chains.{then_worked, rests, calm_same, calm_as, then_calm}
use Rattle.step_scheduler.proofs.Skipping.{left_of}
use Rattle.step_scheduler.proofs.Visits.{names_at, none_last, pass_ends, pass_goes, pass_falls, known_as, known_later}
use Rattle.step_scheduler.proofs.plane.Plane.pass.Goals as goal

pub visits-init : goal.visits-init
visits-init c = record {
  left = ap (λ ks. rounds ks c.args.self.now.plane) (none_last c.args.controller (names_at c.args.controller c.args.self.now.plane));
  known = λ pick own e. e;
  works = rests _ _ refl refl refl;
  calm = λ h. calm_same _ _ refl refl refl;
}

pub visits-preserved : goal.visits-preserved
visits-preserved c =
    let w = c.next_visit.new.self.plane in
    let start = c.args.self.now.plane in
    let visit : IsVisited w c.args.controller c.visits.last c.in-Some.key = subst (IsVisit w c.args.controller c.visits.last) c.in-Some.is c.in_ok-key.ensures.visit in
    let known = known_as c.args.controller start c.visits.self.plane w c.in_ok-key.ensures.plane c.visits.invariant.known in
    record {
      left =
          ap (rounds (left_of c.args.controller (Some c.in-Some.key) (names_at c.args.controller start))) c.in_ok-round-in-Some.ensures.ok
          ∙ sym (pass_goes c.args.controller c.visits.last start w c.in-Some.key visit (known c.in-Some.key visit.own visit.known))
          ∙ ap (rounds (left_of c.args.controller c.visits.last (names_at c.args.controller start))) c.in_ok-key.ensures.plane
          ∙ c.visits.invariant.left;
      known = known_later c.args.controller start w c.round.new.self.plane c.in-Some.key c.in_ok-key.ensures.kept visit.own c.in_ok-round-in-Some.ensures.ok known;
      works =
          then_worked c.visits.invariant.works
          (then_worked (rests c.visits.self c.next_visit.new.self c.in_ok-key.ensures.plane c.in_ok-key.ensures.looks c.in_ok-key.ensures.turns) c.in_ok-round-in-Some.ensures.works);
      calm = then_calm c.visits.invariant.calm (then_calm
          (λ h. calm_as c.visits.self c.next_visit.new.self c.in_ok-key.ensures.plane c.in_ok-key.ensures.touched c.in_ok-key.ensures.looks)
          (λ h. c.in_ok-round-in-Some.ensures.calm (h c.in-Some.key)));
    }

pub visits-smaller : goal.visits-smaller
visits-smaller c =
    let w = c.next_visit.new.self.plane in
    let start = c.args.self.now.plane in
    let visit : IsVisited w c.args.controller c.visits.last c.in-Some.key = subst (IsVisit w c.args.controller c.visits.last) c.in-Some.is c.in_ok-key.ensures.visit in
    let known = known_as c.args.controller start c.visits.self.plane w c.in_ok-key.ensures.plane c.visits.invariant.known in
    pass_falls c.args.controller c.visits.last start w c.in-Some.key visit (known c.in-Some.key visit.own visit.known)

pub returns-in_err-round-in-Some-clause-works : goal.returns-in_err-round-in-Some-clause-works
returns-in_err-round-in-Some-clause-works c =
    then_worked c.visits.invariant.works
    (then_worked (rests c.visits.self c.next_visit.new.self c.in_ok-key.ensures.plane c.in_ok-key.ensures.looks c.in_ok-key.ensures.turns) c.in_err-round-in-Some.ensures.works)

pub returns-in_err-round-in-Some-clause-calm : goal.returns-in_err-round-in-Some-clause-calm
returns-in_err-round-in-Some-clause-calm c =
    then_calm c.visits.invariant.calm (then_calm
    (λ h. calm_as c.visits.self c.next_visit.new.self c.in_ok-key.ensures.plane c.in_ok-key.ensures.touched c.in_ok-key.ensures.looks)
    (λ h. c.in_err-round-in-Some.ensures.calm (h c.in-Some.key)))

pub returns-in-None-clause-ok : goal.returns-in-None-clause-ok
returns-in-None-clause-ok c =
    let w = c.next_visit.new.self.plane in
    let start = c.args.self.now.plane in
    sym (pass_ends c.args.controller c.visits.last start w (subst (IsVisit w c.args.controller c.visits.last) c.in-None.is c.in_ok-key.ensures.visit))
    ∙ ap (rounds (left_of c.args.controller c.visits.last (names_at c.args.controller start))) c.in_ok-key.ensures.plane
    ∙ c.visits.invariant.left
