-- Rounds and turns as work: chains of steps, each made whole.
use Rattle.std.proofs.Common.{◌≡◌, ℕ, ◌+◌, ◌-◌, ◌^◌, ◌≤◌, nat_lt, Bool, true, false, cond, length, Option, Some, None, refl, sym, ap, subst, ◌∙◌, arith}
use Rattle.std.specs.Option.{is_some}
use Rattle.version_store.specs.State.{Grows}
use Rattle.version_store.proofs.Growth.{grows_after, grows_not, grows_twice}
use Rattle.resource_types.specs.declared.names.Controller.TheVariants as controller
use Rattle.resource_types.specs.declared.names.SlotKey.{SlotKey}
use Rattle.resource_types.specs.contracts.names.KeyOrd.TheImpl as key_order
use Rattle.resource_types.specs.contracts.item.ObjectItem.TheImpl as object_item
use Rattle.control_rules.specs.declared.slots.StepOutcome.TheVariants as outcome
use Rattle.control_rules.specs.Differences.{ObjectPlan}
use Rattle.control_rules.specs.Slots.{is_key, Look, look_of, idle_at, Plane, present}
use Rattle.control_rules.specs.Steps.{plan_of, drops, plans, writes, goes_on, step_of}
use Rattle.control_rules.specs.Turns.{step_held, step_again, look_plan_write, round, pass, turn_of}
use Rattle.control_rules.specs.Events.{Works}
use Rattle.touched_keys.specs.Marks.{is_touched_in, IsTakenIn}
use Rattle.control_rules.specs.Events.Works.{Rests, ThenSteps, ThenPoints, ThenDrops}
use Rattle.control_rules.specs.declared.slots.StepOutcome.{StepOutcome}
use Rattle.step_scheduler.specs.Counts.{one_more, looks_with}
use Rattle.step_scheduler.specs.Planes.{PlaneView}
use Rattle.step_scheduler.specs.Touched.{IsUntouched, TookIn, TouchesSame}
use Rattle.step_scheduler.specs.Turns.{IsWorked, IsTurn, StaysCalm}

-- ---- work

-- work after work
pub then_works : {w v x : Plane} → Works w v → Works v x → Works w x
then_works p Rests = p
then_works p (ThenSteps q key) = ThenSteps (then_works p q) key
then_works p (ThenPoints q cursor) = ThenPoints (then_works p q) cursor
then_works p (ThenDrops q key) = ThenDrops (then_works p q) key

-- work by another name
pub works_as : (w v x : Plane) → Works w v → x ≡ v → Works w x
works_as w v x p e = subst (Works w) (sym e) p

rests_as : (w v : Plane) → v ≡ w → Works w v
rests_as w v e = subst (Works w) (sym e) Rests

more_or_same : (n : ℕ) (b : Bool) → n ≤ cond b (n + 1) n
more_or_same n true = omega arith
more_or_same n false = omega arith

-- one more is no less
pub one_more_rises : (n : ℕ) → n ≤ one_more n
one_more_rises n = more_or_same n (nat_lt n (2 ^ 64 - 1))

looks_rise : (answer : StepOutcome) (n : ℕ) → n ≤ looks_with answer n
looks_rise (outcome.Looked seen) n = one_more_rises n
looks_rise outcome.Planned n = omega arith
looks_rise outcome.Nothing n = omega arith
looks_rise (outcome.Wrote version) n = omega arith
looks_rise (outcome.Stale newer) n = omega arith
looks_rise outcome.Unknown n = omega arith
looks_rise outcome.Empty n = omega arith

-- nothing was done, a step was made, a slot was dropped; and work after work
pub rests : (u v : PlaneView) → v.plane ≡ u.plane → v.looks ≡ u.looks → v.turns ≡ u.turns → IsWorked u v
rests u v e looks turns = record { works = rests_as u.plane v.plane e; looks = omega (arith, looks); turns = turns }

pub step_works : (u v : PlaneView) (key : SlotKey) (answer : StepOutcome) → v.plane ≡ (step_of u.plane key).plane → v.looks ≡ looks_with answer u.looks → v.turns ≡ u.turns → IsWorked u v
step_works u v key answer e looks turns = record {
  works = subst (Works u.plane) (sym e) (ThenSteps Rests key);
  looks = subst (λ n. u.looks ≤ n) (sym looks) (looks_rise answer u.looks);
  turns = turns;
}

pub idle_works : (u v : PlaneView) (key : SlotKey) → v.plane ≡ record u.plane { slots = idle_at key u.plane.slots } → v.looks ≡ u.looks → v.turns ≡ u.turns → IsWorked u v
idle_works u v key e looks turns = record { works = subst (Works u.plane) (sym e) (ThenDrops Rests key); looks = omega (arith, looks); turns = turns }

pub then_worked : {u v x : PlaneView} → IsWorked u v → IsWorked v x → IsWorked u x
then_worked p q = record { works = then_works p.works q.works; looks = omega (arith, p.looks, q.looks); turns = q.turns ∙ p.turns }

-- ---- calm

-- marks that stay, over a journal that stays
touches_as : (u v : PlaneView) → v.plane.journal ≡ u.plane.journal → v.marks ≡ u.marks → TouchesSame u v
touches_as u v journal marks key = λ i. is_touched_in (journal i) (marks i) key

pub calm_same : (u v : PlaneView) → v.plane ≡ u.plane → v.marks ≡ u.marks → v.looks ≡ u.looks → StaysCalm u v
calm_same u v e marks looks = let journal : v.plane.journal ≡ u.plane.journal = ap (λ w. w.journal) e in record { journal = journal; touched = touches_as u v journal marks; looks = looks }

pub calm_idles : (u v : PlaneView) (key : SlotKey) → v.plane ≡ record u.plane { slots = idle_at key u.plane.slots } → v.marks ≡ u.marks → v.looks ≡ u.looks → StaysCalm u v
calm_idles u v key e marks looks = let journal : v.plane.journal ≡ u.plane.journal = ap (λ w. w.journal) e in record { journal = journal; touched = touches_as u v journal marks; looks = looks }

pub calm_as : (u v : PlaneView) → v.plane ≡ u.plane → TouchesSame u v → v.looks ≡ u.looks → StaysCalm u v
calm_as u v e touched looks = record { journal = ap (λ w. w.journal) e; touched = touched; looks = looks }

-- where no key was touched, none is
pub calm_touched : (u v : PlaneView) → StaysCalm u v → IsUntouched u → IsUntouched v
calm_touched u v calm h key = calm.touched key ∙ h key

-- calm after calm
pub then_calm : {u v x : PlaneView} → (IsUntouched u → StaysCalm u v) → (IsUntouched v → StaysCalm v x) → IsUntouched u → StaysCalm u x
then_calm {u} {v} p q h =
    let a = p h in
    let b = q (calm_touched u v a h) in
    record { journal = b.journal ∙ a.journal; touched = λ key. b.touched key ∙ a.touched key; looks = b.looks ∙ a.looks }

-- what was taken in is, where nothing was written
pub taken_still : (u v : PlaneView) → v.plane.journal ≡ u.plane.journal → v.marks ≡ u.marks → TookIn u → TookIn v
taken_still u v journal marks taken = subst (λ m. IsTakenIn (length v.plane.journal) m) (sym marks) (subst (λ j. IsTakenIn (length j) u.marks) (sym journal) taken)

-- ---- rounds

again_by : (w : Plane) (key : SlotKey) (o : Option Look) → is_some o ≡ true → (step_of w key).plane ≡ step_held w key o
again_by w key None e = absurd cc
again_by w key (Some l) e = refl

rest_by : (w : Plane) (key : SlotKey) (o : Option Look) → is_some o ≡ false → w ≡ step_held w key o
rest_by w key None e = refl
rest_by w key (Some l) e = absurd cc

pub again_steps : (w v : Plane) (key : SlotKey) → is_some (look_of key w.slots) ≡ true → v ≡ (step_of w key).plane → v ≡ step_again key w
again_steps w v key some e = e ∙ again_by w key (look_of key w.slots) some

pub again_rests : (w : Plane) (key : SlotKey) → is_some (look_of key w.slots) ≡ false → w ≡ step_again key w
again_rests w key none = rest_by w key (look_of key w.slots) none

-- what is no key is passed over
pub round_off : (w : Plane) (key : SlotKey) → is_key key (present w) ≡ false → w ≡ round key w
unfolding round
round_off w key off = sym (ap (λ b. cond b (look_plan_write key w) w) off)

-- a round is an idling and up to three steps
pub round_is : (w a b c d : Plane) (key : SlotKey) → is_key key (present w) ≡ true → a ≡ record w { slots = idle_at key w.slots } → b ≡ (step_of a key).plane → c ≡ step_again key b → d ≡ step_again key c
    → d ≡ round key w
unfolding round
round_is w a b c d key known p q r s =
    s ∙ ap (step_again key) (r ∙ ap (step_again key) (q ∙ ap (λ v. (step_of v key).plane) p))
    ∙ sym (ap (λ t. cond t (look_plan_write key w) w) known)

-- ---- turns

pub turn_is : (w a b c d e : Plane) → a ≡ pass controller.Service w → b ≡ pass controller.Configuration a → c ≡ pass controller.Revision b → d ≡ pass controller.Collector c → e ≡ pass controller.Route d → e ≡ turn_of w
unfolding turn_of
turn_is w a b c d e p q r s t =
    t ∙ ap (pass controller.Route) (s ∙ ap (pass controller.Collector) (r ∙ ap (pass controller.Revision) (q ∙ ap (pass controller.Configuration) p)))

-- ---- the journal grows under work

plans_grow : (w : Plane) (l : Look) (p : Option ObjectPlan) → Grows w.journal (plans w l p).plane.journal
plans_grow w l None = grows_not w.journal
plans_grow w l (Some plan) = grows_not w.journal

writes_grow : (w : Plane) (l : Look) (p : Option ObjectPlan) → Grows w.journal (writes w l p).plane.journal
writes_grow w l None = grows_not w.journal
writes_grow w l (Some plan) = grows_after object_item.ghosts key_order.ghosts.cmp w.journal _

goes_grow : (w : Plane) (key : SlotKey) (h : Option Look) → Grows w.journal (goes_on w key h).plane.journal
goes_grow w key None = grows_not w.journal
goes_grow w key (Some l) = go l.planned
  where
    go : (b : Bool) → Grows w.journal (cond b (writes w l (plan_of w l)) (plans w l (plan_of w l))).plane.journal
    go true = writes_grow w l (plan_of w l)
    go false = plans_grow w l (plan_of w l)

step_grows : (w : Plane) (key : SlotKey) → Grows w.journal (step_of w key).plane.journal
unfolding step_of
step_grows w key = go (is_key key (present w))
  where
    go : (b : Bool) → Grows w.journal (cond b (goes_on w key (look_of key w.slots)) (drops w key outcome.Unknown)).plane.journal
    go true = goes_grow w key (look_of key w.slots)
    go false = grows_not w.journal

pub works_grow : {w v : Plane} → Works w v → Grows w.journal v.journal
works_grow {w} Rests = grows_not w.journal
works_grow {w} (ThenSteps {v} p key) = grows_twice w.journal v.journal (step_of v key).plane.journal (works_grow p) (step_grows v key)
works_grow (ThenPoints p cursor) = works_grow p
works_grow (ThenDrops p key) = works_grow p

-- a turn that found no key touched made no entry
pub none_made : (w v : Plane) (before after : ℕ) → v.journal ≡ w.journal → before ≡ length w.journal → after ≡ length v.journal → after - before ≡ 0
none_made w v before after e b a = let same : length v.journal ≡ length w.journal = ap length e in omega (arith, same, b, a)

-- a turn's count of entries
pub turn_counts : (w v : Plane) (before after : ℕ) → v ≡ turn_of w → before ≡ length w.journal → after ≡ length v.journal → IsTurn w v (after - before)
turn_counts w v before after e b a = record { is = e; count = ap (λ n. n - before) (a ∙ ap (λ x. length x.journal) e) ∙ ap (λ n. length (turn_of w).journal - n) b }
