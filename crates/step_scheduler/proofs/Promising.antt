-- What is promised of each plane that keeps what planes keep.
use Rattle.std.proofs.Common.{◌≡◌, ℕ, ◌≤◌, length, Option, Some, None, Result, Ok, Err, sym, subst, ◌∙◌, arith}
use Rattle.std.specs.Prelude.{OnErr, IfSome}
use Rattle.version_store.proofs.Growth.{state_at-all}
use Rattle.resource_types.specs.declared.names.Controller.{Controller}
use Rattle.resource_types.specs.declared.names.Controller.TheVariants as controller
use Rattle.resource_types.specs.declared.names.SlotKey.{SlotKey}
use Rattle.resource_types.specs.declared.objects.Object.{Object}
use Rattle.resource_types.specs.contracts.names.KeyOrd.TheImpl as key_order
use Rattle.resource_types.specs.Lookups.{State}
use Rattle.manifest_intake.specs.Good.{is_good}
use Rattle.control_rules.specs.declared.slots.StepOutcome.{StepOutcome}
use Rattle.control_rules.specs.Standing.{active_of}
use Rattle.control_rules.specs.Fits.{RouteFits, CollectorFits, IsNotLater}
use Rattle.control_rules.specs.Slots.{Plane, present}
use Rattle.control_rules.specs.Turns.{turn_of, entries_of_turn, IsSettle, KeepsTables}
use Rattle.control_rules.specs.Events.{Works}
use Rattle.control_rules.specs.Lawful.{moment_at}
use Rattle.control_rules.specs.Facts.{IsKept}
use Rattle.control_entries.proofs.KeptSteps.{step_kept, turn_kept}
use Rattle.control_entries.proofs.KeptEvents.{works_kept}
use Rattle.control_safety.proofs.Looking.{collector_fits, route_fits}
use Rattle.control_quiet.proofs.Planes.{kept_turn_is_quiet, kept_turn_is_final}
use Rattle.control_promises.specs.Promises.{IsGoodSettle}
use Rattle.control_promises.proofs.Promised.{kept_promises}
use Rattle.good_laws.proofs.Theorems.{good_laws}
use Rattle.step_scheduler.specs.Looking.{CanLook}
use Rattle.step_scheduler.specs.Planes.{PlaneView, Steps, Stays, IsSafeThroughout, RemovesUnusedAlone, IsAtRest}
use Rattle.step_scheduler.specs.Turns.{IsTurn}

-- ---- safe, and unused

pub kept_safe : (w : Plane) → IsKept is_good w → IsSafeThroughout w.journal
kept_safe w k = (kept_promises good_laws w k).safe

pub kept_unused : (w : Plane) → IsKept is_good w → RemovesUnusedAlone w.journal
kept_unused w k = (kept_promises good_laws w k).unused

pub worked_safe : (w v : Plane) → IsKept is_good w → Works w v → IsSafeThroughout v.journal
worked_safe w v k works = kept_safe v (works_kept is_good w v k works)

pub worked_unused : (w v : Plane) → IsKept is_good w → Works w v → RemovesUnusedAlone v.journal
worked_unused w v k works = kept_unused v (works_kept is_good w v k works)

-- ---- controllers may look

later_if : (m now : ℕ) → m ≤ now → (o : Option ℕ) → IfSome o (λ moment. moment ≤ m) → IfSome o (λ moment. moment ≤ now)
later_if m now le None h = h
later_if m now le (Some x) h = omega (arith, le, h)

not_later : (m now : ℕ) → m ≤ now → (o : Object) → IsNotLater m o → IsNotLater now o
not_later m now le o h = record { created = omega (arith, le, h.created); active = later_if m now le (active_of o.body) h.active }

collects_later : (st : State) (m now : ℕ) → m ≤ now → CollectorFits st m → CollectorFits st now
collects_later st m now le h k d lt is = not_later m now le _ (h k d lt is)

pub can_look : (w : Plane) → IsKept is_good w → (c : Controller) → CanLook c (present w) w.now
can_look w k controller.Service = tt
can_look w k controller.Configuration = tt
can_look w k controller.Revision = tt
can_look w k controller.Collector =
    collects_later (present w) (moment_at w.journal (length w.journal)) w.now k.past
    (subst (λ st. CollectorFits st (moment_at w.journal (length w.journal))) (state_at-all (λ (o : Object). o.key) key_order.ghosts.cmp w.journal) (collector_fits k.lawful (length w.journal) (omega arith)))
can_look w k controller.Route =
    subst RouteFits (state_at-all (λ (o : Object). o.key) key_order.ghosts.cmp w.journal) (route_fits k.lawful good_laws (length w.journal) (omega arith))

-- ---- turns, and settles

-- a turn that makes no entry leaves nothing to be done
pub turn_rests : (w v : Plane) → IsKept is_good w → (entries : ℕ) → IsTurn w v entries → entries ≡ 0 → IsAtRest v
turn_rests w v k entries t none =
    let still : entries_of_turn w ≡ 0 = sym t.count ∙ none in
    let kept = turn_kept is_good w k in
    subst IsAtRest (sym t.is) (record {
      quiet = kept_turn_is_quiet is_good w k still;
      final = kept_turn_is_final is_good w k still (kept_safe (turn_of w) kept (length (turn_of w).journal) (omega arith));
    })

pub settles_well : (w v : Plane) (t : ℕ) → IsKept is_good w → IsSettle w t v → IsGoodSettle w t v
settles_well w v t k s = (kept_promises good_laws w k).settled t v s

pub keeps_tables : (w : Plane) → IsKept is_good w → (t : ℕ) → KeepsTables w t
keeps_tables w k t = (kept_promises good_laws w k).tables t

-- ---- a plane by another name

pub kept_as : (u v : PlaneView) → u ≡ v → IsKept is_good u.plane → IsKept is_good v.plane
kept_as u v e k = subst (λ z. IsKept is_good z.plane) e k

-- ---- steps

-- a step counted afterwards
pub stepped_as : (w v x : Plane) (key : SlotKey) (answer : StepOutcome) → Steps w key v answer → x ≡ v → Steps w key x answer
stepped_as w v x key answer s e = subst (λ z. Steps w key z answer) (sym e) s

stepped_kept : (w v : Plane) (key : SlotKey) (answer : StepOutcome) → Steps w key v answer → IsKept is_good v
stepped_kept w v key answer s = subst (IsKept is_good) (sym s.event.plane_is) (step_kept is_good w key s.kept)

pub stepped_safe : (w v : Plane) (key : SlotKey) (answer : StepOutcome) → Steps w key v answer → IsSafeThroughout v.journal
stepped_safe w v key answer s = kept_safe v (stepped_kept w v key answer s)

pub stepped_unused : (w v : Plane) (key : SlotKey) (answer : StepOutcome) → Steps w key v answer → RemovesUnusedAlone v.journal
stepped_unused w v key answer s = kept_unused v (stepped_kept w v key answer s)

pub stays_safe : (w v : Plane) → Stays w v → IsSafeThroughout v.journal
stays_safe w v s = kept_safe v (subst (IsKept is_good) (sym s.same) s.kept)

pub stays_unused : (w v : Plane) → Stays w v → RemovesUnusedAlone v.journal
stays_unused w v s = kept_unused v (subst (IsKept is_good) (sym s.same) s.kept)

pub on_err : {A E : Type 0} (r : Result A E) (P : Type 0) → P → OnErr r P
on_err (Ok a) P h = tt
on_err (Err e) P h = h
