-- The causes of answers: of a step's, and of a report's.
use Rattle.std.proofs.Common.{◌≡◌, ◌⊎◌, inl, inr, ℕ, zero, suc, ◌+◌, ◌<◌, ◌≤◌, Bool, true, false, cond, List, [], ◌∷◌, ◌++◌, length, take, drop, Option, Some, None, nat_lt, refl, sym, ap, ◌∙◌, subst, arith}
use Rattle.std.specs.Prelude.{◌≢◌, ◌==◌, ◌&&◌}
use Rattle.std.specs.Option.{is_some}
use Rattle.std.specs.Ordering.{is_eq}
use Rattle.std.specs.Cmp.{nat_eq_equiv}
use Rattle.std.proofs.Math.Seq.{take-length}
use Rattle.std.proofs.lemmas.Bool.Decides.{nat_tests}
use Rattle.version_store.specs.declared.write.Applied.{Applied}
use Rattle.version_store.specs.declared.write.Applied.TheVariants as applied
use Rattle.version_store.specs.declared.write.Change.{Change}
use Rattle.version_store.specs.declared.write.Change.TheVariants.{Put, Remove}
use Rattle.version_store.specs.declared.write.Expect.{Expect}
use Rattle.version_store.specs.declared.write.Expect.TheVariants as expect
use Rattle.version_store.specs.Journal.{entry_at_version, object_in, last_from}
use Rattle.version_store.specs.Apply.{unexpected, guarded_stale, unchanged, first_case}
use Rattle.version_store.proofs.Standing.{version_is_last, last_decides}
use Rattle.resource_types.specs.declared.names.Kind.TheVariants as kind
use Rattle.resource_types.specs.declared.names.Key.{Key}
use Rattle.resource_types.specs.declared.names.SlotKey.{SlotKey}
use Rattle.resource_types.specs.declared.names.Actor.TheVariants as actor
use Rattle.resource_types.specs.declared.objects.Object.{Object}
use Rattle.resource_types.specs.contracts.names.KeyOrd.TheImpl as key_order
use Rattle.resource_types.specs.contracts.names.KeyOrd.TheImpl.Laws as key_laws
use Rattle.resource_types.specs.contracts.item.ObjectItem.TheImpl as object_item
use Rattle.resource_types.specs.Spec.{same_but_stamp}
use Rattle.resource_types.specs.Lookups.{Journal, find, state, version_of}
use Rattle.manifest_intake.specs.Good.{is_good}
use Rattle.control_rules.specs.declared.slots.Report.{Report}
use Rattle.control_rules.specs.declared.slots.StepOutcome.{StepOutcome}
use Rattle.control_rules.specs.declared.slots.StepOutcome.TheVariants as outcome
use Rattle.control_rules.specs.Differences.{ObjectPlan}
use Rattle.control_rules.specs.Standing.{key_at, standing}
use Rattle.control_rules.specs.Slots.{ObjectWrite, AreStamped, answer_in, last_in, newest_in, state_at, is_key, Look, look_of, Plane, present}
use Rattle.control_rules.specs.Steps.{expect_of, outcome_of, plan_of, drops, plans, writes, goes_on, step_of, write_of, answer_of, report_plan, present_write, report_on, report_of}
use Rattle.control_rules.specs.Facts.{IsKept}
use Rattle.control_rules.proofs.RoundJournal.{step_goes}
use Rattle.control_quiet.proofs.Planes.{kept_never_same, kept_plan_is_due}
use Rattle.step_scheduler.specs.Causes.{IsCaused, IsTaken}
use Rattle.step_scheduler.specs.Planes.{Is}

-- ---- the version of a key's last entry

module _ (key : Key) where
  -- it is the one before, or one of these
  last_later : (n last : ℕ) (es : Journal) → (last_from key_order.ghosts.cmp key n last es ≡ last) ⊎ (n < last_from key_order.ghosts.cmp key n last es)
  last_later n last [] = inl refl
  last_later n last (e ∷ es) = go (is_eq (key_order.ghosts.cmp e.key key)) (last_later (n + 1) (n + 1) es) (last_later (n + 1) last es)
    where
      go : (b : Bool) → (last_from key_order.ghosts.cmp key (n + 1) (n + 1) es ≡ n + 1) ⊎ (n + 1 < last_from key_order.ghosts.cmp key (n + 1) (n + 1) es)
          → (last_from key_order.ghosts.cmp key (n + 1) last es ≡ last) ⊎ (n + 1 < last_from key_order.ghosts.cmp key (n + 1) last es)
          → (last_from key_order.ghosts.cmp key (n + 1) (cond b (n + 1) last) es ≡ last) ⊎ (n < last_from key_order.ghosts.cmp key (n + 1) (cond b (n + 1) last) es)
      go true (inl e) y = inr (omega (arith, e))
      go true (inr l) y = inr (omega (arith, l))
      go false x (inl e) = inl e
      go false x (inr l) = inr (omega (arith, l))

  last_split : (xs ys : Journal) (n last : ℕ) → last_from key_order.ghosts.cmp key n last (xs ++ ys) ≡ last_from key_order.ghosts.cmp key (n + length xs) (last_from key_order.ghosts.cmp key n last xs) ys
  last_split [] ys n last = let e : n ≡ n + 0 = omega arith in ap (λ m. last_from key_order.ghosts.cmp key m last ys) e
  last_split (x ∷ xs) ys n last =
      let l = cond (is_eq (key_order.ghosts.cmp x.key key)) (n + 1) last in
      let e : n + 1 + length xs ≡ n + length (x ∷ xs) = omega arith in
      last_split xs ys (n + 1) l ∙ ap (λ m. last_from key_order.ghosts.cmp key m (last_from key_order.ghosts.cmp key (n + 1) l xs) ys) e

take_drop : {X : Type 0} (n : ℕ) (xs : List X) → xs ≡ take n xs ++ drop n xs
take_drop zero xs = refl
take_drop (suc n) [] = refl
take_drop (suc n) (x ∷ xs) = ap (λ ys. x ∷ ys) (take_drop n xs)

take_long : {X : Type 0} (n : ℕ) (xs : List X) → n ≤ length xs → length (take n xs) ≡ n
take_long zero xs le = refl
take_long (suc n) [] le = absurd (omega (arith, le))
take_long (suc n) (x ∷ xs) le = let l : n ≤ length xs = omega (arith, le) in ap suc (take_long n xs l)

-- after some entries it is what it was, or a later one
later_last : (key : Key) (j : Journal) (n : ℕ) → n ≤ length j → (last_in j key ≡ last_in (take n j) key) ⊎ (n < last_in j key)
later_last key j n le = go (last_later key n (last_in (take n j) key) (drop n j))
  where
    here : 0 + length (take n j) ≡ n
    here = omega (arith, take_long n j le)

    split : last_in j key ≡ last_from key_order.ghosts.cmp key n (last_in (take n j) key) (drop n j)
    split = ap (λ es. last_in es key) (take_drop n j) ∙ last_split key (take n j) (drop n j) 0 0 ∙ ap (λ m. last_from key_order.ghosts.cmp key m (last_in (take n j) key) (drop n j)) here

    go : (last_from key_order.ghosts.cmp key n (last_in (take n j) key) (drop n j) ≡ last_in (take n j) key) ⊎ (n < last_from key_order.ghosts.cmp key n (last_in (take n j) key) (drop n j))
        → (last_in j key ≡ last_in (take n j) key) ⊎ (n < last_in j key)
    go (inl e) = inl (split ∙ e)
    go (inr l) = inr (subst (λ m. n < m) (sym split) l)

-- ---- what was expected

expected : (e : Expect) (o : Option Object) (last : ℕ) → e ≡ expect_of o → ((x : Object) → o ≡ Some x → last ≡ version_of x) → unexpected e o last ≡ None
expected e None last h l = ap (λ z. unexpected {O = Object} z None last) h
expected e (Some x) last h l =
    ap (λ z. unexpected {O = Object} z (Some x) last) h ∙ ap (λ b. cond b None (Some (applied.Stale last))) (ap (λ z. version_of x == z) (l x refl) ∙ nat_eq_equiv.refl (version_of x))

module _ (j : Journal) (stamped : AreStamped j) where
  last_stands : (key : Key) (o : Object) → find key (state j) ≡ Some o → last_in j key ≡ version_of o
  last_stands key o e = subst (λ es. find key (state es) ≡ Some o → last_in es key ≡ version_of o) (take-length j)
      (version_is_last object_item.ghosts key_order.ghosts.cmp key_laws.total-law j stamped (length j) (let le : length j ≤ length j = omega arith in le) key o) e

  present_expected : (plan : ObjectPlan) → plan.expect ≡ expect_of (find plan.key (state j)) → unexpected plan.expect (find plan.key (state j)) (last_in j plan.key) ≡ None
  present_expected plan e = expected plan.expect (find plan.key (state j)) (last_in j plan.key) e (last_stands plan.key)

  decides : (n : ℕ) → n ≤ length j → (key : Key) → find key (state_at j n) ≡ object_in (entry_at_version j (last_in (take n j) key))
  decides n le key = last_decides object_item.ghosts key_order.ghosts.cmp key_laws.total-law j stamped n le key

  decides_now : (key : Key) → find key (state j) ≡ object_in (entry_at_version j (last_in j key))
  decides_now key = subst (λ es. find key (state es) ≡ object_in (entry_at_version j (last_in es key))) (take-length j) (decides (length j) (let le : length j ≤ length j = omega arith in le) key)

  -- what isn't as it was looked at was changed by a later entry
  changed_later : (n : ℕ) → n ≤ length j → (plan : ObjectPlan) → plan.expect ≡ expect_of (find plan.key (state_at j n))
      → (a : Applied) → unexpected plan.expect (find plan.key (state j)) (last_in j plan.key) ≡ Some a → n < last_in j plan.key
  changed_later n le plan e a h = go (later_last plan.key j n le)
    where
      go : (last_in j plan.key ≡ last_in (take n j) plan.key) ⊎ (n < last_in j plan.key) → n < last_in j plan.key
      go (inr l) = l
      go (inl same) =
          let stands : find plan.key (state_at j n) ≡ find plan.key (state j) = decides n le plan.key ∙ ap (λ m. object_in (entry_at_version j m)) (sym same) ∙ sym (decides_now plan.key) in
          absurd (let none = sym (present_expected plan (e ∙ ap expect_of stands)) ∙ h in cc)

-- ---- numbers of refusals

-- the number of a refusal
abbrev newer_in : Applied → ℕ → Type 0
newer_in a newer = outcome_of a ≡ outcome.Stale newer

unexpected_number : (e : Expect) (o : Option Object) (last newer : ℕ) (a : Applied) → unexpected e o last ≡ Some a → newer_in a newer → newer ≡ last
unexpected_number expect.Absent None last newer a h n = absurd cc
unexpected_number expect.Absent (Some x) last newer a h n = let i : a ≡ applied.Exists last = cc in let z : outcome.Stale last ≡ outcome.Stale newer = sym (ap outcome_of i) ∙ n in cc
unexpected_number (expect.At v) None last newer a h n = let i : a ≡ applied.Absent last = cc in let z : outcome.Stale last ≡ outcome.Stale newer = sym (ap outcome_of i) ∙ n in cc
unexpected_number (expect.At v) (Some x) last newer a h n = go (v == last) h
  where
    go : (b : Bool) → cond b None (Some (applied.Stale last)) ≡ Some a → newer ≡ last
    go true e = absurd cc
    go false e = let i : a ≡ applied.Stale last = cc in let z : outcome.Stale last ≡ outcome.Stale newer = sym (ap outcome_of i) ∙ n in cc

guarded_number : (guarded : Bool) (seen newest newer : ℕ) (a : Applied) → guarded_stale guarded seen newest ≡ Some a → newer_in a newer → seen < newer
guarded_number guarded seen newest newer a h n = go (guarded && nat_lt seen newest) refl h
  where
    lt : (g b : Bool) → (g && b) ≡ true → nat_lt seen newest ≡ b → seen < newest
    lt true true e q = grind (arith, nat_tests)
    lt true false e q = absurd cc
    lt false b e q = absurd cc

    go : (b : Bool) → (guarded && nat_lt seen newest) ≡ b → cond b (Some (applied.Stale newest)) None ≡ Some a → seen < newer
    go true q e =
        let i : a ≡ applied.Stale newest = cc in
        let z : outcome.Stale newest ≡ outcome.Stale newer = sym (ap outcome_of i) ∙ n in
        let s : newest ≡ newer = cc in
        subst (λ m. seen < m) s (lt guarded (nat_lt seen newest) q refl)
    go false q e = absurd cc

unchanged_number : (c : Change Object) (o : Option Object) (last newer : ℕ) (a : Applied) → unchanged same_but_stamp c o last ≡ Some a → newer_in a newer → ⊥
unchanged_number (Put x) None last newer a h n = cc
unchanged_number (Put x) (Some y) last newer a h n = go (same_but_stamp x y) h
  where
    go : (b : Bool) → cond b (Some (applied.Same last)) None ≡ Some a → ⊥
    go true e = let i : a ≡ applied.Same last = cc in let z : outcome.Nothing ≡ outcome.Stale newer = sym (ap outcome_of i) ∙ n in cc
    go false e = cc
unchanged_number Remove o last newer a h n = cc

-- a planned write that is stale gives way to a later entry than was seen
newer_than_seen : (j : Journal) → AreStamped j → (write : ObjectWrite) → write.seen ≤ length j → write.plan.expect ≡ expect_of (find write.plan.key (state_at j write.seen))
    → (newer : ℕ) → outcome_of (answer_in j write) ≡ outcome.Stale newer → write.seen < newer
newer_than_seen j stamped write le e newer n = go (unexpected write.plan.expect here last) (guarded_stale write.plan.guarded write.seen newest) (unchanged same_but_stamp write.plan.change here last) refl refl refl n
  where
    here : Option Object
    here = find write.plan.key (state j)

    last : ℕ
    last = last_in j write.plan.key

    newest : ℕ
    newest = newest_in j

    go : (a b c : Option Applied) → unexpected write.plan.expect here last ≡ a → guarded_stale write.plan.guarded write.seen newest ≡ b → unchanged same_but_stamp write.plan.change here last ≡ c
        → outcome_of (first_case a b c (applied.Done (length j + 1))) ≡ outcome.Stale newer → write.seen < newer
    go (Some a) b c f g h n = subst (λ m. write.seen < m) (sym (unexpected_number write.plan.expect here last newer a f n)) (changed_later j stamped write.seen le write.plan e a f)
    go None (Some b) c f g h n = guarded_number write.plan.guarded write.seen newest newer b g n
    go None None (Some c) f g h n = absurd (unchanged_number write.plan.change here last newer c h n)
    go None None None f g h n = absurd cc

-- ---- steps

-- an answer of a slot's work
abbrev IsOfWork : StepOutcome → Type 0
IsOfWork (outcome.Looked seen) = Unit {0}
IsOfWork outcome.Planned = Unit {0}
IsOfWork outcome.Nothing = Unit {0}
IsOfWork (outcome.Wrote version) = Unit {0}
IsOfWork (outcome.Stale newer) = Unit {0}
IsOfWork outcome.Unknown = ⊥
IsOfWork outcome.Empty = ⊥

of_write : (a : Applied) → IsOfWork (outcome_of a)
of_write (applied.Done version) = tt
of_write (applied.Same version) = tt
of_write (applied.Stale newer) = tt
of_write (applied.Exists version) = tt
of_write (applied.Absent last) = tt

of_writes : (w : Plane) (l : Look) (p : Option ObjectPlan) → IsOfWork (writes w l p).answer
of_writes w l None = tt
of_writes w l (Some plan) = of_write (answer_of w (write_of w (actor.Controller l.key) l.seen l.read_at plan))

of_plans : (w : Plane) (l : Look) (p : Option ObjectPlan) → IsOfWork (plans w l p).answer
of_plans w l None = tt
of_plans w l (Some plan) = tt

of_work : (w : Plane) (key : SlotKey) (h : Option Look) → IsOfWork (goes_on w key h).answer
of_work w key None = tt
of_work w key (Some l) = go l.planned
  where
    go : (b : Bool) → IsOfWork (cond b (writes w l (plan_of w l)) (plans w l (plan_of w l))).answer
    go true = of_writes w l (plan_of w l)
    go false = of_plans w l (plan_of w l)

same_if_nothing : (a : Applied) → outcome_of a ≡ outcome.Nothing → (version : ℕ) × (a ≡ applied.Same version)
same_if_nothing (applied.Done version) e = absurd cc
same_if_nothing (applied.Same version) e = (version, refl)
same_if_nothing (applied.Stale newer) e = absurd cc
same_if_nothing (applied.Exists version) e = absurd cc
same_if_nothing (applied.Absent last) e = absurd cc

some_plan : (p : Option ObjectPlan) → is_some p ≡ true → (plan : ObjectPlan) × (p ≡ Some plan)
some_plan None e = absurd cc
some_plan (Some plan) e = (plan, refl)

plans_not_stale : (w : Plane) (l : Look) (p : Option ObjectPlan) (newer : ℕ) → (plans w l p).answer ≡ outcome.Stale newer → ⊥
plans_not_stale w l None newer e = cc
plans_not_stale w l (Some plan) newer e = cc

module _ (w : Plane) (k : IsKept is_good w) (key : SlotKey) where
  abbrev answer : StepOutcome
  answer = (step_of w key).answer

  off : is_key key (present w) ≡ false → answer ≡ outcome.Unknown
  unfolding step_of
  off e = ap (λ b. (cond b (goes_on w key (look_of key w.slots)) (drops w key outcome.Unknown)).answer) e

  on : is_key key (present w) ≡ true → IsOfWork answer
  unfolding step_of
  on e = subst IsOfWork (sym (ap (λ b. (cond b (goes_on w key (look_of key w.slots)) (drops w key outcome.Unknown)).answer) e)) (of_work w key (look_of key w.slots))

  unknown_only : answer ≡ outcome.Unknown → is_key key (present w) ≡ false
  unknown_only e = go (is_key key (present w)) refl
    where
      go : (b : Bool) → is_key key (present w) ≡ b → b ≡ false
      go false q = refl
      go true q = absurd (subst IsOfWork e (on q))

  some_answer : answer ≢ outcome.Empty
  some_answer e = go (is_key key (present w)) refl
    where
      go : (b : Bool) → is_key key (present w) ≡ b → ⊥
      go false q = let z : outcome.Unknown ≡ outcome.Empty = sym (off q) ∙ e in cc
      go true q = subst IsOfWork e (on q)

  module _ (l : Look) (held : look_of key w.slots ≡ Some l) where
    -- a slot that has planned writes its plan
    written : is_key key (present w) ≡ true → l.planned ≡ true → (plan : ObjectPlan) → plan_of w l ≡ Some plan → answer ≡ outcome_of (answer_of w (write_of w (actor.Controller l.key) l.seen l.read_at plan))
    written q p plan is =
        ap (λ e. e.answer) (step_goes w key l q held) ∙ ap (λ b. (cond b (writes w l (plan_of w l)) (plans w l (plan_of w l))).answer) p ∙ ap (λ o. (writes w l o).answer) is

    planned_not_nothing : l.planned ≡ true → answer ≢ outcome.Nothing
    planned_not_nothing p e = go (is_key key (present w)) refl
      where
        go : (b : Bool) → is_key key (present w) ≡ b → ⊥
        go false q = let z : outcome.Unknown ≡ outcome.Nothing = sym (off q) ∙ e in cc
        go true q =
            let (plan, is) = some_plan (plan_of w l) ((k.slots key l held).planned p) in
            let (version, same) = same_if_nothing (answer_of w (write_of w (actor.Controller l.key) l.seen l.read_at plan)) (sym (written q p plan is) ∙ e) in
            kept_never_same is_good w key l plan version k held is same

    stale_newer : (newer : ℕ) → answer ≡ outcome.Stale newer → l.seen < newer
    stale_newer newer e = go (is_key key (present w)) refl
      where
        by : is_key key (present w) ≡ true → (b : Bool) → l.planned ≡ b → l.seen < newer
        by q false p =
            absurd (plans_not_stale w l (plan_of w l) newer
            (sym (ap (λ e. e.answer) (step_goes w key l q held) ∙ ap (λ b. (cond b (writes w l (plan_of w l)) (plans w l (plan_of w l))).answer) p) ∙ e))
        by q true p =
            let (plan, is) = some_plan (plan_of w l) ((k.slots key l held).planned p) in
            newer_than_seen w.journal k.lawful.stamps (write_of w (actor.Controller l.key) l.seen l.read_at plan) (k.slots key l held).before (kept_plan_is_due is_good w key l plan k held is).expects newer (sym (written q p plan is) ∙ e)

        go : (b : Bool) → is_key key (present w) ≡ b → l.seen < newer
        go false q = absurd (let z : outcome.Unknown ≡ outcome.Stale newer = sym (off q) ∙ e in cc)
        go true q = by q l.planned refl

  -- the causes of a step's answer
  pub caused : (v : Plane) (answered : StepOutcome) → Is (step_of w key) v answered → IsCaused w key answered
  caused v answered is = subst (IsCaused w key) (sym is.answer_is) (record {
    unknown = (unknown_only, off);
    nothing = λ l held p. planned_not_nothing l held p;
    stale = λ l newer held e. stale_newer l held newer e;
    some = some_answer;
  })

-- ---- reports

taken_by : (c : Change Object) (o : Option Object) (last version : ℕ) → IsTaken (first_case None None (unchanged same_but_stamp c o last) (applied.Done version))
taken_by (Put x) None last version = tt
taken_by (Put x) (Some y) last version = go (same_but_stamp x y)
  where
    go : (b : Bool) → IsTaken (first_case None None (cond b (Some (applied.Same last)) None) (applied.Done version))
    go true = tt
    go false = tt
taken_by Remove o last version = tt

-- a report on a Revision that stands is taken
taken_plan : (w : Plane) → IsKept is_good w → (report : Report) (v : Object)
    → IsTaken (answer_of w (present_write w actor.Reporter (report_plan report v (find (key_at kind.Health report.revision) (present w)))))
taken_plan w k report v =
    let plan = report_plan report v (find (key_at kind.Health report.revision) (present w)) in
    let here = find plan.key (present w) in
    let last = last_in w.journal plan.key in
    subst (λ a. IsTaken (first_case a None (unchanged same_but_stamp plan.change here last) (applied.Done (length w.journal + 1))))
    (sym (present_expected w.journal k.lawful.stamps plan refl)) (taken_by plan.change here last (length w.journal + 1))

some_same : (a b : Applied) → Some a ≡ Some b → a ≡ b
some_same a b e = cc

taken_on : (w : Plane) → IsKept is_good w → (report : Report) (o : Option Object) (a : Applied) → Some a ≡ (report_on w report o).answer → IsTaken a
taken_on w k report None a e = absurd cc
taken_on w k report (Some v) a e = subst IsTaken (sym (some_same a _ e)) (taken_plan w k report v)

pub report_taken : (w v : Plane) → IsKept is_good w → (report : Report) (a : Applied) → Is (report_of w report) v (Some a) → IsTaken a
unfolding report_of
report_taken w v k report a is = taken_on w k report (standing kind.Revision report.revision (present w)) a is.answer_is
