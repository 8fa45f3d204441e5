-- Turns that settle: each that isn't the last makes an entry, and the last one comes before the bound.
use Rattle.std.proofs.Common.{◌≡◌, ℕ, zero, suc, ◌+◌, ◌-◌, ◌*◌, ◌^◌, ◌<◌, ◌≤◌, List, [], ◌∷◌, length, map, take, refl, sym, ap, subst, ◌∙◌, arith, ⊎_elim, inl, inr}
use Rattle.std.specs.Prelude.{◌⊎◌}
use Rattle.std.proofs.Math.Seq.{take-length}
use Rattle.std.proofs.lemmas.Bool.{cases_lt}
use Rattle.version_store.specs.State.{Grows}
use Rattle.resource_types.specs.declared.names.Controller.{Controller}
use Rattle.resource_types.specs.declared.names.Controller.TheVariants as controller
use Rattle.resource_types.specs.declared.names.SlotKey.{SlotKey}
use Rattle.manifest_intake.specs.Good.{is_good}
use Rattle.resource_types.specs.Lookups.{Journal, state}
use Rattle.control_rules.specs.Slots.{in_order, names_for, slot_key, keys_for, Plane, present}
use Rattle.control_rules.specs.Turns.{rounds, pass, turn_of, turns_of, IsStill, IsSettle}
use Rattle.control_rules.specs.Facts.{IsKept}
use Rattle.control_rules.specs.Events.{Works}
use Rattle.control_rules.specs.Events.Works.{Rests}
use Rattle.control_settle.proofs.Settles.{kept_settles, kept_is_soon}
use Rattle.good_laws.proofs.Theorems.{good_laws}
use Rattle.step_scheduler.specs.Counts.{one_more, more_by}
use Rattle.step_scheduler.specs.Planes.{PlaneView}
use Rattle.step_scheduler.specs.Turns.{IsTurn, IsSettling, IsCalmStart}
use Rattle.step_scheduler.proofs.Chains.{then_works, works_grow}

-- a turn more at the end
pub turns_next : (t : ℕ) (w : Plane) → turns_of (suc t) w ≡ turn_of (turns_of t w)
unfolding turns_of
turns_next zero w = refl
turns_next (suc t) w = turns_next t (turn_of w)

-- a journal that grew by nothing
grown_not : {E : Type 0} (old new : List E) → Grows old new → length new ≡ length old → new ≡ old
grown_not old new g e = sym (take-length new) ∙ ap (λ n. take n new) e ∙ g.same

-- where nothing was written, there are no keys, and turns do nothing
no_names : (c : Controller) → names_for c [] ≡ []
unfolding names_for in_order
no_names controller.Service = refl
no_names controller.Configuration = refl
no_names controller.Revision = refl
no_names controller.Collector = refl
no_names controller.Route = refl

no_keys : (c : Controller) (j : Journal) → j ≡ [] → keys_for c (state j) ≡ []
no_keys c j e = ap (λ i. keys_for c (state i)) e ∙ ap (λ ns. map (slot_key c) ns) (no_names c)

rounds_none : (keys : List SlotKey) (w : Plane) → keys ≡ [] → rounds keys w ≡ w
unfolding rounds
rounds_none keys w e = ap (λ ks. rounds ks w) e

pass_none : (c : Controller) (w : Plane) → w.journal ≡ [] → pass c w ≡ w
pass_none c w e = rounds_none (keys_for c (present w)) w (no_keys c w.journal e)

pub turn_none : (w : Plane) → w.journal ≡ [] → turn_of w ≡ w
unfolding turn_of
turn_none w e =
    ap (λ v. pass controller.Route (pass controller.Collector (pass controller.Revision (pass controller.Configuration v)))) (pass_none controller.Service w e)
    ∙ ap (λ v. pass controller.Route (pass controller.Collector (pass controller.Revision v))) (pass_none controller.Configuration w e)
    ∙ ap (λ v. pass controller.Route (pass controller.Collector v)) (pass_none controller.Revision w e)
    ∙ ap (pass controller.Route) (pass_none controller.Collector w e)
    ∙ pass_none controller.Route w e

still_none : (w : Plane) → w.journal ≡ [] → IsStill (turns_of 0 w)
unfolding turns_of
still_none w e = ap (λ x. x.journal) (turn_none w e)

empty_or : {E : Type 0} (xs : List E) → (xs ≡ []) ⊎ (1 ≤ length xs)
empty_or [] = inl refl
empty_or (x ∷ xs) = inr (omega arith)

-- the most turns that a settle takes
abbrev pub most : Plane → ℕ
most w = 30 + 14 * length (present w)

-- turns end, within that number
record FirstStop (w : Plane) : Type 0 where
  turns : ℕ
  plane : Plane
  is : IsSettle w turns plane
  within : turns ≤ most w

first_stop : (w : Plane) → IsKept is_good w → FirstStop w
first_stop w kept =
    let (t, v, is) = kept_settles good_laws w kept in
    record { turns = t; plane = v; is = is; within = kept_is_soon good_laws w kept t v is }

module _ (start : Plane) where
  pub settling_starts : (version : ℕ) → IsKept is_good start → version ≡ length start.journal → version < 2 ^ 64 → IsSettling start start 0 version
  unfolding turns_of
  settling_starts version kept e lt = record {
    kept = kept;
    turned = refl;
    written = λ i lt. absurd (omega (arith, lt));
    longer = omega arith;
    begun = λ le. absurd (omega (arith, le));
    counted = e;
    fits = lt;
    works = Rests;
  }

  -- the count of turns fits
  pub turns_fit : (w : Plane) (turns version : ℕ) → IsSettling start w turns version → turns + 1 < 2 ^ 64
  turns_fit w turns version s = go turns refl
    where
      go : (t : ℕ) → turns ≡ t → turns + 1 < 2 ^ 64
      go zero e = omega (arith, e)
      go (suc t) e = let b : 1 ≤ length start.journal = s.begun (omega (arith, e)) in omega (arith, b, s.longer, s.counted, s.fits)

  module _ (w v : Plane) (turns version after : ℕ) (s : IsSettling start w turns version) (turn : v ≡ turn_of w) (works : Works w v) (counted : after ≡ length v.journal) where
    next : v ≡ turns_of (suc turns) start
    next = turn ∙ ap turn_of s.turned ∙ sym (turns_next turns start)

    still_as : IsStill (turns_of turns start) → length v.journal ≡ length w.journal
    still_as h = ap (λ x. length x.journal) (turn ∙ ap turn_of s.turned) ∙ ap length h ∙ ap (λ x. length x.journal) (sym s.turned)

    -- a turn that makes no entry is the last
    pub settling_ends : after ≡ version → IsSettle start (turns + 1) v
    settling_ends e = record {
      some = omega arith;
      is = next ∙ ap (λ n. turns_of n start) one;
      last = λ i h. let i_is : i ≡ turns = omega (arith, h) in subst (λ n. IsStill (turns_of n start)) (sym i_is) still;
      earlier = λ i lt. let lt' : i < turns = omega (arith, lt) in s.written i lt';
    }
      where
        one : suc turns ≡ turns + 1
        one = omega arith

        same : v.journal ≡ w.journal
        same = grown_not w.journal v.journal (works_grow works) (omega (arith, e, counted, s.counted))

        still : IsStill (turns_of turns start)
        still = ap (λ x. (turn_of x).journal) (sym s.turned) ∙ ap (λ x. x.journal) (sym turn) ∙ same ∙ ap (λ x. x.journal) s.turned

    module _ (more : after ≡ version → ⊥) where
      not_still : IsStill (turns_of turns start) → ⊥
      not_still h = more (omega (arith, counted, s.counted, still_as h))

      -- and one that makes some isn't
      pub settling_goes : after < 2 ^ 64 → IsSettling start v (turns + 1) after
      settling_goes lt_after = record {
        kept = s.kept;
        turned = let one : suc turns ≡ turns + 1 = omega arith in next ∙ ap (λ n. turns_of n start) one;
        written = λ i lt h. ⊎_elim (λ (l : i < turns). s.written i l h) (λ (l : turns ≤ i). let is : i ≡ turns = omega (arith, l, lt) in not_still (subst (λ n. IsStill (turns_of n start)) is h)) (cases_lt i turns);
        longer = let l = (works_grow works).longer in omega (arith, l, s.longer, s.counted, counted, more);
        begun = λ le. go turns refl;
        counted = counted;
        fits = lt_after;
        works = then_works s.works works;
      }
        where
          begun_now : turns ≡ 0 → 1 ≤ length start.journal
          begun_now e = ⊎_elim (λ (z : start.journal ≡ []). absurd (not_still (subst (λ n. IsStill (turns_of n start)) (sym e) (still_none start z)))) (λ (l : 1 ≤ length start.journal). l) (empty_or start.journal)

          go : (t : ℕ) → turns ≡ t → 1 ≤ length start.journal
          go zero e = begun_now e
          go (suc t) e = s.begun (omega (arith, e))

      -- so the number of turns that the bound leaves falls
      pub settling_falls : after < 2 ^ 64 → most start - (turns + 1) < most start - turns
      settling_falls lt_after = go h.turns refl
        where
          h : FirstStop start
          h = first_stop start s.kept

          go : (t : ℕ) → h.turns ≡ t → most start - (turns + 1) < most start - turns
          go zero e = absurd (omega (arith, e, h.is.some))
          go (suc t) e = ⊎_elim
              (λ (l : t < turns + 1). absurd ((settling_goes lt_after).written t l (h.is.last t (sym e))))
              (λ (l : turns + 1 ≤ t). omega (arith, l, e, h.within))
              (cases_lt t (turns + 1))

-- ---- the count of turns

pub no_more : (n : ℕ) → n ≡ more_by 0 n
unfolding more_by
no_more n = refl

pub more_next : (t n m k : ℕ) → m ≡ more_by t n → k ≡ one_more m → k ≡ more_by (t + 1) n
unfolding more_by
more_next t n m k e f = let s : suc t ≡ t + 1 = omega arith in f ∙ ap one_more e ∙ ap (λ u. more_by u n) s

-- ---- what a turn made

-- a turn made as many entries as the journal has more
pub turn_made : (w v : Plane) (before after entries : ℕ) → IsTurn w v entries → before ≡ length w.journal → after ≡ length v.journal → entries ≡ after - before
turn_made w v before after entries t b a = let grown : length v.journal ≡ length (turn_of w).journal = ap (λ x. length x.journal) t.is in omega (arith, t.count, grown, b, a)

-- a settle of one turn that looked at nothing
pub calm_ends : (u w v : PlaneView) (turns : ℕ) → IsCalmStart u w turns → v.looks ≡ w.looks → (turns + 1 ≡ 1) × (v.looks ≡ u.looks)
calm_ends u w v turns start looks = (let none = start.none in omega (arith, none), looks ∙ start.looks)
