-- Since when each condition has its truth.
use Rattle.std.proofs.Common.{◌≡◌, ◌⊎◌, inl, inr, ℕ, zero, suc, ◌<◌, ◌≤◌, Bool, true, false, length, Option, Some, None, refl, sym, ap, ◌∙◌, subst, arith}
use Rattle.std.specs.Prelude.{slice_get, ◌&&◌}
use Rattle.std.specs.List.{find}
use Rattle.resource_types.specs.declared.names.Key.{Key}
use Rattle.resource_types.specs.declared.conditions.Condition.{Condition}
use Rattle.resource_types.specs.declared.status.ObjectStatus.{ObjectStatus}
use Rattle.resource_types.specs.declared.objects.Object.{Object}
use Rattle.resource_types.specs.declared.manifests.Manifest.{Manifest}
use Rattle.resource_types.specs.contracts.conditions.CondNamePartialEq.TheImpl as condition_eq
use Rattle.resource_types.specs.contracts.conditions.TruthPartialEq.TheImpl as truth_eq
use Rattle.resource_types.specs.Objects.{has_condition, status_of}
use Rattle.resource_types.specs.Lookups.{Journal, is_given}
use Rattle.resource_types.specs.Lookups as lookups
use Rattle.conditions.specs.Times.{is_unchanged, time_or, with_time}
use Rattle.control_rules.specs.declared.settings.Settings.{Settings}
use Rattle.control_rules.specs.Slots.{ObjectEntry, state_at}
use Rattle.control_rules.specs.Lawful.{IsLawful}
use Rattle.control_rules.specs.Times.{has_truth_at, IsSince, HasTransitionTimes}
use Rattle.control_entries.proofs.Lists.{get_some, find_at, find_none, any_at, at_any, map_at}
use Rattle.control_entries.proofs.Tests.{at_end, both, not_both, false_from}
use Rattle.resource_types.proofs.Exact.{left, right}
use Rattle.control_entries.proofs.Positions.{at_more}
use Rattle.control_entries.proofs.Conditions.{name_exact, name_own, truth_exact, truth_own}
use Rattle.control_entries.proofs.Sound.{StatusPut, StatusNone, StatusKept, StatusNew, status_put}

-- a condition of the status is one that it has with its truth
has_it : (o : Object) (i : ℕ) (c : Condition) → slice_get (status_of o.body).conditions i ≡ Some c → has_condition c.name c.truth o ≡ true
has_it o i c h = at_any (λ (d : Condition). condition_eq.ghosts.eq d.name c.name && truth_eq.ghosts.eq d.truth c.truth) (status_of o.body).conditions i c h (both (name_own c.name) (truth_own c.truth))

-- of conditions with one name and one truth, one statement serves
since_as : (j : Journal) (n : ℕ) (k : Key) (c d : Condition) → c.name ≡ d.name → c.truth ≡ d.truth → c.since ≡ d.since → IsSince j n k d → IsSince j n k c
since_as j n k c d p q s h = record {
  place = h.place;
  entry = h.entry;
  before = h.before;
  is = h.is;
  on = h.on;
  since = s ∙ h.since;
  new = alike h.place ∙ h.new;
  stays = λ i a b. alike i ∙ h.stays i a b;
}
  where
    alike : (i : ℕ) → has_truth_at j k c i ≡ has_truth_at j k d i
    alike i = λ x. is_given (has_condition (p x) (q x)) (lookups.find k (state_at j i))

-- a position more, at which the condition has its truth
since_more : (j : Journal) (n : ℕ) (k : Key) (c : Condition) → has_truth_at j k c (suc n) ≡ true → IsSince j n k c → IsSince j (suc n) k c
since_more j n k c now h = record {
  place = h.place;
  entry = h.entry;
  before = let b = h.before in omega arith;
  is = h.is;
  on = h.on;
  since = h.since;
  new = h.new;
  stays = λ i a b. go i a (at_end i n b);
}
  where
    go : (i : ℕ) → h.place < i → (i ≡ suc n) ⊎ (i ≤ n) → has_truth_at j k c i ≡ true
    go i a (inl e) = subst (λ m. has_truth_at j k c m ≡ true) (sym e) now
    go i a (inr l) = h.stays i a l

-- the entry gave it its truth
since_now : (j : Journal) (n : ℕ) (e : ObjectEntry) (k : Key) (c : Condition) → slice_get j n ≡ Some e → e.key ≡ k → c.since ≡ e.read_at
    → has_truth_at j k c n ≡ false → has_truth_at j k c (suc n) ≡ true → IsSince j (suc n) k c
since_now j n e k c g on s new now = record {
  place = n;
  entry = e;
  before = omega arith;
  is = g;
  on = on;
  since = s;
  new = new;
  stays = λ i a b. subst (λ m. has_truth_at j k c m ≡ true) (let q : suc n ≡ i = omega arith in q) now;
}

module _ {is_good : Manifest → Bool} {settings : Settings} {j : Journal} (lawful : IsLawful is_good settings j) where
  -- a condition of what an entry puts
  since_put : (n : ℕ) (e : ObjectEntry) → slice_get j n ≡ Some e → HasTransitionTimes j n → (k : Key) → e.key ≡ k → (o : Object)
      → (now : (i : ℕ) (c : Condition) → slice_get (status_of o.body).conditions i ≡ Some c → has_truth_at j k c (suc n) ≡ true)
      → StatusPut j n e o → (i : ℕ) (c : Condition) → slice_get (status_of o.body).conditions i ≡ Some c → IsSince j (suc n) k c
  since_put n e g was k on o now (StatusNone s) i c h = absurd (let z = subst (λ (w : ObjectStatus). slice_get w.conditions i ≡ Some c) s h in cc)
  since_put n e g was k on o now (StatusKept old at s) i c h =
      since_more j n k c (now i c h) (was k old i c (subst (λ z. lookups.find z (state_at j n) ≡ Some old) on at) (subst (λ (w : ObjectStatus). slice_get w.conditions i ≡ Some c) s h))
  since_put n e g was k on o now (StatusNew old new at apart s) i c h =
      go (map_at (with_time (status_of old.body).conditions e.read_at) new.conditions i c (subst (λ (w : ObjectStatus). slice_get w.conditions i ≡ Some c) s h))
    where
      there : lookups.find k (state_at j n) ≡ Some old
      there = subst (λ z. lookups.find z (state_at j n) ≡ Some old) on at

      go : ((d : Condition) × (slice_get new.conditions i ≡ Some d) × (with_time (status_of old.body).conditions e.read_at d ≡ c))
          → IsSince j (suc n) k c
      go (d, f, q) = from (find (is_unchanged d) (status_of old.body).conditions) refl
        where
          name : c.name ≡ d.name
          name = ap (λ (z : Condition). z.name) (sym q)

          truth : c.truth ≡ d.truth
          truth = ap (λ (z : Condition). z.truth) (sym q)

          from : (w : Option Condition) → find (is_unchanged d) (status_of old.body).conditions ≡ w → IsSince j (suc n) k c
          from (Some b) a =
              (let (t, l, x) = find_at (is_unchanged d) (status_of old.body).conditions b a in
              let names : c.name ≡ b.name = name ∙ sym (name_exact b.name d.name (left _ _ t)) in
              let truths : c.truth ≡ b.truth = truth ∙ sym (truth_exact b.truth d.truth (right (condition_eq.ghosts.eq b.name d.name) _ t)) in
              since_more j n k c (now i c h) (since_as j n k c b names truths (sym (ap (λ (z : Condition). z.since) q) ∙ ap (time_or e.read_at) a) (was k old l b there x)))
          from None a = since_now j n e k c g on (sym (ap (λ (z : Condition). z.since) q) ∙ ap (time_or e.read_at) a) new_truth (now i c h)
            where
              none : has_condition d.name d.truth old ≡ false
              none = false_from (λ y. (let (l, b, x, t) = any_at (λ (z : Condition). condition_eq.ghosts.eq z.name d.name && truth_eq.ghosts.eq z.truth d.truth) (status_of old.body).conditions y in not_both t (find_none (is_unchanged d) (status_of old.body).conditions a l b x)))

              new_truth : has_truth_at j k c n ≡ false
              new_truth = ap (is_given (has_condition c.name c.truth)) there ∙ (λ x. has_condition (name x) (truth x) old) ∙ none

  -- each condition has its time
  pub transition_times : (n : ℕ) → n ≤ length j → HasTransitionTimes j n
  transition_times zero len k o i c h f = absurd cc
  transition_times (suc n) len k o i c h f = go (get_some j n (omega arith)) (transition_times n (omega arith))
    where
      has : (x : Object) → lookups.find k (state_at j (suc n)) ≡ Some x → (i : ℕ) (c : Condition) → slice_get (status_of x.body).conditions i ≡ Some c
          → has_truth_at j k c (suc n) ≡ true
      has x q i c e = ap (is_given (has_condition c.name c.truth)) q ∙ has_it x i c e

      go : ((e : ObjectEntry) × (slice_get j n ≡ Some e)) → HasTransitionTimes j n → IsSince j (suc n) k c
      go (e, g) was = at_more j lawful.stamps n e g k (λ w. w ≡ Some o → IsSince j (suc n) k c)
          (λ q s. since_put n e g was k q o (has o h) (status_put lawful n e g o s) i c f)
          (λ _ s. since_more j n k c (has o h i c f) (was k o i c s f))
          h
