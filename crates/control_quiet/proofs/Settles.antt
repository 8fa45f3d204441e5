-- A turn that makes no entry, and a settle, end in a quiet and final state; where some turn makes none there is one settle.
use Rattle.std.proofs.Common.{◌≡◌, ◌⊎◌, inl, inr, ℕ, zero, suc, ◌<◌, ◌≤◌, List, length, take, true, Some, refl, sym, ap, ◌∙◌, subst, arith}
use Rattle.std.proofs.Math.Seq.{take-length}
use Rattle.std.proofs.lemmas.Bool.{cases_lt}
use Rattle.version_store.specs.State.{Grows}
use Rattle.version_store.proofs.Growth.{state_at-all}
use Rattle.resource_types.specs.declared.names.Name.{Name}
use Rattle.resource_types.specs.declared.names.Key.{Key}
use Rattle.resource_types.specs.declared.objects.Object.{Object}
use Rattle.resource_types.specs.contracts.names.KeyOrd.TheImpl as key_order
use Rattle.resource_types.specs.Lookups.{Journal, find, state}
use Rattle.resource_types.proofs.Ordered.{state-order}
use Rattle.control_rules.specs.Standing.{beside, listed, pins_at, published_at}
use Rattle.control_rules.specs.Slots.{AreStamped, state_at, Plane, present}
use Rattle.control_rules.specs.Turns.{turn_of, turns_of, entries_of_turn, IsStill, IsSettle}
use Rattle.control_rules.specs.Rounds.{turns_at}
use Rattle.control_rules.specs.Quiet.{IsQuiet}
use Rattle.control_rules.specs.Final.{IsFinal}
use Rattle.control_rules.specs.Safe.{IsSafe}
use Rattle.control_rules.specs.FurtherFacts.{IsSound}
use Rattle.control_rules.proofs.TurnJournal.{Keeps, turn_follows, turns_journal}
use Rattle.control_quiet.specs.Ground.{IsGround}
use Rattle.control_entries.specs.Ground.{IsStamped}
use Rattle.control_entries.proofs.Names.{knows_keys}
use Rattle.control_quiet.proofs.Turns.{turn_grows, still_is_quiet}
use Rattle.control_quiet.proofs.Final.{quiet_is_final}

-- ---- what a lawful journal gives

present_state : (j : Journal) → state_at j (length j) ≡ state j
present_state j = state_at-all (λ (o : Object). o.key) key_order.ghosts.cmp j

-- a journal that is safe at its end gives the ground of its state
pub ground_from : (j : Journal) → IsSafe j (length j) → IsGround (state j)
ground_from j safe = record {
  ordered = state-order j;
  pinned = subst (λ st. (r : Name) (x : List ℕ) → listed x (published_at st r) ≡ true → listed r.name (pins_at st (beside r x)) ≡ true)
      (present_state j) safe.published;
}

-- one that is stamped, and whose objects are sound at its end
pub stamped_from : (j : Journal) → AreStamped j → ((key : Key) (o : Object) → find key (state_at j (length j)) ≡ Some o → IsSound (length j) key o)
    → IsStamped j
stamped_from j stamped sound = record {
  stamped = stamped;
  fitting = λ key o e. (sound key o (ap (find key) (present_state j) ∙ e)).fits;
}

-- ---- planes

pub still_plane_is_quiet : (w : Plane) → IsStamped w.journal → IsStill w → IsQuiet w.settings (present w) w.now
unfolding turns_of turns_at
still_plane_is_quiet w ground still = still_is_quiet w.settings w.now w.journal ground (sym (turns_journal knows_keys w (suc zero)) ∙ still)

-- a turn keeps the settings and the moment
turn_keeps : (w : Plane) → Keeps w (turn_of w)
turn_keeps w = (turn_follows knows_keys w w w.journal (record { keeps = record { settings = refl; now = refl }; journal = refl })).keeps

-- after a turn that made no entry, the state is quiet
pub still_turn_is_quiet : (w : Plane) → IsStill w → IsStamped (turn_of w).journal → IsQuiet (turn_of w).settings (present (turn_of w)) (turn_of w).now
still_turn_is_quiet w still ground =
    subst (λ settings. IsQuiet settings (present (turn_of w)) (turn_of w).now) (sym (turn_keeps w).settings)
    (subst (λ now. IsQuiet w.settings (present (turn_of w)) now) (sym (turn_keeps w).now)
    (subst (λ j. IsQuiet w.settings (state j) w.now) (sym still)
    (still_plane_is_quiet w (subst IsStamped still ground) still)))

-- ---- turns that answer 0

pub turn_journal_grows : (w : Plane) → Grows w.journal (turn_of w).journal
unfolding turns_of turns_at
turn_journal_grows w = subst (Grows w.journal) (sym (turns_journal knows_keys w (suc zero))) (turn_grows w.settings w.now w.journal)

grown_same : (old new : Journal) → Grows old new → length new ≤ length old → new ≡ old
grown_same old new g le = sym (take-length new) ∙ ap (λ n. take n new) equal ∙ g.same
  where
    equal : length new ≡ length old
    equal = let l = g.longer in omega arith

-- a turn that makes the journal no longer makes no entry
pub still_from : (w : Plane) → length (turn_of w).journal ≤ length w.journal → IsStill w
still_from w le = grown_same w.journal (turn_of w).journal (turn_journal_grows w) le

-- where a turn makes 0 entries, the state after it is quiet and final
pub empty_turn_is_quiet : (w : Plane) → entries_of_turn w ≡ 0 → IsStamped (turn_of w).journal
    → IsQuiet (turn_of w).settings (present (turn_of w)) (turn_of w).now
empty_turn_is_quiet w none ground = still_turn_is_quiet w (still_from w (omega arith)) ground

pub empty_turn_is_final : (w : Plane) → entries_of_turn w ≡ 0 → IsStamped (turn_of w).journal → IsGround (present (turn_of w))
    → IsFinal (turn_of w).settings (present (turn_of w)) (turn_of w).now
empty_turn_is_final w none stamped ground = quiet_is_final (turn_of w).settings (present (turn_of w)) (turn_of w).now ground
    (empty_turn_is_quiet w none stamped)

-- ---- settles

turns_last : (i : ℕ) (w : Plane) → turns_of (suc i) w ≡ turn_of (turns_of i w)
unfolding turns_of
turns_last zero w = refl
turns_last (suc i) w = turns_last i (turn_of w)

-- a settle ends in a quiet state
pub settle_is_quiet : (w v : Plane) (t : ℕ) → IsSettle w t v → IsStamped v.journal → IsQuiet v.settings (present v) v.now
settle_is_quiet w v zero s ground = absurd (let a = s.some in omega arith)
settle_is_quiet w v (suc i) s ground = subst (λ p. IsStamped p.journal → IsQuiet p.settings (present p) p.now) (sym (s.is ∙ turns_last i w))
    (still_turn_is_quiet (turns_of i w) (s.last i refl)) ground

-- and so in a final one
pub settle_is_final : (w v : Plane) (t : ℕ) → IsSettle w t v → IsStamped v.journal → IsGround (present v) → IsFinal v.settings (present v) v.now
settle_is_final w v t s stamped ground = quiet_is_final v.settings (present v) v.now ground (settle_is_quiet w v t s stamped)

-- ---- a settle exists where some turn makes no entry, and there is one

still_or_not : (w : Plane) → IsStill w ⊎ (IsStill w → ⊥)
still_or_not w = go (cases_lt (length w.journal) (length (turn_of w).journal))
  where
    go : (length w.journal < length (turn_of w).journal) ⊎ (length (turn_of w).journal ≤ length w.journal) → IsStill w ⊎ (IsStill w → ⊥)
    go (inl lt) = inr (λ e. let l = ap length e in omega arith)
    go (inr le) = inl (still_from w le)

-- the first turn that makes no entry comes after so many others, no more than n
record IsFirst (w : Plane) (n : ℕ) : Type 0 where
  place : ℕ
  within : place ≤ n
  still : IsStill (turns_of place w)
  earlier : (i : ℕ) → i < place → IsStill (turns_of i w) → ⊥

first_still : (n : ℕ) (w : Plane) → IsStill (turns_of n w) → IsFirst w n
unfolding turns_of
first_still zero w e = record { place = zero; within = omega arith; still = e; earlier = λ i lt. absurd (omega arith) }
first_still (suc n) w e = go (still_or_not w) (first_still n (turn_of w) e)
  where
    go : IsStill w ⊎ (IsStill w → ⊥) → IsFirst (turn_of w) n → IsFirst w (suc n)
    go (inl q) l = record { place = zero; within = omega arith; still = q; earlier = λ i lt. absurd (omega arith) }
    go (inr d) l = record { place = suc l.place; within = (let le = l.within in omega arith); still = l.still; earlier = before }
      where
        before : (i : ℕ) → i < suc l.place → IsStill (turns_of i w) → ⊥
        before zero lt = d
        before (suc i) lt = l.earlier i (omega arith)

-- where the turn after n others makes no entry, a settle takes no more than n turns and that one
pub record Settles (w : Plane) (n : ℕ) : Type 0 where
  pub turns : ℕ
  pub within : turns ≤ suc n
  pub is : IsSettle w turns (turns_of turns w)

pub settle_from : (n : ℕ) (w : Plane) → IsStill (turns_of n w) → Settles w n
settle_from n w e = go (first_still n w e)
  where
    go : IsFirst w n → Settles w n
    go l = record {
      turns = suc l.place;
      within = (let le = l.within in omega arith);
      is = record {
        some = omega arith;
        is = refl;
        last = λ i q. subst (λ m. IsStill (turns_of m w)) (let z : l.place ≡ i = omega arith in z) l.still;
        earlier = λ i lt. l.earlier i (omega arith);
      };
    }

not_before : (w u v : Plane) (s t : ℕ) → IsSettle w s u → IsSettle w t v → s < t → ⊥
not_before w u v zero t a b lt = let one = a.some in omega arith
not_before w u v (suc i) t a b lt = b.earlier i lt (a.last i refl)

-- two settles of one plane are one
pub settle_once : (w u v : Plane) (s t : ℕ) → IsSettle w s u → IsSettle w t v → (s ≡ t) × (u ≡ v)
settle_once w u v s t a b = go (cases_lt s t) (cases_lt t s)
  where
    go : (s < t) ⊎ (t ≤ s) → (t < s) ⊎ (s ≤ t) → (s ≡ t) × (u ≡ v)
    go (inl lt) x = absurd (not_before w u v s t a b lt)
    go (inr le) (inl lt) = absurd (not_before w v u t s b a lt)
    go (inr le) (inr ge) = let e : s ≡ t = omega arith in (e, a.is ∙ ap (λ n. turns_of n w) e ∙ sym b.is)
