-- The theorems: each settle of a plane ends, within bounds of the number of objects, and no Table changes after 64 turns.
use Rattle.std.proofs.Common.{◌≡◌, ◌⊎◌, inl, inr, ℕ, zero, suc, ◌+◌, ◌-◌, ◌*◌, ◌≤◌, [], ◌∷◌, length, refl, sym, ap, ◌∙◌, subst, arith}
use Rattle.std.specs.Prelude.{min}
use Rattle.resource_types.specs.declared.names.Kind.TheVariants as kind
use Rattle.resource_types.specs.declared.names.Name.{Name}
use Rattle.resource_types.specs.Lookups.{Journal, State, state}
use Rattle.control_rules.specs.declared.settings.Settings.{Settings}
use Rattle.control_rules.specs.Standing.{standing}
use Rattle.control_rules.specs.Slots.{Plane, present}
use Rattle.control_rules.specs.Turns.{turn_of, turns_of, IsStill, IsSettle, turn_bound, linear_turn_bound, SameTables, KeepsTables}
use Rattle.control_rules.specs.Rounds.{round_at, turn_at, turns_at}
use Rattle.control_rules.proofs.TurnJournal.{turns_journal}
use Rattle.control_settle.specs.Burden.{burden}
use Rattle.control_settle.specs.Grounds.{AreGrounds}
use Rattle.control_settle.specs.Within.{SettlesWithin}
use Rattle.control_settle.proofs.Machine.{repeated, Ends, ends_here, ends_more, Kept}
use Rattle.control_entries.proofs.Tests.{two_ways}
use Rattle.control_settle.proofs.Waves.{turns_keep}
use Rattle.control_settle.proofs.Phases.{controllers, keys_of, round, one_turn, turn_is, turns_are, At, at_kept}
use Rattle.control_settle.proofs.Effects.{RoundOf, Rests, Acts, round_of}
use Rattle.control_settle.proofs.Settling.{Fixed, Rounds, fixed_kept}
use Rattle.control_settle.proofs.Bounds.{burden_most, empty_turn, FirstStill, first_still, fixed_after, ends}

-- a turn more, before or after the others
pub turns_more : (t : ℕ) (w : Plane) → turn_of (turns_of t w) ≡ turns_of (suc t) w
unfolding turns_of
turns_more zero w = refl
turns_more (suc t) w = turns_more t (turn_of w)

repeated_more : {J : Type 0} (turn : J → J) (t : ℕ) (j : J) → turn (repeated turn t j) ≡ repeated turn (suc t) j
unfolding repeated
repeated_more turn zero j = refl
repeated_more turn (suc t) j = repeated_more turn t (turn j)

repeated_sum : {J : Type 0} (turn : J → J) (s t : ℕ) (j : J) → repeated turn t (repeated turn s j) ≡ repeated turn (s + t) j
unfolding repeated
repeated_sum turn zero t j = let e : t ≡ 0 + t = omega arith in ap (λ n. repeated turn n j) e
repeated_sum turn (suc s) t j = let e : suc (s + t) ≡ suc s + t = omega arith in repeated_sum turn s t (turn j) ∙ ap (λ n. repeated turn n j) e

two_bounds : (m : ℕ) → 1 ≤ m → 30 + 14 * m ≤ turn_bound m
two_bounds m some = grind arith

linear_bound : (m : ℕ) → 30 + 14 * m ≤ linear_turn_bound m
linear_bound m = omega arith

-- ---- over journals

module _ (settings : Settings) (now : ℕ) (work : Rounds settings now) (Holds : Journal → Type 0) (g : AreGrounds settings now Holds) where
  -- so many turns are enough
  pub enough : (j : Journal) → Holds j → Ends (one_turn settings now) (30 + 14 * length (state j)) j
  enough j h = ends_more (one_turn settings now) (30 + 7 * burden (state j)) (30 + 14 * length (state j)) j (let b = burden_most (state j) in omega arith) (ends settings now work Holds g j h)

  -- and so few where nothing stands
  pub enough_for : (j : Journal) → Holds j → Ends (one_turn settings now) (turn_bound (length (state j))) j
  enough_for j h = go (state j) refl
    where
      go : (st : State) → state j ≡ st → Ends (one_turn settings now) (turn_bound (length (state j))) j
      go [] e = ends_more (one_turn settings now) 1 (turn_bound (length (state j))) j (let z = ap length e in rw e (omega arith)) (ends_here (one_turn settings now) 0 j (empty_turn settings now j e))
      go (o ∷ st) e = ends_more (one_turn settings now) (30 + 14 * length (state j)) (turn_bound (length (state j))) j (two_bounds (length (state j)) (let z = ap length e in omega arith)) (enough j h)

  still_there : (i : ℕ) (j : Journal) → one_turn settings now (repeated (one_turn settings now) i j) ≡ repeated (one_turn settings now) i j → turn_at settings now (turns_at settings now i j) ≡ turns_at settings now i j
  still_there i j e = turn_is settings now (turns_at settings now i j) ∙ ap (one_turn settings now) (turns_are settings now i j) ∙ e ∙ sym (turns_are settings now i j)

  pub settles : (j : Journal) → Holds j → SettlesWithin settings now j (30 + 14 * length (state j))
  settles j h = let e = enough j h in record { turns = e.place; within = let b = e.below in omega arith; still = still_there e.place j e.idle }

-- ---- of a plane

module _ (w : Plane) (work : Rounds w.settings w.now) (Holds : Journal → Type 0) (g : AreGrounds w.settings w.now Holds) (holds : Holds w.journal) where
  journal_after : (t : ℕ) → (turns_of t w).journal ≡ repeated (one_turn w.settings w.now) t w.journal
  journal_after t = turns_journal g.knows w t ∙ turns_are w.settings w.now t w.journal

  still_plane : (i : ℕ) → one_turn w.settings w.now (repeated (one_turn w.settings w.now) i w.journal) ≡ repeated (one_turn w.settings w.now) i w.journal → IsStill (turns_of i w)
  still_plane i e = ap (λ (v : Plane). v.journal) (turns_more i w) ∙ journal_after (suc i) ∙ sym (repeated_more (one_turn w.settings w.now) i w.journal) ∙ e ∙ sym (journal_after i)

  plane_still : (i : ℕ) → IsStill (turns_of i w) → one_turn w.settings w.now (repeated (one_turn w.settings w.now) i w.journal) ≡ repeated (one_turn w.settings w.now) i w.journal
  plane_still i e = repeated_more (one_turn w.settings w.now) i w.journal ∙ sym (journal_after (suc i)) ∙ sym (ap (λ (v : Plane). v.journal) (turns_more i w)) ∙ e ∙ journal_after i

  first : FirstStill w.settings w.now w.journal (30 + 14 * length (present w))
  first = first_still w.settings w.now w.journal (30 + 14 * length (present w)) (enough w.settings w.now work Holds g w.journal holds)

  -- a settle ends
  pub settle_ends : (t : ℕ) × (v : Plane) × IsSettle w t v
  settle_ends = (
    suc first.place,
    turns_of (suc first.place) w,
    record {
      some = omega arith;
      is = refl;
      last = λ i e. still_plane i (let q : first.place ≡ i = omega arith in subst (λ z. one_turn w.settings w.now (repeated (one_turn w.settings w.now) z w.journal) ≡ repeated (one_turn w.settings w.now) z w.journal) q first.still);
      earlier = λ i lt s. first.earlier i (omega arith) (plane_still i s);
    },
  )

  -- the first turn without entry comes no later than any
  settle_within : (f t : ℕ) (v : Plane) → IsSettle w t v → Ends (one_turn w.settings w.now) f w.journal → t ≤ f
  settle_within f t v s e = go (two_ways (suc e.place) t)
    where
      go : (suc (suc e.place) ≤ t) ⊎ (t ≤ suc e.place) → t ≤ f
      go (inl lt) = absurd (s.earlier e.place lt (still_plane e.place e.idle))
      go (inr le) = let b = e.below in omega arith

  -- within these bounds, where m objects stand at first
  pub settle_soon : (t : ℕ) (v : Plane) → IsSettle w t v → t ≤ 30 + 14 * length (present w)
  settle_soon t v s = settle_within (30 + 14 * length (present w)) t v s (enough w.settings w.now work Holds g w.journal holds)

  pub settle_is_linear : (t : ℕ) (v : Plane) → IsSettle w t v → t ≤ linear_turn_bound (length (present w))
  settle_is_linear t v s = let a = settle_soon t v s in let b = linear_bound (length (present w)) in omega arith

  pub settle_is_bounded : (t : ℕ) (v : Plane) → IsSettle w t v → t ≤ turn_bound (length (present w))
  settle_is_bounded t v s = settle_within (turn_bound (length (present w))) t v s (enough_for w.settings w.now work Holds g w.journal holds)

  -- ---- Tables

  fixed_at : (d : ℕ) → At w.settings w.now Holds g (Fixed w.settings.domain) (repeated (one_turn w.settings w.now) d (repeated (one_turn w.settings w.now) 18 (repeated (one_turn w.settings w.now) 6 w.journal)))
  fixed_at d = turns_keep Name (round w.settings w.now) keys_of controllers (At w.settings w.now Holds g (Fixed w.settings.domain)) (at_kept w.settings w.now Holds g (Fixed w.settings.domain) (fixed_kept w.settings w.now work Holds g)) d _ (fixed_after w.settings w.now work Holds g w.journal holds)

  fixed_then : At w.settings w.now Holds g (Fixed w.settings.domain) (repeated (one_turn w.settings w.now) 64 w.journal)
  fixed_then = subst (At w.settings w.now Holds g (Fixed w.settings.domain))
      (ap (repeated (one_turn w.settings w.now) 40) (repeated_sum (one_turn w.settings w.now) 6 18 w.journal) ∙ repeated_sum (one_turn w.settings w.now) 24 40 w.journal) (fixed_at 40)

  -- the same Tables stand as at first
  record Tabled (j i : Journal) : Type 0 where
    at : At w.settings w.now Holds g (Fixed w.settings.domain) i
    same : SameTables (state j) (state i)

  tabled_kept : (j : Journal) → Kept (round w.settings w.now) keys_of (Tabled j)
  tabled_kept j key i h = record { at = at_kept w.settings w.now Holds g (Fixed w.settings.domain) (fixed_kept w.settings w.now work Holds g) key i h.at; same = go (round_of w.settings w.now Holds g key i h.at.0) }
    where
      go : RoundOf w.settings w.now key i → SameTables (state j) (state (round_at w.settings w.now key i))
      go (Rests e s) q = h.same q ∙ ap (λ k. standing kind.Table q (state k)) (sym s)
      go (Acts act) q = h.same q ∙ sym (work.tables key _ (state i) (state (round_at w.settings w.now key i)) act h.at.1 q)

  tables_after : (d : ℕ) → SameTables (state (repeated (one_turn w.settings w.now) 64 w.journal)) (state (repeated (one_turn w.settings w.now) (64 + d) w.journal))
  tables_after d = subst (λ i. SameTables (state (repeated (one_turn w.settings w.now) 64 w.journal)) (state i)) (repeated_sum (one_turn w.settings w.now) 64 d w.journal)
      (turns_keep Name (round w.settings w.now) keys_of controllers (Tabled (repeated (one_turn w.settings w.now) 64 w.journal)) (tabled_kept (repeated (one_turn w.settings w.now) 64 w.journal)) d _ (record { at = fixed_then; same = λ q. refl })).same

  -- no Table changes after 64 turns
  pub keeps_tables : (t : ℕ) → KeepsTables w t
  keeps_tables t = go (two_ways t 64)
    where
      go : (suc t ≤ 64) ⊎ (64 ≤ t) → KeepsTables w t
      go (inl few) q = let e : min t 64 ≡ t = omega arith in ap (λ n. standing kind.Table q (present (turns_of n w))) e
      go (inr many) q =
          let e : min t 64 ≡ 64 = omega arith in
          let d : 64 + (t - 64) ≡ t = omega arith in
          ap (λ n. standing kind.Table q (present (turns_of n w))) e
          ∙ ap (λ i. standing kind.Table q (state i)) (journal_after 64)
          ∙ tables_after (t - 64) q
          ∙ ap (λ n. standing kind.Table q (state (repeated (one_turn w.settings w.now) n w.journal))) d
          ∙ ap (λ i. standing kind.Table q (state i)) (sym (journal_after t))
