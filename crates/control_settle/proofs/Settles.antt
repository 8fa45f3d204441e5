-- The theorems: lawful journals settle, each settle of a kept plane ends within the bounds, and its Tables are those of an early turn.
use Rattle.std.proofs.Common.{ℕ, ◌+◌, ◌*◌, ◌≤◌, Bool, length}
use Rattle.resource_types.specs.declared.manifests.Manifest.{Manifest}
use Rattle.resource_types.specs.Lookups.{Journal, state}
use Rattle.control_rules.specs.declared.settings.Settings.{Settings}
use Rattle.control_rules.specs.Facts.{IsKept}
use Rattle.control_rules.specs.Slots.{Plane, present}
use Rattle.control_rules.specs.Turns.{IsSettle, turn_bound, linear_turn_bound, KeepsTables}
use Rattle.control_entries.proofs.Names.{knows_keys}
use Rattle.control_entries.proofs.Fitting.{lawful_stamped}
use Rattle.control_entries.proofs.Rounds.{round_longer, round_state}
use Rattle.control_entries.proofs.LawfulRounds.{IsLawfulNow, round_lawful}
use Rattle.control_safety.specs.Goods.{IsGoodLaws}
use Rattle.control_settle.specs.Grounds.{AreGrounds}
use Rattle.control_settle.specs.Within.{SettlesWithin}
use Rattle.control_settle.proofs.Sounds.{sound_state}
use Rattle.control_settle.proofs.Counted.{rounds}
use Rattle.control_settle.proofs.Theorems.{settles, settle_ends, settle_soon, settle_is_linear, settle_is_bounded, keeps_tables}

module _ {is_good : Manifest → Bool} (laws : IsGoodLaws is_good) where
  -- what the proof stands on holds of lawful journals
  pub lawful_grounds : (settings : Settings) (now : ℕ) → AreGrounds settings now (IsLawfulNow is_good settings now)
  lawful_grounds settings now = record {
    sound = λ j h. sound_state laws h.lawful;
    keeps = λ key j h. round_lawful is_good settings now key j h;
    longer = λ key j plan h e. round_longer settings now j (lawful_stamped is_good settings j h.lawful) key plan e;
    writes = λ key j plan h e. round_state settings now j (lawful_stamped is_good settings j h.lawful) key plan e;
    knows = knows_keys;
  }

  -- after at most 30 + 14 m turns a turn changes nothing, where m objects stand in the state of the journal
  pub journal_settles : (settings : Settings) (now : ℕ) (j : Journal) → IsLawfulNow is_good settings now j
      → SettlesWithin settings now j (30 + 14 * length (state j))
  journal_settles settings now j h = settles settings now (rounds settings now) (IsLawfulNow is_good settings now) (lawful_grounds settings now) j h

  -- ---- of a kept plane

  module _ (w : Plane) (kept : IsKept is_good w) where
    holds : IsLawfulNow is_good w.settings w.now w.journal
    holds = record { lawful = kept.lawful; past = kept.past }

    -- it settles
    pub kept_settles : (t : ℕ) × (v : Plane) × IsSettle w t v
    kept_settles = settle_ends w (rounds w.settings w.now) (IsLawfulNow is_good w.settings w.now) (lawful_grounds w.settings w.now) holds

    -- each settle is within the bound, where m objects stand at first
    pub kept_is_bounded : (t : ℕ) (v : Plane) → IsSettle w t v → t ≤ turn_bound (length (present w))
    kept_is_bounded t v s = settle_is_bounded w (rounds w.settings w.now) (IsLawfulNow is_good w.settings w.now) (lawful_grounds w.settings w.now) holds t v s

    -- and within the linear one
    pub kept_is_linear : (t : ℕ) (v : Plane) → IsSettle w t v → t ≤ linear_turn_bound (length (present w))
    kept_is_linear t v s = settle_is_linear w (rounds w.settings w.now) (IsLawfulNow is_good w.settings w.now) (lawful_grounds w.settings w.now) holds t v s

    -- in fact so soon
    pub kept_is_soon : (t : ℕ) (v : Plane) → IsSettle w t v → t ≤ 30 + 14 * length (present w)
    kept_is_soon t v s = settle_soon w (rounds w.settings w.now) (IsLawfulNow is_good w.settings w.now) (lawful_grounds w.settings w.now) holds t v s

    -- no Table changes after the first 64 turns
    pub kept_keeps_tables : (t : ℕ) → KeepsTables w t
    kept_keeps_tables t = keeps_tables w (rounds w.settings w.now) (IsLawfulNow is_good w.settings w.now) (lawful_grounds w.settings w.now) holds t
