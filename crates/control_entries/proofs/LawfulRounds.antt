-- A round, a pass and a turn keep a journal lawful whose moments are no later than now.
use Rattle.std.proofs.Common.{◌≡◌, ℕ, ◌≤◌, Bool, true, false, List, [], ◌∷◌, ◌++◌, length, length-append, Option, Some, None, refl, sym, ap, ◌∙◌, subst, arith}
use Rattle.version_store.proofs.Growth.{state_at-all}
use Rattle.resource_types.specs.declared.names.Controller.{Controller}
use Rattle.resource_types.specs.declared.names.SlotKey.{SlotKey}
use Rattle.resource_types.specs.declared.objects.Object.{Object}
use Rattle.resource_types.specs.declared.manifests.Manifest.{Manifest}
use Rattle.resource_types.specs.contracts.names.KeyOrd.TheImpl as key_order
use Rattle.resource_types.specs.Lookups.{Journal, state}
use Rattle.control_rules.specs.declared.settings.Settings.{Settings}
use Rattle.control_rules.specs.Differences.{ObjectPlan}
use Rattle.control_rules.specs.Next.{next_write}
use Rattle.control_rules.specs.Slots.{state_at, is_key, keys_for}
use Rattle.control_rules.specs.Rounds.{extended, round_at, rounds_at, pass_at, turn_at}
use Rattle.control_rules.specs.Lawful.{moment_at, IsLawful}
use Rattle.control_entries.proofs.Names.{knows_keys}
use Rattle.control_entries.proofs.Rounds.{entry_now, round_makes}
use Rattle.control_entries.proofs.LawfulEntries.{last_moment}
use Rattle.control_entries.proofs.LawfulWrites.{IsLook, write_lawful}
use Rattle.control_entries.proofs.Fitting.{lawful_fits, lawful_stamped}

-- the journal is lawful, and its last moment is no later than now
pub record IsLawfulNow (is_good : Manifest → Bool) (settings : Settings) (now : ℕ) (j : Journal) : Type 0 where
  pub lawful : IsLawful is_good settings j
  pub past : moment_at j (length j) ≤ now

module _ (is_good : Manifest → Bool) (settings : Settings) (now : ℕ) where
  abbrev Holds : Journal → Type 0
  Holds j = IsLawfulNow is_good settings now j

  -- what is planned is planned for a key
  known : (key : SlotKey) (j : Journal) (plan : ObjectPlan) → next_write settings key (state j) now ≡ Some plan → is_key key (state j) ≡ true
  known key j plan e = go (is_key key (state j)) refl
    where
      go : (b : Bool) → is_key key (state j) ≡ b → is_key key (state j) ≡ true
      go true f = f
      go false f = absurd (let n = knows_keys settings key (state j) now f in cc)

  writes : (key : SlotKey) (j : Journal) → Holds j → (plan : ObjectPlan) → next_write settings key (state j) now ≡ Some plan
      → Holds (round_at settings now key j)
  unfolding round_at
  writes key j h plan e = record {
    lawful = subst (λ p. IsLawful is_good settings (extended now j key p)) (sym e)
        (write_lawful is_good settings j now h.lawful h.past key (length j) now look (lawful_fits is_good settings j h.lawful (length j) (omega arith))
        (known key j plan e) plan (ap (λ st. next_write settings key st now) whole ∙ e));
    past = subst (λ k. moment_at k (length k) ≤ now) (sym (round_makes settings now j (lawful_stamped is_good settings j h.lawful) key plan e))
        (subst (λ n. moment_at (j ++ entry_now now j key plan ∷ []) n ≤ now) (sym (length-append j (entry_now now j key plan ∷ [])))
        (subst (λ m. m ≤ now) (sym (last_moment j (entry_now now j key plan))) (omega arith)));
  }
    where
      whole : state_at j (length j) ≡ state j
      whole = state_at-all (λ (o : Object). o.key) key_order.ghosts.cmp j

      look : IsLook j now key (length j) now
      look = record { before = omega arith; from = h.past; upto = λ lt. absurd (omega arith); past = omega arith; alone = λ i f low high at. absurd (omega arith) }

  pub round_lawful : (key : SlotKey) (j : Journal) → Holds j → Holds (round_at settings now key j)
  unfolding round_at
  round_lawful key j h = go (next_write settings key (state j) now) refl
    where
      go : (p : Option ObjectPlan) → next_write settings key (state j) now ≡ p → Holds (round_at settings now key j)
      go None e = subst (λ p. Holds (extended now j key p)) (sym e) h
      go (Some plan) e = writes key j h plan e

  pub rounds_lawful : (keys : List SlotKey) (j : Journal) → Holds j → Holds (rounds_at settings now keys j)
  unfolding rounds_at
  rounds_lawful [] j h = h
  rounds_lawful (key ∷ keys) j h = rounds_lawful keys (round_at settings now key j) (round_lawful key j h)

  pub pass_lawful : (c : Controller) (j : Journal) → Holds j → Holds (pass_at settings now c j)
  pass_lawful c j h = rounds_lawful (keys_for c (state j)) j h

  pub turn_lawful : (j : Journal) → Holds j → Holds (turn_at settings now j)
  unfolding turn_at
  turn_lawful j h = pass_lawful _ _ (pass_lawful _ _ (pass_lawful _ _ (pass_lawful _ _ (pass_lawful _ j h))))
