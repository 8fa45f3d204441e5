-- A round of a key has nothing to write, or makes the entry of what is due.
use Rattle.std.proofs.Common.{◌≡◌, ℕ, suc, ◌+◌, ◌≤◌, Bool, true, false, ◌&&◌, [], ◌∷◌, ◌++◌, length, length-append, cond, Option, Some, None, nat_lt, refl, ap, ◌∙◌, subst, arith}
use Rattle.std.specs.Prelude.{◌==◌}
use Rattle.std.specs.Cmp.{nat_eq_equiv}
use Rattle.std.proofs.Math.Seq.{take-length}
use Rattle.std.proofs.lemmas.Bool.Decides.{nat_tests}
use Rattle.version_store.specs.declared.write.Applied.TheVariants as applied
use Rattle.version_store.specs.declared.write.Expect.{Expect}
use Rattle.version_store.specs.Apply.{unexpected, guarded_stale, first_case, object_after, with_entry}
use Rattle.version_store.proofs.Standing.{version_is_last}
use Rattle.version_store.proofs.GuardLaws.{newest_within}
use Rattle.version_store.specs.State as store
use Rattle.version_store.proofs.Journals.{state-push}
use Rattle.resource_types.specs.declared.names.SlotKey.{SlotKey}
use Rattle.resource_types.specs.declared.objects.Object.{Object}
use Rattle.resource_types.specs.contracts.names.KeyOrd.TheImpl as key_order
use Rattle.resource_types.specs.contracts.names.KeyOrd.TheImpl.Laws as key_laws
use Rattle.resource_types.specs.contracts.item.ObjectItem.TheImpl as object_item
use Rattle.resource_types.specs.Lookups.{Journal, find, state, version_of}
use Rattle.resource_types.proofs.Ordered.{state-order}
use Rattle.control_rules.specs.declared.settings.Settings.{Settings}
use Rattle.control_rules.specs.Differences.{ObjectPlan}
use Rattle.control_rules.specs.Next.{next_write}
use Rattle.control_rules.specs.Slots.{ObjectEntry, answer_in, entry_in, last_in, newest_in}
use Rattle.control_rules.specs.Steps.{expect_of}
use Rattle.control_rules.specs.Rounds.{write_now, extended, round_at}
use Rattle.control_entries.specs.Ground.{IsStamped}
use Rattle.control_entries.specs.Due.{IsDue}
use Rattle.control_entries.proofs.Answers.{unchanged-other}
use Rattle.control_entries.proofs.Due.{write_due}

-- ---- a plan that is due is done

unexpected-due : (e : Expect) (o : Option Object) (last : ℕ) → e ≡ expect_of o → ((x : Object) → o ≡ Some x → last ≡ version_of x)
    → unexpected e o last ≡ None
unexpected-due e None last h l = ap (λ z. unexpected {O = Object} z None last) h
unexpected-due e (Some x) last h l = ap (λ z. unexpected {O = Object} z (Some x) last) h
    ∙ ap (λ b. cond b None (Some (applied.Stale last))) (ap (λ z. version_of x == z) (l x refl) ∙ nat_eq_equiv.refl (version_of x))

guarded_stale-seen : (guarded : Bool) (seen newest : ℕ) → newest ≤ seen → guarded_stale guarded seen newest ≡ None
guarded_stale-seen guarded seen newest le = ap (λ b. cond (guarded && b) (Some (applied.Stale newest)) None) late ∙ go guarded
  where
    late : nat_lt seen newest ≡ false
    late = grind (arith, nat_tests)

    go : (b : Bool) → cond (b && false) (Some (applied.Stale newest)) None ≡ None
    go true = refl
    go false = refl

-- the entry of a controller's write from a look at the present state
abbrev pub entry_now : ℕ → Journal → SlotKey → ObjectPlan → ObjectEntry
entry_now now j key plan = entry_in j (write_now now j key plan)

module _ (settings : Settings) (now : ℕ) (j : Journal) (ground : IsStamped j) where
  last_is : (plan : ObjectPlan) (o : Object) → find plan.key (state j) ≡ Some o → last_in j plan.key ≡ version_of o
  last_is plan o e = subst (λ es. find plan.key (state es) ≡ Some o → last_in es plan.key ≡ version_of o) (take-length j)
      (version_is_last object_item.ghosts key_order.ghosts.cmp key_laws.total-law j ground.stamped (length j) (let le : length j ≤ length j = omega arith in le) plan.key o) e

  done : (key : SlotKey) (plan : ObjectPlan) → IsDue (state j) key.name plan → answer_in j (write_now now j key plan) ≡ applied.Done (length j + 1)
  done key plan due = λ i. first_case
      (unexpected-due plan.expect (find plan.key (state j)) (last_in j plan.key) due.expects (last_is plan) i)
      (guarded_stale-seen plan.guarded (length j) (newest_in j) (newest_within object_item.ghosts key_order.ghosts.cmp j) i)
      (unchanged-other plan.change (find plan.key (state j)) (last_in j plan.key) due.changes i)
      (applied.Done (length j + 1))

  -- the entry that is made
  pub round_makes : (key : SlotKey) (plan : ObjectPlan) → next_write settings key (state j) now ≡ Some plan
      → round_at settings now key j ≡ j ++ entry_now now j key plan ∷ []
  unfolding round_at
  round_makes key plan e = ap (extended now j key) e
      ∙ ap (λ a. with_entry a j (entry_now now j key plan)) (done key plan (write_due (state j) (state-order j) ground.fitting settings key now plan e))

  pub round_longer : (key : SlotKey) (plan : ObjectPlan) → next_write settings key (state j) now ≡ Some plan
      → length (round_at settings now key j) ≡ suc (length j)
  round_longer key plan e = let l = ap length (round_makes key plan e) in let a = length-append j (entry_now now j key plan ∷ []) in omega arith

  -- the state with what the plan puts, or without what it removes
  pub round_state : (key : SlotKey) (plan : ObjectPlan) → next_write settings key (state j) now ≡ Some plan
      → state (round_at settings now key j) ≡ store.changed (λ (o : Object). o.key) key_order.ghosts.cmp plan.key
      (object_after object_item.ghosts (find plan.key (state j)) (length j + 1) plan.change now) (state j)
  round_state key plan e = ap state (round_makes key plan e) ∙ state-push (λ (o : Object). o.key) key_order.ghosts.cmp j (entry_now now j key plan)

  -- a round has nothing to write, or makes the journal longer
  pub data IsRound (key : SlotKey) : Type 0 where
    Rests : next_write settings key (state j) now ≡ None → round_at settings now key j ≡ j → IsRound key
    Writes : (plan : ObjectPlan) → next_write settings key (state j) now ≡ Some plan → length (round_at settings now key j) ≡ suc (length j)
        → IsRound key

  pub a_round : (key : SlotKey) → IsRound key
  unfolding round_at
  a_round key = go (next_write settings key (state j) now) refl
    where
      go : (p : Option ObjectPlan) → next_write settings key (state j) now ≡ p → IsRound key
      go None e = Rests e (ap (extended now j key) e)
      go (Some plan) e = Writes plan e (round_longer key plan e)
