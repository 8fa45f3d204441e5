-- What a controller writes from a look keeps the journal lawful.
use Rattle.std.proofs.Common.{◌≡◌, ℕ, ◌+◌, ◌<◌, ◌≤◌, ◌⊎◌, inl, inr, Bool, true, false, [], ◌∷◌, ◌++◌, length, take, Some, refl, sym, ap, ◌∙◌, subst, arith}
use Rattle.std.specs.Prelude.{slice_get}
use Rattle.std.proofs.lemmas.Bool.{cases_lt}
use Rattle.version_store.specs.declared.write.Applied.{Applied}
use Rattle.version_store.specs.declared.write.Applied.TheVariants as applied
use Rattle.version_store.specs.Journal.{changes_guard}
use Rattle.version_store.specs.Apply.{object_after, with_entry, entries_after}
use Rattle.version_store.proofs.Growth.{state_at-grows, state_at-all, grows_by}
use Rattle.version_store.proofs.GuardLaws.{quiet_since}
use Rattle.version_store.proofs.Step.{put_stamped}
use Rattle.resource_types.specs.declared.names.SlotKey.{SlotKey}
use Rattle.resource_types.specs.declared.names.Actor.TheVariants.{Controller}
use Rattle.resource_types.specs.declared.objects.Object.{Object}
use Rattle.resource_types.specs.declared.manifests.Manifest.{Manifest}
use Rattle.resource_types.specs.contracts.names.KeyOrd.TheImpl as key_order
use Rattle.resource_types.specs.contracts.item.ObjectItem.TheImpl as object_item
use Rattle.resource_types.specs.ItemLaws.{stamp_alone_of, spec_equivalence_of}
use Rattle.resource_types.specs.Lookups.{Journal, find, state}
use Rattle.resource_types.proofs.Ordered.{state-order}
use Rattle.control_rules.specs.declared.settings.Settings.{Settings}
use Rattle.control_rules.specs.Differences.{ObjectPlan}
use Rattle.control_rules.specs.Next.{next_write}
use Rattle.control_rules.specs.Slots.{ObjectEntry, ObjectWrite, state_at, is_key, answer_in, entry_in, newest_in}
use Rattle.control_rules.specs.Steps.{expect_of}
use Rattle.control_rules.specs.Lawful.{moment_at, IsAlone, version_if, Controls, IsLawful}
use Rattle.control_rules.proofs.Makeable.{Makeable, write_makeable}
use Rattle.control_entries.specs.Ground.{AreFitting}
use Rattle.control_entries.specs.Due.{IsDue}
use Rattle.control_entries.proofs.Due.{write_due}
use Rattle.control_entries.proofs.Answers.{IsAnswered, Refused, DoneAt, IsRefusal, answered}
use Rattle.control_entries.proofs.Made.{due_changes}
use Rattle.control_entries.proofs.LawfulEntries.{get_push, moment_push, last_moment, lawful_push}

-- a look of a key at so many entries and at that moment: it lies between two entries, no later than now, and no entry since is of the key
pub record IsLook (j : Journal) (now : ℕ) (key : SlotKey) (seen read_at : ℕ) : Type 0 where
  pub before : seen ≤ length j
  pub from : moment_at j seen ≤ read_at
  pub upto : seen < length j → read_at ≤ moment_at j (seen + 1)
  pub past : read_at ≤ now
  pub alone : IsAlone j seen (length j) key

-- the write of the key's plan from that look
abbrev pub look_write : ℕ → SlotKey → ℕ → ℕ → ObjectPlan → ObjectWrite
look_write now key seen read_at plan = record { plan = plan; actor = Controller key; seen = seen; read_at = read_at; moment = now }

module _ (is_good : Manifest → Bool) (settings : Settings) (j : Journal) (now : ℕ) (lawful : IsLawful is_good settings j) (past : moment_at j (length j) ≤ now) where
  module _ (key : SlotKey) (seen read_at : ℕ) (look : IsLook j now key seen read_at) (fitting : AreFitting (state_at j seen)) (known : is_key key (state j) ≡ true)
      (plan : ObjectPlan) (planned : next_write settings key (state_at j seen) read_at ≡ Some plan) where
    abbrev made : ObjectEntry
    made = entry_in j (look_write now key seen read_at plan)

    due : IsDue (state_at j seen) key.name plan
    due = write_due (state_at j seen) (state-order (take seen j)) fitting settings key read_at plan planned

    -- the entry is the controller's, as it looked
    controls : find plan.key (state j) ≡ find plan.key (state_at j seen) → (plan.guarded ≡ true → newest_in j ≤ seen)
        → Controls settings (j ++ made ∷ []) (length j) made key
    controls looked newest = record {
      plan = plan;
      before = look.before;
      from = subst (λ m. m ≤ read_at) (sym (moment_push j made seen look.before)) look.from;
      upto = next (cases_lt seen (length j));
      named = subst (λ st. is_key key st ≡ true) here known;
      planned = subst (λ st. next_write settings key st read_at ≡ Some plan) then planned;
      key = refl;
      object = ap (λ st. object_after object_item.ghosts (find plan.key st) (length j + 1) plan.change now) here;
      looked = ap (λ st. version_if (find plan.key st)) (sym here) ∙ ap version_if looked ∙ ap (λ st. version_if (find plan.key st)) then;
      alone = λ i f low high at. look.alone i f low high (sym (get_push j made i high) ∙ at);
      guard = λ g i f low high at. quiet_push i f (newest g) low high (sym (get_push j made i high) ∙ at);
    }
      where
        state_push : (n : ℕ) → n ≤ length j → state_at j n ≡ state_at (j ++ made ∷ []) n
        state_push n le = sym (state_at-grows (λ (o : Object). o.key) key_order.ghosts.cmp j (j ++ made ∷ []) n (grows_by j (made ∷ [])) le)

        here : state j ≡ state_at (j ++ made ∷ []) (length j)
        here = sym (state_at-all (λ (o : Object). o.key) key_order.ghosts.cmp j) ∙ state_push (length j) (omega arith)

        then : state_at j seen ≡ state_at (j ++ made ∷ []) seen
        then = state_push seen look.before

        next : (seen < length j) ⊎ (length j ≤ seen) → read_at ≤ moment_at (j ++ made ∷ []) (seen + 1)
        next (inl lt) = subst (λ m. read_at ≤ m) (sym (moment_push j made (seen + 1) (omega arith))) (look.upto lt)
        next (inr ge) = subst (λ n. read_at ≤ moment_at (j ++ made ∷ []) (n + 1)) (let b = look.before in let e : length j ≡ seen = omega arith in e)
            (subst (λ m. read_at ≤ m) (sym (last_moment j made)) look.past)

        quiet_push : (i : ℕ) (f : ObjectEntry) → newest_in j ≤ seen → seen ≤ i → i < length j → slice_get j i ≡ Some f
            → changes_guard object_item.ghosts (find f.key (state_at (j ++ made ∷ []) i)) f.object ≡ false
        quiet_push i f le low high at =
            ap (λ st. changes_guard object_item.ghosts (find f.key st) f.object) (sym (state_push i (omega arith)))
            ∙ quiet_since object_item.ghosts key_order.ghosts.cmp j i seen f high le low at

    -- with it the journal is lawful
    lawful_made : find plan.key (state j) ≡ find plan.key (state_at j seen) → (plan.guarded ≡ true → newest_in j ≤ seen)
        → IsLawful is_good settings (j ++ made ∷ [])
    lawful_made looked newest = lawful_push j made is_good settings lawful past
        (put_stamped object_item.ghosts stamp_alone_of spec_equivalence_of (find plan.key (state j)) (length j + 1) plan.key plan.change now makeable.key)
        (due_changes (find plan.key (state j)) (length j + 1) plan.expect plan.change now (due.expects ∙ ap expect_of (sym looked)) makeable.removal
        (λ x y put stands. due.changes x y put (sym looked ∙ stands)))
        (controls looked newest)
      where
        makeable : Makeable plan
        makeable = write_makeable settings key (state_at j seen) read_at plan planned

    -- whatever the write is answered, the journal stays lawful
    pub write_lawful : IsLawful is_good settings (entries_after object_item.ghosts key_order.ghosts.cmp j (look_write now key seen read_at plan))
    write_lawful = go (answer_in j (look_write now key seen read_at plan))
        (answered j lawful.stamps seen look.before key.name (look_write now key seen read_at plan) refl due)
      where
        refused : (a : Applied) → IsRefusal a → IsLawful is_good settings (with_entry a j made)
        refused (applied.Done version) h = absurd h
        refused (applied.Same version) h = absurd h
        refused (applied.Stale newer) h = lawful
        refused (applied.Exists version) h = lawful
        refused (applied.Absent last) h = lawful

        go : (a : Applied) → IsAnswered j lawful.stamps seen look.before key.name (look_write now key seen read_at plan) a
            → IsLawful is_good settings (with_entry a j made)
        go a (Refused r) = refused a r
        go a (DoneAt f looked newest) = subst (λ b. IsLawful is_good settings (with_entry b j made)) (sym f) (lawful_made looked newest)
