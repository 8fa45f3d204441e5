-- A plane stays kept where its journal gets a lawful entry of the present moment that is of none of its slots.
use Rattle.std.proofs.Common.{◌≡◌, ◌≢◌, ◌⊎◌, inl, inr, ℕ, ◌+◌, ◌<◌, ◌≤◌, Bool, true, [], ◌∷◌, ◌++◌, length, length-append, Some, sym, ap, ◌∙◌, subst, arith}
use Rattle.std.specs.Prelude.{slice_get, is_some}
use Rattle.std.proofs.lemmas.Bool.{cases_lt}
use Rattle.version_store.specs.Index.{AreInOrder}
use Rattle.version_store.proofs.Growth.{state_at-grows, grows_by}
use Rattle.version_store.proofs.Indexed.{entry_between}
use Rattle.resource_types.specs.declared.names.SlotKey.{SlotKey}
use Rattle.resource_types.specs.declared.names.Actor.TheVariants.{Controller}
use Rattle.resource_types.specs.declared.objects.Object.{Object}
use Rattle.resource_types.specs.declared.manifests.Manifest.{Manifest}
use Rattle.resource_types.specs.contracts.names.KeyOrd.TheImpl as key_order
use Rattle.resource_types.specs.contracts.names.SlotKeyOrd.TheImpl as slot_order
use Rattle.control_rules.specs.Next.{next_write}
use Rattle.control_rules.specs.Slots.{ObjectEntry, state_at, Look, Slots, look_of, Plane}
use Rattle.control_rules.specs.Lawful.{moment_at, IsLawful}
use Rattle.control_rules.specs.Facts.{LooksBack, IsKept}
use Rattle.control_entries.proofs.Tests.{some_same}
use Rattle.control_entries.proofs.LawfulEntries.{get_push, moment_push, last_moment}

-- the plane with an entry more, and these slots
abbrev pub with_more : Plane → ObjectEntry → Slots → Plane
with_more w x slots = record w { journal = w.journal ++ x ∷ []; slots = slots }

module _ (w : Plane) (x : ObjectEntry) (slots : Slots) (at_now : x.moment ≡ w.now) where
  more : length (w.journal ++ x ∷ []) ≡ length w.journal + 1
  more = length-append w.journal (x ∷ [])

  -- what a slot holds looks back at the longer journal
  pub looks_back_more : (l : Look) → x.actor ≢ Controller l.key → LooksBack w l → LooksBack (with_more w x slots) l
  looks_back_more l other h = record {
    some = h.some;
    before = let b = h.before in let m = more in omega arith;
    from = subst (λ m. m ≤ l.read_at) (sym (moment_push w.journal x l.seen h.before)) h.from;
    upto = λ _. upto (cases_lt l.seen (length w.journal));
    past = h.past;
    alone = λ i f low high at. alone i f low at (cases_lt i (length w.journal)) high;
    planned = λ p. subst (λ st. is_some (next_write w.settings l.key st l.read_at) ≡ true) same (h.planned p);
  }
    where
      upto : (l.seen < length w.journal) ⊎ (length w.journal ≤ l.seen) → l.read_at ≤ moment_at (w.journal ++ x ∷ []) (l.seen + 1)
      upto (inl lt) = subst (λ m. l.read_at ≤ m) (sym (moment_push w.journal x (l.seen + 1) (omega arith))) (h.upto lt)
      upto (inr ge) = subst (λ n. l.read_at ≤ moment_at (w.journal ++ x ∷ []) (n + 1))
          (let b = h.before in let e : length w.journal ≡ l.seen = omega arith in e)
          (subst (λ m. l.read_at ≤ m) (sym (last_moment w.journal x ∙ at_now)) h.past)

      alone : (i : ℕ) (f : ObjectEntry) → l.seen ≤ i → slice_get (w.journal ++ x ∷ []) i ≡ Some f
          → (i < length w.journal) ⊎ (length w.journal ≤ i) → i < length (w.journal ++ x ∷ []) → f.actor ≢ Controller l.key
      alone i f low at (inl lt) high = h.alone i f low lt (sym (get_push w.journal x i lt) ∙ at)
      alone i f low at (inr ge) high = subst (λ (z : ObjectEntry). z.actor ≢ Controller l.key)
          (some_same (sym (entry_between w.journal [] x) ∙ ap (slice_get (w.journal ++ x ∷ [])) (let m = more in let e : length w.journal ≡ i = omega arith in e) ∙ at)) other

      same : state_at w.journal l.seen ≡ state_at (w.journal ++ x ∷ []) l.seen
      same = sym
          (state_at-grows (λ (o : Object). o.key) key_order.ghosts.cmp w.journal (w.journal ++ x ∷ []) l.seen (grows_by w.journal (x ∷ [])) h.before)

  -- so the plane stays kept, where the entry is lawful and the slots are in order
  pub kept_more : (is_good : Manifest → Bool) → IsKept is_good w → IsLawful is_good w.settings (w.journal ++ x ∷ [])
      → AreInOrder (λ (l : Look). l.key) slot_order.ghosts.cmp slots
      → ((q : SlotKey) (l : Look) → look_of q slots ≡ Some l → LooksBack w l × (x.actor ≢ Controller l.key)) → IsKept is_good (with_more w x slots)
  kept_more is_good k lawful ordered looks = record {
    lawful = lawful;
    past = subst (λ m. m ≤ w.now) (sym (ap (moment_at (w.journal ++ x ∷ [])) more ∙ last_moment w.journal x ∙ at_now)) (omega arith);
    clock = k.clock;
    ordered = ordered;
    slots = λ q l e. let h = looks q l e in looks_back_more l h.1 h.0;
  }
