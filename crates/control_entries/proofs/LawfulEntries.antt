-- A lawful journal with a lawful entry more is lawful.
use Rattle.std.proofs.Common.{◌≡◌, ◌⊎◌, inl, inr, ℕ, zero, suc, ◌+◌, ◌<◌, ◌≤◌, Bool, true, List, [], ◌∷◌, ◌++◌, length, length-append, Some, refl, sym, ap, ◌∙◌, subst, arith}
use Rattle.std.specs.Prelude.{slice_get}
use Rattle.std.proofs.lemmas.Bool.{cases_lt}
use Rattle.std.proofs.lemmas.Option.{slice_get_within}
use Rattle.version_store.specs.Journal.{changes_guard, IsStamped}
use Rattle.version_store.specs.Apply.{object_after}
use Rattle.version_store.proofs.Growth.{state_at-grows, state_at-all, grows_by}
use Rattle.version_store.proofs.Journals.{AreStamped-push}
use Rattle.version_store.proofs.Indexed.{entry_between}
use Rattle.resource_types.specs.declared.names.SlotKey.{SlotKey}
use Rattle.resource_types.specs.declared.names.Actor.{Actor}
use Rattle.resource_types.specs.declared.names.Actor.TheVariants.{Client, Reporter, Controller}
use Rattle.resource_types.specs.declared.objects.Object.{Object}
use Rattle.resource_types.specs.declared.manifests.Manifest.{Manifest}
use Rattle.resource_types.specs.contracts.names.KeyOrd.TheImpl as key_order
use Rattle.resource_types.specs.contracts.item.ObjectItem.TheImpl as object_item
use Rattle.resource_types.specs.Lookups.{Journal, find, state}
use Rattle.control_rules.specs.declared.settings.Settings.{Settings}
use Rattle.control_rules.specs.Next.{next_write}
use Rattle.control_rules.specs.Slots.{ObjectEntry, state_at, is_key}
use Rattle.control_rules.specs.Lawful.{moment_of, moment_at, PutsObject, RemovesObject, RemovesRevision, Reports, IsAlone, IsUnguarded, version_if, Controls, IsChange, IsLawfulAs, IsLawful}
use Rattle.control_entries.proofs.Tests.{some_same}

-- ---- what an entry more leaves as it is

-- an entry of the longer journal is one of the shorter, or the last
pub get_push : {E : Type 0} (xs : List E) (x : E) (i : ℕ) → i < length xs → slice_get (xs ++ x ∷ []) i ≡ slice_get xs i
get_push [] x i lt = absurd (omega arith)
get_push (y ∷ xs) x zero lt = refl
get_push (y ∷ xs) x (suc i) lt = get_push xs x i (omega arith)

module _ (j : Journal) (x : ObjectEntry) where
  abbrev longer : Journal
  longer = j ++ x ∷ []

  state_push : (n : ℕ) → n ≤ length j → state_at j n ≡ state_at longer n
  state_push n le = sym (state_at-grows (λ (o : Object). o.key) key_order.ghosts.cmp j longer n (grows_by j (x ∷ [])) le)

  pub moment_push : (v : ℕ) → v ≤ length j → moment_at longer v ≡ moment_at j v
  moment_push zero le = refl
  moment_push (suc n) le = ap moment_of (get_push j x n (omega arith))

  pub last_moment : moment_at longer (length j + 1) ≡ x.moment
  last_moment = ap (moment_at longer) (let one : length j + 1 ≡ suc (length j) = omega arith in one) ∙ ap moment_of (entry_between j [] x)

  alone_push : (seen n : ℕ) (key : SlotKey) → n ≤ length j → IsAlone j seen n key → IsAlone longer seen n key
  alone_push seen n key le h i f low high at = h i f low high (sym (get_push j x i (omega arith)) ∙ at)

  unguarded_push : (seen n : ℕ) → n ≤ length j → IsUnguarded j seen n → IsUnguarded longer seen n
  unguarded_push seen n le h i f low high at =
      ap (λ st. changes_guard object_item.ghosts (find f.key st) f.object) (sym (state_push i (omega arith)))
      ∙ h i f low high (sym (get_push j x i (omega arith)) ∙ at)

  -- what is known of a look at the journal is known at the longer one
  pub controls_push : (settings : Settings) (n : ℕ) (e : ObjectEntry) (by : SlotKey) → n < length j → Controls settings j n e by
      → Controls settings longer n e by
  controls_push settings n e by lt c = record {
    plan = c.plan;
    before = c.before;
    from = subst (λ m. m ≤ e.read_at) (sym (moment_push e.seen seen)) c.from;
    upto = subst (λ m. e.read_at ≤ m) (sym (moment_push (e.seen + 1) (let b = c.before in omega arith))) c.upto;
    named = subst (λ st. is_key by st ≡ true) (state_push n le) c.named;
    planned = subst (λ st. next_write settings by st e.read_at ≡ Some c.plan) (state_push e.seen seen) c.planned;
    key = c.key;
    object = subst (λ st. e.object ≡ object_after object_item.ghosts (find c.plan.key st) (n + 1) c.plan.change e.moment) (state_push n le) c.object;
    looked = ap (λ st. version_if (find e.key st)) (sym (state_push n le)) ∙ c.looked
        ∙ ap (λ st. version_if (find e.key st)) (state_push e.seen seen);
    alone = alone_push e.seen n by le c.alone;
    guard = λ g. unguarded_push e.seen n le (c.guard g);
  }
    where
      le : n ≤ length j
      le = omega arith

      seen : e.seen ≤ length j
      seen = let b = c.before in omega arith

  module _ (is_good : Manifest → Bool) (settings : Settings) where
    entry_push : (actor : Actor) (n : ℕ) (e : ObjectEntry) → n < length j → IsLawfulAs is_good settings actor j n e
        → IsLawfulAs is_good settings actor longer n e
    entry_push Client n e lt h = (h.0, subst (λ st. PutsObject is_good st e ⊎ (RemovesObject st e ⊎ RemovesRevision st e)) (state_push n (omega arith)) h.1)
    entry_push Reporter n e lt h = (h.0, subst (λ st. Reports st e) (state_push n (omega arith)) h.1)
    entry_push (Controller key) n e lt h = controls_push settings n e key lt h

    -- the last entry's moment is not before that of the one before it
    moments_push : IsLawful is_good settings j → moment_at j (length j) ≤ x.moment → (i : ℕ) (e f : ObjectEntry) → slice_get longer i ≡ Some e
        → slice_get longer (i + 1) ≡ Some f → e.moment ≤ f.moment
    moments_push l le i e f at next = go (cases_lt (i + 1) (length j))
      where
        within : i + 1 < length longer
        within = slice_get_within longer (i + 1) f next

        last : length longer ≡ length j + 1
        last = length-append j (x ∷ [])

        go : (i + 1 < length j) ⊎ (length j ≤ i + 1) → e.moment ≤ f.moment
        go (inl lt) = l.moments i e f (sym (get_push j x i (omega arith)) ∙ at) (sym (get_push j x (i + 1) lt) ∙ next)
        go (inr ge) = subst (λ m. m ≤ f.moment) is_e (subst (λ m. moment_at j (length j) ≤ m) is_f le)
          where
            here : i + 1 ≡ length j
            here = let a = within in let b = last in omega arith

            is_f : x.moment ≡ f.moment
            is_f = ap (λ z. z.moment) (some_same (sym (entry_between j [] x) ∙ ap (slice_get longer) (sym here) ∙ next))

            is_e : moment_at j (length j) ≡ e.moment
            is_e = ap (moment_at j) (let h = here in let one : length j ≡ suc i = omega arith in one)
                ∙ ap moment_of (sym (get_push j x i (let h = here in omega arith)) ∙ at)

    -- with an entry that is lawful, stamped, not before the last one, and a change of what stands
    pub lawful_push : IsLawful is_good settings j → moment_at j (length j) ≤ x.moment
        → IsStamped object_item.ghosts (find x.key (state j)) (length j + 1) x.key x.object x.moment → IsChange (find x.key (state j)) x.object
        → IsLawfulAs is_good settings x.actor longer (length j) x → IsLawful is_good settings longer
    lawful_push l le stamped change last = record {
      moments = moments_push l le;
      stamps = AreStamped-push object_item.ghosts key_order.ghosts.cmp j x l.stamps stamped;
      changes = λ n e at. changed n e at (cases_lt n (length j));
      entries = λ n e at. go n e at (cases_lt n (length j));
    }
      where
        whole : state j ≡ state_at longer (length j)
        whole = sym (state_at-all (λ (o : Object). o.key) key_order.ghosts.cmp j) ∙ state_push (length j) (omega arith)

        here : (n : ℕ) (e : ObjectEntry) → slice_get longer n ≡ Some e → length j ≤ n → length j ≡ n
        here n e at ge = let lt = slice_get_within longer n e at in let l = length-append j (x ∷ []) in omega arith

        same : (n : ℕ) (e : ObjectEntry) → slice_get longer n ≡ Some e → length j ≤ n → x ≡ e
        same n e at ge = some_same (sym (entry_between j [] x) ∙ ap (slice_get longer) (here n e at ge) ∙ at)

        changed : (n : ℕ) (e : ObjectEntry) → slice_get longer n ≡ Some e → (n < length j) ⊎ (length j ≤ n)
            → IsChange (find e.key (state_at longer n)) e.object
        changed n e at (inl lt) = subst (λ st. IsChange (find e.key st) e.object) (state_push n (omega arith))
            (l.changes n e (sym (get_push j x n lt) ∙ at))
        changed n e at (inr ge) = subst (λ m. IsChange (find e.key (state_at longer m)) e.object) (here n e at ge)
            (subst (λ (z : ObjectEntry). IsChange (find z.key (state_at longer (length j))) z.object) (same n e at ge)
            (subst (λ st. IsChange (find x.key st) x.object) whole change))

        go : (n : ℕ) (e : ObjectEntry) → slice_get longer n ≡ Some e → (n < length j) ⊎ (length j ≤ n)
            → IsLawfulAs is_good settings e.actor longer n e
        go n e at (inl lt) = entry_push e.actor n e lt (l.entries n e (sym (get_push j x n lt) ∙ at))
        go n e at (inr ge) = subst (λ m. IsLawfulAs is_good settings e.actor longer m e) (here n e at ge)
            (subst (λ (z : ObjectEntry). IsLawfulAs is_good settings z.actor longer (length j) z) (same n e at ge) last)
