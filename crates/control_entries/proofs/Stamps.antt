-- Versions, uids, generations and moments along a lawful journal, and objects that stand from their creation on.
use Rattle.std.proofs.Common.{◌≡◌, ◌⊎◌, inl, inr, ℕ, zero, suc, ◌+◌, ◌<◌, ◌≤◌, Bool, true, false, cond, length, Option, Some, None, refl, sym, ap, ◌∙◌, subst, arith, add-one}
use Rattle.std.specs.Prelude.{slice_get}
use Rattle.version_store.specs.declared.item.Stamp.{Stamp}
use Rattle.version_store.specs.Journal.{next_stamp, IsStamped}
use Rattle.version_store.proofs.Prefix.{stamped_at}
use Rattle.resource_types.specs.declared.names.Key.{Key}
use Rattle.resource_types.specs.declared.objects.Object.{Object}
use Rattle.resource_types.specs.declared.manifests.Manifest.{Manifest}
use Rattle.resource_types.specs.contracts.names.KeyOrd.TheImpl as key_order
use Rattle.resource_types.specs.contracts.item.ObjectItem.TheImpl as object_item
use Rattle.resource_types.specs.ItemLaws.{spec_equivalence_of}
use Rattle.resource_types.specs.Spec.{same_spec}
use Rattle.resource_types.specs.Lookups.{Journal, find}
use Rattle.control_rules.specs.declared.settings.Settings.{Settings}
use Rattle.control_rules.specs.Slots.{ObjectEntry, state_at}
use Rattle.control_rules.specs.Lawful.{moment_of, moment_at, version_if, IsLawful}
use Rattle.control_rules.specs.FurtherFacts.{Stood}
use Rattle.control_entries.proofs.Tests.{some_same, at_end}
use Rattle.control_entries.proofs.Lists.{get_some, get_below, along}
use Rattle.control_entries.proofs.Positions.{at_more}

-- a version, a uid and a creation are no later than the position
pub record IsNumbered (j : Journal) (n : ℕ) (o : Object) : Type 0 where
  pub version : o.meta.stamp.version ≤ n
  pub uid : o.meta.stamp.uid ≤ o.meta.stamp.version
  pub created : o.meta.stamp.created ≤ moment_at j n

-- what stands is what stood at m, or there is nothing, or it is newer
abbrev pub IsSameOrNew : Option Object → ℕ → Option Object → Type 0
IsSameOrNew old m new = (new ≡ old) ⊎ ((o : Object) → new ≡ Some o → m < o.meta.stamp.version)

next_version : (old : Option Object) (o : Object) (n moment : ℕ) → (next_stamp object_item.ghosts old o n moment).version ≡ n
next_version None o n moment = refl
next_version (Some p) o n moment = refl

-- ---- objects that stood

pub stood_itself : (j : Journal) (m : ℕ) (k : Key) (o : Object) → find k (state_at j m) ≡ Some o → Stood j m k o
stood_itself j m k o h = record { then = o; stands = h; uid = refl; generation = omega arith; spec = λ _. spec_equivalence_of.refl o }

stood_later : (j : Journal) (m : ℕ) (k : Key) (old o : Object) (n moment : ℕ) → o.meta.stamp ≡ next_stamp object_item.ghosts (Some old) o n moment
    → Stood j m k old → Stood j m k o
stood_later j m k old o n moment s h = go (same_spec old o) refl (ap (λ (z : Stamp). z.generation) s)
  where
    uid : h.then.meta.stamp.uid ≡ o.meta.stamp.uid
    uid = h.uid ∙ sym (ap (λ (z : Stamp). z.uid) s)

    go : (b : Bool) → same_spec old o ≡ b → o.meta.stamp.generation ≡ old.meta.stamp.generation + cond b 0 1 → Stood j m k o
    go true e g = record {
      then = h.then;
      stands = h.stands;
      uid = uid;
      generation = let w = h.generation in omega arith;
      spec = λ q. (let was : same_spec h.then old ≡ true = h.spec (let r : h.then.meta.stamp.generation ≡ old.meta.stamp.generation = omega arith in r) in spec_equivalence_of.congr h.then old o was ∙ e);
    }
    go false e g = record { then = h.then; stands = h.stands; uid = uid; generation = let w = h.generation in omega arith; spec = λ q. absurd (let w = h.generation in omega arith) }

module _ {is_good : Manifest → Bool} {settings : Settings} {j : Journal} (lawful : IsLawful is_good settings j) where
  -- what an entry puts has the entry's key
  pub put_key : (n : ℕ) (e : ObjectEntry) → slice_get j n ≡ Some e → (o : Object) → e.object ≡ Some o → o.key ≡ e.key
  put_key n e g o h = (subst (λ x. IsStamped object_item.ghosts (find e.key (state_at j n)) (n + 1) e.key x e.moment) h (stamped_at object_item.ghosts key_order.ghosts.cmp j n e lawful.stamps g)).0

  -- and the stamp that is due to it
  pub put_stamp : (n : ℕ) (e : ObjectEntry) → slice_get j n ≡ Some e → (o : Object) → e.object ≡ Some o
      → o.meta.stamp ≡ next_stamp object_item.ghosts (find e.key (state_at j n)) o (n + 1) e.moment
  put_stamp n e g o h = (subst (λ x. IsStamped object_item.ghosts (find e.key (state_at j n)) (n + 1) e.key x e.moment) h (stamped_at object_item.ghosts key_order.ghosts.cmp j n e lawful.stamps g)).1

  -- over what stands it keeps the uid and the creation
  pub put_over : (n : ℕ) (e : ObjectEntry) → slice_get j n ≡ Some e → (o old : Object) → e.object ≡ Some o → find e.key (state_at j n) ≡ Some old
      → o.meta.stamp ≡ next_stamp object_item.ghosts (Some old) o (n + 1) e.moment
  put_over n e g o old h at = put_stamp n e g o h ∙ ap (λ w. next_stamp object_item.ghosts w o (n + 1) e.moment) at

  -- ---- moments

  pub moment_after : (n : ℕ) (e : ObjectEntry) → slice_get j n ≡ Some e → moment_at j (suc n) ≡ e.moment
  moment_after n e g = ap moment_of g

  pub moment_step : (n : ℕ) (e : ObjectEntry) → slice_get j n ≡ Some e → moment_at j n ≤ e.moment
  moment_step zero e g = omega arith
  moment_step (suc n) f g = go (get_some j n (let b = get_below j (suc n) f g in omega arith))
    where
      go : ((e : ObjectEntry) × (slice_get j n ≡ Some e)) → moment_at j (suc n) ≤ f.moment
      go (e, h) = (let le = lawful.moments n e f h (ap (slice_get j) (add-one n) ∙ g) in let is = moment_after n e h in omega arith)

  -- moments don't fall
  pub moments_rise : (m n : ℕ) → m ≤ n → n ≤ length j → moment_at j m ≤ moment_at j n
  moments_rise m n le len =
      along j (λ i. moment_at j m ≤ moment_at j i) m n le len (λ i e a b g ih. (let s = moment_step i e g in let t = moment_after i e g in omega arith)) (omega arith)

  -- ---- numbers

  numbered_put : (n : ℕ) (e : ObjectEntry) → slice_get j n ≡ Some e → (o : Object) (old : Option Object)
      → o.meta.stamp ≡ next_stamp object_item.ghosts old o (n + 1) e.moment → ((p : Object) → old ≡ Some p → IsNumbered j n p)
      → IsNumbered j (suc n) o
  numbered_put n e g o None s was = record {
    version = let v = ap (λ (z : Stamp). z.version) s in omega arith;
    uid = let v = ap (λ (z : Stamp). z.version) s in let u = ap (λ (z : Stamp). z.uid) s in omega arith;
    created = let c = ap (λ (z : Stamp). z.created) s in let t = moment_after n e g in omega arith;
  }
  numbered_put n e g o (Some p) s was = (let w = was p refl in record {
    version = let v = ap (λ (z : Stamp). z.version) s in omega arith;
    uid = let v = ap (λ (z : Stamp). z.version) s in let u = ap (λ (z : Stamp). z.uid) s in let a = w.uid in let b = w.version in omega arith;
    created = let c = ap (λ (z : Stamp). z.created) s in let t = moment_after n e g in let r = moment_step n e g in let a = w.created in omega arith;
  })

  pub numbered : (n : ℕ) → n ≤ length j → (k : Key) (o : Object) → find k (state_at j n) ≡ Some o → IsNumbered j n o
  numbered zero len k o h = absurd cc
  numbered (suc n) len k o h = go (get_some j n (omega arith)) (numbered n (omega arith)) o h
    where
      go : ((e : ObjectEntry) × (slice_get j n ≡ Some e)) → ((k : Key) (o : Object) → find k (state_at j n) ≡ Some o → IsNumbered j n o)
          → (o : Object) → find k (state_at j (suc n)) ≡ Some o → IsNumbered j (suc n) o
      go (e, g) ih = at_more j lawful.stamps n e g k (λ w. (o : Object) → w ≡ Some o → IsNumbered j (suc n) o)
          (λ q o h. numbered_put n e g o (find e.key (state_at j n)) (put_stamp n e g o h) (λ p s. ih e.key p s))
          (λ _ o h. (let w = ih k o h in record { version = let v = w.version in omega arith; uid = w.uid; created = let c = w.created in let t = moment_after n e g in let r = moment_step n e g in omega arith }))

  -- ---- what is unchanged

  pub same_or_new : (m n : ℕ) → m ≤ n → n ≤ length j → (k : Key) → IsSameOrNew (find k (state_at j m)) m (find k (state_at j n))
  same_or_new m n le len k = along j (λ i. IsSameOrNew (find k (state_at j m)) m (find k (state_at j i))) m n le len
      (λ i e a b g ih. at_more j lawful.stamps i e g k (λ w. IsSameOrNew (find k (state_at j m)) m w)
      (λ q. inr (λ o h. (let v = ap (λ (z : Stamp). z.version) (put_stamp i e g o h) ∙ next_version (find e.key (state_at j i)) o (i + 1) e.moment in omega arith)))
      (λ _. ih))
      (inl refl)

  -- what has the version that it had is what it was
  pub same_version : (m n : ℕ) → m ≤ n → n ≤ length j → (k : Key) → version_if (find k (state_at j n)) ≡ version_if (find k (state_at j m))
      → find k (state_at j n) ≡ find k (state_at j m)
  same_version m n le len k h = go (find k (state_at j m)) (find k (state_at j n)) (same_or_new m n le len k) h (λ o s. (numbered m (omega arith) k o s).version)
    where
      go : (old new : Option Object) → IsSameOrNew old m new → version_if new ≡ version_if old
          → ((o : Object) → old ≡ Some o → o.meta.stamp.version ≤ m) → new ≡ old
      go old new (inl e) v w = e
      go None None (inr l) v w = refl
      go None (Some p) (inr l) v w = absurd cc
      go (Some o) None (inr l) v w = absurd cc
      go (Some o) (Some p) (inr l) v w = absurd (let a = l p refl in let b = w o refl in let c = some_same v in omega arith)

  -- what stood at both ends unchanged stood between
  pub same_between : (m n : ℕ) → m ≤ n → n ≤ length j → (k : Key) (o : Object) → find k (state_at j m) ≡ Some o → find k (state_at j n) ≡ Some o
      → (i : ℕ) → m ≤ i → i ≤ n → find k (state_at j i) ≡ Some o
  same_between m n le len k o at now i a b = go (same_or_new m i a (omega arith) k) (same_or_new i n b len k)
    where
      old : o.meta.stamp.version ≤ m
      old = (numbered m (omega arith) k o at).version

      go : IsSameOrNew (find k (state_at j m)) m (find k (state_at j i)) → IsSameOrNew (find k (state_at j i)) i (find k (state_at j n))
          → find k (state_at j i) ≡ Some o
      go (inl e) y = e ∙ at
      go (inr x) (inl e) = sym e ∙ now
      go (inr x) (inr y) = absurd (let z = y o now in let w = old in omega arith)

  -- an entry keeps the uid of what stands before and after it
  pub uid_stays : (n : ℕ) (e : ObjectEntry) → slice_get j n ≡ Some e → (k : Key) (p o : Object) → find k (state_at j n) ≡ Some p
      → find k (state_at j (suc n)) ≡ Some o → o.meta.stamp.uid ≡ p.meta.stamp.uid
  uid_stays n e g k p o was =
      at_more j lawful.stamps n e g k (λ w. w ≡ Some o → o.meta.stamp.uid ≡ p.meta.stamp.uid)
      (λ q s. ap (λ (z : Stamp). z.uid) (put_over n e g o p s (subst (λ z. find z (state_at j n) ≡ Some p) (sym q) was)))
      (λ _ s. ap (λ (z : Object). z.meta.stamp.uid) (some_same (sym s ∙ was)))

  -- an object stands from its creation on
  pub stood : (n : ℕ) → n ≤ length j → (k : Key) (o : Object) → find k (state_at j n) ≡ Some o → (m : ℕ) → o.meta.stamp.uid ≤ m → m ≤ n
      → Stood j m k o
  stood zero len k o h m up le = absurd cc
  stood (suc n) len k o h m up le = go (at_end m n le) (get_some j n (omega arith)) (stood n (omega arith) k)
    where
      go : (m ≡ suc n) ⊎ (m ≤ n) → ((e : ObjectEntry) × (slice_get j n ≡ Some e))
          → ((p : Object) → find k (state_at j n) ≡ Some p → (m : ℕ) → p.meta.stamp.uid ≤ m → m ≤ n → Stood j m k p) → Stood j m k o
      go (inl q) x ih = subst (λ i. Stood j i k o) (sym q) (stood_itself j (suc n) k o h)
      go (inr l) (e, g) ih =
          at_more j lawful.stamps n e g k (λ w. w ≡ Some o → Stood j m k o)
          (λ q h. from (find k (state_at j n)) refl (subst (λ z. o.meta.stamp ≡ next_stamp object_item.ghosts (find z (state_at j n)) o (n + 1) e.moment) q (put_stamp n e g o h)))
          (λ _ h. ih o h m up l) h
        where
          from : (old : Option Object) → find k (state_at j n) ≡ old → o.meta.stamp ≡ next_stamp object_item.ghosts old o (n + 1) e.moment
              → Stood j m k o
          from None a s = absurd (let u = ap (λ (z : Stamp). z.uid) s in omega arith)
          from (Some p) a s = stood_later j m k p o (n + 1) e.moment s (ih p a m (let u = ap (λ (z : Stamp). z.uid) s in omega arith) l)
