-- What stays while no entry is the Route's: its pins, its Table, and what its status names.
use Rattle.std.proofs.Common.{◌≡◌, ℕ, suc, ◌≤◌, Bool, true, List, length, Option, Some, None, refl, sym, ap, ◌∙◌, subst}
use Rattle.std.specs.Prelude.{slice_get}
use Rattle.std.proofs.lemmas.Bool.{false≢true}
use Rattle.resource_types.specs.declared.names.Kind.TheVariants as kind
use Rattle.resource_types.specs.declared.names.Controller.TheVariants as controller
use Rattle.resource_types.specs.declared.names.Name.{Name}
use Rattle.resource_types.specs.declared.names.SlotKey.{SlotKey}
use Rattle.resource_types.specs.declared.names.Actor.{Actor}
use Rattle.resource_types.specs.declared.names.Actor.TheVariants.{Controller}
use Rattle.resource_types.specs.declared.status.ObjectStatus.{ObjectStatus}
use Rattle.resource_types.specs.declared.objects.Object.{Object}
use Rattle.resource_types.specs.declared.manifests.Manifest.{Manifest}
use Rattle.resource_types.specs.Objects.{status_of, no_status}
use Rattle.resource_types.specs.Lookups.{Journal, State}
use Rattle.control_rules.specs.declared.settings.Settings.{Settings}
use Rattle.control_rules.specs.Standing.{beside, key_at, listed, read, standing, pins_at, target_names, traffic_at}
use Rattle.control_rules.specs.Slots.{ObjectEntry, state_at, slot_key}
use Rattle.control_rules.specs.Lawful.{status_over, IsAlone, Controls, IsLawfulAs, IsLawful}
use Rattle.control_rules.specs.Facts.{IsOthers}
use Rattle.control_entries.proofs.Tests.{some_same}
use Rattle.control_entries.proofs.Lists.{along}
use Rattle.control_entries.proofs.Standing.{stands}
use Rattle.control_entries.proofs.Stamps.{uid_stays}
use Rattle.control_safety.proofs.Own.{pins_in, own_after}
use Rattle.control_safety.proofs.Pins.{listed_none}

-- what has a pin stands
pub pinned_stands : (st : State) (v : Name) (x : List ℕ) → listed x (pins_at st v) ≡ true → (o : Object) × (standing kind.Revision v st ≡ Some o)
pinned_stands st v x h = go (standing kind.Revision v st) refl h
  where
    go : (w : Option Object) → standing kind.Revision v st ≡ w → listed x (pins_in w) ≡ true → (o : Object) × (standing kind.Revision v st ≡ Some o)
    go None e l = absurd (false≢true (sym (listed_none x) ∙ l))
    go (Some o) e l = (o, e)

-- the names in a status
abbrev pub traffic_of : Option Object → List (List ℕ)
traffic_of w = target_names (status_over w).traffic

pub traffic_is : (st : State) (r : Name) → traffic_at st r ≡ traffic_of (standing kind.Route r st)
traffic_is st r = go (standing kind.Route r st)
  where
    go : (w : Option Object) → target_names (read no_status status_of w).traffic ≡ traffic_of w
    go None = refl
    go (Some o) = refl

-- the Revision has the Route's pin, and the uid
abbrev IsPinnedAs : Journal → Name → List ℕ → ℕ → ℕ → Type 0
IsPinnedAs j r x uid i = (listed r.name (pins_at (state_at j i) (beside r x)) ≡ true) × ((q : Object) → standing kind.Revision (beside r x) (state_at j i) ≡ Some q → q.meta.stamp.uid ≡ uid)

module _ {is_good : Manifest → Bool} {settings : Settings} {j : Journal} (lawful : IsLawful is_good settings j) where
  pub controls : (n : ℕ) (e : ObjectEntry) → slice_get j n ≡ Some e → (slot : SlotKey) → e.actor ≡ Controller slot → Controls settings j n e slot
  controls n e g slot q = subst (λ (a : Actor). IsLawfulAs is_good settings a j n e) q (lawful.entries n e g)

  -- what a Route's status names after an entry of another, it named before
  pub traffic_was : (n : ℕ) (e : ObjectEntry) → slice_get j n ≡ Some e → (r : Name) → IsOthers r e → (x : List ℕ)
      → listed x (traffic_at (state_at j (suc n)) r) ≡ true → listed x (traffic_at (state_at j n) r) ≡ true
  traffic_was n e g r others x l = rw (traffic_is (state_at j n) r) (go (standing kind.Route r (state_at j (suc n))) refl (rw (traffic_is (state_at j (suc n)) r) at l))
    where
      go : (w : Option Object) → standing kind.Route r (state_at j (suc n)) ≡ w → listed x (traffic_of w) ≡ true
          → listed x (traffic_of (standing kind.Route r (state_at j n))) ≡ true
      go None a k = absurd (false≢true (sym (listed_none x) ∙ k))
      go (Some p) a k = ap (λ (s : ObjectStatus). listed x (target_names s.traffic)) (sym ((own_after lawful n e r g others).2 p a)) ∙ k

  -- from m on, while no entry is the Route's
  since : (m n : ℕ) (r : Name) (Q : ℕ → Type 0) → m ≤ n → n ≤ length j → IsAlone j m n (slot_key controller.Route r)
      → ((i : ℕ) (e : ObjectEntry) → slice_get j i ≡ Some e → IsOthers r e → Q i → Q (suc i)) → Q m → Q n
  since m n r Q le len alone step h = along j Q m n le len (λ i e a b g q. step i e g (alone i e a b g) q) h

  pub pins_since : (m n : ℕ) (r : Name) → m ≤ n → n ≤ length j → IsAlone j m n (slot_key controller.Route r) → (x : List ℕ)
      → listed r.name (pins_at (state_at j n) (beside r x)) ≡ listed r.name (pins_at (state_at j m) (beside r x))
  pins_since m n r le len alone x =
      since m n r (λ i. listed r.name (pins_at (state_at j i) (beside r x)) ≡ listed r.name (pins_at (state_at j m) (beside r x))) le len alone
      (λ i e g others q. (own_after lawful i e r g others).0 x ∙ q) refl

  pub table_since : (m n : ℕ) (r : Name) → m ≤ n → n ≤ length j → IsAlone j m n (slot_key controller.Route r)
      → standing kind.Table r (state_at j n) ≡ standing kind.Table r (state_at j m)
  table_since m n r le len alone =
      since m n r (λ i. standing kind.Table r (state_at j i) ≡ standing kind.Table r (state_at j m)) le len alone
      (λ i e g others q. (own_after lawful i e r g others).1 ∙ q) refl

  pub traffic_since : (m n : ℕ) (r : Name) → m ≤ n → n ≤ length j → IsAlone j m n (slot_key controller.Route r) → (x : List ℕ)
      → listed x (traffic_at (state_at j n) r) ≡ true → listed x (traffic_at (state_at j m) r) ≡ true
  traffic_since m n r le len alone x =
      since m n r (λ i. listed x (traffic_at (state_at j i) r) ≡ true → listed x (traffic_at (state_at j m) r) ≡ true) le len alone
      (λ i e g others q l. q (traffic_was i e g r others x l)) (λ l. l)

  pub uid_next : (n : ℕ) (e : ObjectEntry) → slice_get j n ≡ Some e → (v : Name) (p o : Object) → standing kind.Revision v (state_at j n) ≡ Some p
      → standing kind.Revision v (state_at j (suc n)) ≡ Some o → o.meta.stamp.uid ≡ p.meta.stamp.uid
  uid_next n e g v p o a b =
      uid_stays lawful n e g (key_at kind.Revision v) p o (stands kind.Revision v (state_at j n) p a).found (stands kind.Revision v (state_at j (suc n)) o b).found

  -- a Revision that is pinned all the while has one uid
  pub uid_since : (m n : ℕ) (r : Name) → m ≤ n → n ≤ length j → IsAlone j m n (slot_key controller.Route r) → (x : List ℕ)
      → listed r.name (pins_at (state_at j m) (beside r x)) ≡ true
      → (p o : Object) → standing kind.Revision (beside r x) (state_at j m) ≡ Some p → standing kind.Revision (beside r x) (state_at j n) ≡ Some o
      → o.meta.stamp.uid ≡ p.meta.stamp.uid
  uid_since m n r le len alone x pinned p o a b =
      (since m n r (IsPinnedAs j r x p.meta.stamp.uid) le len alone step (pinned, λ q s. ap (λ (z : Object). z.meta.stamp.uid) (some_same (sym s ∙ a)))).1 o b
    where
      step : (i : ℕ) (e : ObjectEntry) → slice_get j i ≡ Some e → IsOthers r e → IsPinnedAs j r x p.meta.stamp.uid i
          → IsPinnedAs j r x p.meta.stamp.uid (suc i)
      step i e g others h =
          ((own_after lawful i e r g others).0 x ∙ h.0, λ q s. (let (t, u) = pinned_stands (state_at j i) (beside r x) r.name h.0 in uid_next i e g (beside r x) t q u s ∙ h.1 t u))
