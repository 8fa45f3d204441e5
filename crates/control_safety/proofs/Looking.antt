-- At each position the Route controller and the Collector may look.
use Rattle.std.proofs.Common.{◌≡◌, ℕ, zero, suc, ◌+◌, ◌≤◌, Bool, true, false, cond, List, length, Option, Some, None, sym, ap, ◌∙◌, subst, arith}
use Rattle.std.specs.Prelude.{slice_get, All, IfSome, IsTrue}
use Rattle.std.proofs.lemmas.Option.{get_or_from_slice_get}
use Rattle.json_tree.specs.Tree.{names_rise}
use Rattle.resource_types.specs.declared.names.Kind.{Kind}
use Rattle.resource_types.specs.declared.names.Kind.TheVariants as kind
use Rattle.resource_types.specs.declared.names.Name.{Name}
use Rattle.resource_types.specs.declared.names.SlotKey.{SlotKey}
use Rattle.resource_types.specs.declared.names.Actor.TheVariants.{Controller}
use Rattle.resource_types.specs.declared.objects.Object.{Object}
use Rattle.resource_types.specs.declared.manifests.Manifest.{Manifest}
use Rattle.resource_types.specs.Objects.{IsOf, pins_of, targets_of}
use Rattle.resource_types.specs.Lookups.{Journal, find}
use Rattle.control_rules.specs.declared.settings.Settings.{Settings}
use Rattle.control_rules.specs.Standing.{active_of, standing}
use Rattle.control_rules.specs.NextRoute.{add_pin, drop_pin, moves_active, active_after}
use Rattle.control_rules.specs.Fits.{AreWhole, RouteFits, IsNotLater, CollectorFits}
use Rattle.control_rules.specs.Slots.{ObjectEntry, state_at}
use Rattle.control_rules.specs.Lawful.{moment_at, IsLawful}
use Rattle.control_safety.specs.Goods.{IsGoodLaws}
use Rattle.control_entries.proofs.Lists.{get_some, get_below}
use Rattle.control_entries.proofs.Standing.{stands, standing_from, found_own, of_kind_some}
use Rattle.control_entries.proofs.Positions.{ordered_at, at_standing}
use Rattle.control_entries.proofs.Stamps.{numbered, moment_after, moment_step, moments_rise}
use Rattle.control_entries.proofs.Bodies.{active-with_status, active-with_pins}
use Rattle.control_entries.proofs.Puts.{RevisionPut, PutMade, PutStated, PutPinned, PutUnpinned, revision_put}
use Rattle.control_entries.proofs.Tests.{key_of_kind}
use Rattle.control_safety.proofs.Good.{route_targets}
use Rattle.control_safety.proofs.Since.{controls}
use Rattle.control_safety.proofs.Rising.{pins_rise}

-- what holds at each place holds of all
pub all_from : {X : Type 0} (P : X → Type 0) (xs : List X) → ((i : ℕ) (x : X) → slice_get xs i ≡ Some x → P x) → All P xs
all_from P xs h k d lt = (let (x, e) = get_some xs k lt in subst P (sym (get_or_from_slice_get xs k x d e)) (h k x e))

-- what stands somewhere of a kind stands under its name
stands_own : (j : Journal) (n : ℕ) (kind : Kind) (i : ℕ) (o : Object) → slice_get (state_at j n) i ≡ Some o → IsOf kind o
    → standing kind o.key.name (state_at j n) ≡ Some o
stands_own j n kind i o e (p, q) =
    standing_from kind o.key.name (state_at j n) o (subst (λ k. find k (state_at j n) ≡ Some o) (key_of_kind o.key kind p) (found_own (state_at j n) i o (ordered_at j n) e)) q

abbrev IsPast : ℕ → Option ℕ → Type 0
IsPast now w = IfSome w (λ moment. moment ≤ now)

past_later : (w : Option ℕ) (a b : ℕ) → a ≤ b → IsPast a w → IsPast b w
past_later None a b le h = h
past_later (Some m) a b le h = omega arith

past_after : (old new : List (List ℕ)) (at now : ℕ) (w : Option ℕ) → at ≤ now → IsPast now w → IsPast now (active_after old new at w)
past_after old new at now w le h = go (moves_active old new)
  where
    go : (b : Bool) → IsPast now (cond b (Some at) w)
    go true = le
    go false = h

module _ {is_good : Manifest → Bool} {settings : Settings} {j : Journal} (lawful : IsLawful is_good settings j) where
  -- a controller looked no later than its entry
  pub looked_before : (n : ℕ) (e : ObjectEntry) → slice_get j n ≡ Some e → (slot : SlotKey) → e.actor ≡ Controller slot
      → e.read_at ≤ moment_at j (suc n)
  looked_before n e g slot q =
      (let c = controls lawful n e g slot q in
      let b = c.before in let u = c.upto in let l = get_below j n e g in
      let r = moments_rise lawful (e.seen + 1) (suc n) (omega arith) (omega arith) in
      omega arith)

  pub active_past : (n : ℕ) → n ≤ length j → (v : Name) (o : Object) → standing kind.Revision v (state_at j n) ≡ Some o
      → IsPast (moment_at j n) (active_of o.body)
  active_past zero len v o h = absurd (let z = (stands kind.Revision v (state_at j 0) o h).found in cc)
  active_past (suc n) len v o h = go (get_some j n (omega arith)) (λ p s. active_past n (omega arith) v p s)
    where
      go : ((e : ObjectEntry) × (slice_get j n ≡ Some e))
          → ((p : Object) → standing kind.Revision v (state_at j n) ≡ Some p → IsPast (moment_at j n) (active_of p.body))
          → IsPast (moment_at j (suc n)) (active_of o.body)
      go (e, g) ih = at_standing j lawful.stamps n e g kind.Revision v (λ w. w ≡ Some o → IsPast (moment_at j (suc n)) (active_of o.body))
          (λ k s. from (revision_put lawful n e g v k o (of_kind_some kind.Revision e.object o s)))
          (λ _ s. later o (ih o s)) h
        where
          later : (p : Object) → IsPast (moment_at j n) (active_of p.body) → IsPast (moment_at j (suc n)) (active_of p.body)
          later p x = past_later (active_of p.body) (moment_at j n) (moment_at j (suc n)) (let a = moment_step lawful n e g in let b = moment_after lawful n e g in omega arith) x

          is : (w : Option ℕ) → active_of o.body ≡ w → IsPast (moment_at j (suc n)) w → IsPast (moment_at j (suc n)) (active_of o.body)
          is w q x = subst (IsPast (moment_at j (suc n))) (sym q) x

          from : RevisionPut j n e v o → IsPast (moment_at j (suc n)) (active_of o.body)
          from (PutMade m c a b at named none q) = is None (ap (λ (z : Object). active_of z.body) q) tt
          from (PutStated old a b at seen q) = is (active_of old.body) (ap (λ (z : Object). active_of z.body) q ∙ active-with_status _ old.body) (later old (ih old at))
          from (PutPinned r old a b near at lacks q) =
              is _ (ap (λ (z : Object). active_of z.body) q ∙ active-with_pins _ _ old.body (stands kind.Revision v (state_at j n) old at).fits)
              (past_after (pins_of old.body) (add_pin r.name (pins_of old.body)) e.read_at (moment_at j (suc n)) (active_of old.body) (looked_before n e g _ a) (later old (ih old at)))
          from (PutUnpinned r old a b near at spare q) =
              is _ (ap (λ (z : Object). active_of z.body) q ∙ active-with_pins _ _ old.body (stands kind.Revision v (state_at j n) old at).fits)
              (past_after (pins_of old.body) (drop_pin r.name (pins_of old.body)) e.read_at (moment_at j (suc n)) (active_of old.body) (looked_before n e g _ a) (later old (ih old at)))

  -- the Collector may look
  pub collector_fits : (n : ℕ) → n ≤ length j → CollectorFits (state_at j n) (moment_at j n)
  collector_fits n len = all_from (λ (o : Object). IsOf kind.Revision o → IsNotLater (moment_at j n) o) (state_at j n) (λ i o e q.
      (let s = stands_own j n kind.Revision i o e q in
      record { created = (numbered lawful n len o.key o (found_own (state_at j n) i o (ordered_at j n) e)).created; active = active_past n len o.key.name o s }))

  -- the Route controller may look
  pub route_fits : IsGoodLaws is_good → (n : ℕ) → n ≤ length j → RouteFits (state_at j n)
  route_fits laws n len = record {
    routes = all_from (λ (o : Object). IsOf kind.Route o → AreWhole (targets_of o.body)) (state_at j n) (λ i o e q. (route_targets laws lawful n len o.key.name o (stands_own j n kind.Route i o e q)).whole);
    pins = all_from (λ (o : Object). IsOf kind.Revision o → IsTrue (names_rise (pins_of o.body))) (state_at j n) (λ i o e q. pins_rise lawful n len o.key.name o (stands_own j n kind.Revision i o e q));
  }
