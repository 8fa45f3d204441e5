-- What a client could have written is good, and the targets of Services and Routes are whole, with tags that differ.
use Rattle.std.proofs.Common.{◌≡◌, ◌⊎◌, inl, inr, ℕ, zero, suc, ◌≤◌, Bool, true, length, Some, refl, sym, ap, ◌∙◌, subst, arith}
use Rattle.std.specs.Prelude.{slice_get}
use Rattle.std.specs.Fmt.{decimal}
use Rattle.std.proofs.lemmas.Bool.{or_left, or_right}
use Rattle.resource_types.specs.declared.names.Kind.{Kind}
use Rattle.resource_types.specs.declared.names.Kind.TheVariants as kind
use Rattle.resource_types.specs.declared.names.Name.{Name}
use Rattle.resource_types.specs.declared.names.Key.{Key}
use Rattle.resource_types.specs.declared.objects.Object.{Object}
use Rattle.resource_types.specs.declared.manifests.Manifest.{Manifest}
use Rattle.resource_types.specs.declared.status.ObjectStatus.{ObjectStatus}
use Rattle.resource_types.specs.Objects.{is_of, is_of_client, targets_of}
use Rattle.resource_types.specs.Spec.{stamped}
use Rattle.resource_types.specs.Manifests.{api_version, kind_word, manifest_spec}
use Rattle.resource_types.specs.Lookups.{Journal, State}
use Rattle.control_rules.specs.declared.settings.Settings.{Settings}
use Rattle.control_rules.specs.Standing.{key_at, standing, with_status}
use Rattle.control_rules.specs.Slots.{ObjectEntry, state_at}
use Rattle.control_rules.specs.Lawful.{PutsObject, asked_of, IsLawful}
use Rattle.control_rules.specs.Facts.{AreGood}
use Rattle.control_rules.specs.Differences.{rebodied}
use Rattle.control_safety.specs.Goods.{IsAt, AreWellTagged, IsGoodLaws}
use Rattle.control_entries.proofs.Tests.{some_same, at_end, key_of_kind, kind_same}
use Rattle.control_entries.proofs.Lists.{get_some}
use Rattle.control_entries.proofs.Standing.{Stands, stands, is_of_both}
use Rattle.control_entries.proofs.Positions.{at_more}
use Rattle.control_entries.proofs.Stamps.{put_key}
use Rattle.control_entries.proofs.Bodies.{manifest-with_status}
use Rattle.control_entries.proofs.Entries.{IsClientKind, client_parts, no_client_revision, no_client_health, no_client_table}
use Rattle.control_entries.proofs.Puts.{ServicePut, ServicePutByClient, ServicePutStated, ConfigurationPut, ConfigurationPutByClient, ConfigurationPutMade, ConfigurationPutTemplated, ConfigurationPutStated, RoutePut, RoutePutByClient, RoutePutMade, RoutePutTargeted, RoutePutStated, service_put, configuration_put, route_put}

-- what stands under a name of a client's kind is one that clients write
pub client_from : (k : Kind) (v : Name) (st : State) (o : Object) → IsClientKind k → standing k v st ≡ Some o → is_of_client o ≡ true
client_from k v st o c h = go c
  where
    s : Stands k v st o
    s = stands k v st o h

    is : (q : Kind) → k ≡ q → is_of q o ≡ true
    is q e = is_of_both q o (kind_same s.key ∙ e) (s.fits ∙ e)

    go : IsClientKind k → is_of_client o ≡ true
    go (inl e) = or_left _ _ (or_left _ _ (is kind.Service e))
    go (inr (inl e)) = or_left _ _ (or_right _ _ (is kind.Configuration e))
    go (inr (inr e)) = or_right _ _ (is kind.Route e)

pub is_at : (k : Kind) (v : Name) (st : State) (o : Object) → standing k v st ≡ Some o → IsAt k v o
is_at k v st o h = (let s = stands k v st o h in record { key = s.key; fits = s.fits })

-- with the name, the labels, the annotations and the spec of another, an object asks for the same
asked_same : (o old : Object) → o.key ≡ old.key → o.meta.labels ≡ old.meta.labels → o.meta.annotations ≡ old.meta.annotations
    → manifest_spec o.body ≡ manifest_spec old.body → asked_of o ≡ asked_of old
asked_same o old k l a s =
    λ i. record { api = api_version; kind = kind_word (k i).kind; name = (k i).name.name; namespace = (k i).name.space; version = decimal 0; labels = l i; annotations = a i; spec = s i }

-- a new status asks for nothing else
pub asked_stated : (o old : Object) (s : ObjectStatus) → o ≡ stamped (rebodied old (with_status s old.body)) o.meta.stamp → asked_of o ≡ asked_of old
asked_stated o old s e =
    asked_same o old (ap (λ (z : Object). z.key) e) (ap (λ (z : Object). z.meta.labels) e) (ap (λ (z : Object). z.meta.annotations) e) (ap (λ (z : Object). manifest_spec z.body) e ∙ manifest-with_status s old.body)

module _ {is_good : Manifest → Bool} {settings : Settings} {j : Journal} (laws : IsGoodLaws is_good) (lawful : IsLawful is_good settings j) where
  good_put : (n : ℕ) (e : ObjectEntry) → slice_get j n ≡ Some e → ((m : ℕ) → m ≤ n → AreGood is_good j m) → (o : Object) → e.object ≡ Some o
      → is_of_client o ≡ true → is_good (asked_of o) ≡ true
  good_put n e g was o h client = go e.key.kind refl
    where
      client_is : IsClientKind e.key.kind
      client_is = subst (λ (k : Key). IsClientKind k.kind) (put_key lawful n e g o h) (client_parts o client).1

      by_client : PutsObject is_good (state_at j n) e → is_good (asked_of o) ≡ true
      by_client p = ap (λ (z : Object). is_good (asked_of z)) (some_same (sym h ∙ p.puts)) ∙ p.good

      -- what stood at m under the name is good
      good_at : (m : ℕ) → m ≤ n → (k : Kind) (v : Name) (p : Object) → IsClientKind k → standing k v (state_at j m) ≡ Some p
          → is_good (asked_of p) ≡ true
      good_at m le k v p c at = was m le (key_at k v) p (stands k v (state_at j m) p at).found (client_from k v (state_at j m) p c at)

      is : {p : Manifest} → asked_of o ≡ p → is_good p ≡ true → is_good (asked_of o) ≡ true
      is e t = ap is_good e ∙ t

      service : (v : Name) → ServicePut is_good j n e v o → is_good (asked_of o) ≡ true
      service v (ServicePutByClient p) = by_client p
      service v (ServicePutStated old a b at seen x) = is (asked_stated o old _ x) (good_at n (omega arith) kind.Service v old (inl refl) at)

      configuration : (v : Name) → ConfigurationPut is_good j n e v o → is_good (asked_of o) ≡ true
      configuration v (ConfigurationPutByClient p) = by_client p
      configuration v (ConfigurationPutMade s a b at none x) =
          is (ap asked_of x) (laws.makes_configuration v s (is_at kind.Service v (state_at j e.seen) s at) (good_at e.seen b kind.Service v s (inl refl) at))
      configuration v (ConfigurationPutTemplated s old a b at now x) =
          is (ap asked_of x) (laws.templates v s old (is_at kind.Service v (state_at j e.seen) s at) (is_at kind.Configuration v (state_at j n) old now) (good_at e.seen b kind.Service v s (inl refl) at) (good_at n (omega arith) kind.Configuration v old (inr (inl refl)) now))
      configuration v (ConfigurationPutStated old a b at seen x) = is (asked_stated o old _ x) (good_at n (omega arith) kind.Configuration v old (inr (inl refl)) at)

      route : (v : Name) → RoutePut is_good settings j n e v o → is_good (asked_of o) ≡ true
      route v (RoutePutByClient p) = by_client p
      route v (RoutePutMade s a b at none x) =
          is (ap asked_of x) (laws.makes_route v s (is_at kind.Service v (state_at j e.seen) s at) (good_at e.seen b kind.Service v s (inl refl) at))
      route v (RoutePutTargeted s old a b at now x) =
          is (ap asked_of x) (laws.targets v s old (is_at kind.Service v (state_at j e.seen) s at) (is_at kind.Route v (state_at j n) old now) (good_at e.seen b kind.Service v s (inl refl) at) (good_at n (omega arith) kind.Route v old (inr (inr refl)) now))
      route v (RoutePutStated old a b at seen x) = is (asked_stated o old _ x) (good_at n (omega arith) kind.Route v old (inr (inr refl)) at)

      go : (k : Kind) → e.key.kind ≡ k → is_good (asked_of o) ≡ true
      go kind.Service q = service e.key.name (service_put lawful n e g e.key.name (key_of_kind e.key kind.Service q) o h)
      go kind.Configuration q = configuration e.key.name (configuration_put lawful n e g e.key.name (key_of_kind e.key kind.Configuration q) o h)
      go kind.Route q = route e.key.name (route_put lawful n e g e.key.name (key_of_kind e.key kind.Route q) o h)
      go kind.Revision q = absurd (no_client_revision client_is q)
      go kind.Health q = absurd (no_client_health client_is q)
      go kind.Table q = absurd (no_client_table client_is q)

  good_upto : (n : ℕ) → n ≤ length j → (m : ℕ) → m ≤ n → AreGood is_good j m
  good_upto zero len m le = subst (AreGood is_good j) (let e : 0 ≡ m = omega arith in e) (λ k o h c. absurd cc)
  good_upto (suc n) len m le = go (at_end m n le) (good_upto n (omega arith)) (get_some j n (omega arith))
    where
      go : (m ≡ suc n) ⊎ (m ≤ n) → ((m : ℕ) → m ≤ n → AreGood is_good j m) → ((e : ObjectEntry) × (slice_get j n ≡ Some e)) → AreGood is_good j m
      go (inr l) ih x = ih m l
      go (inl q) ih (e, g) =
          subst (AreGood is_good j) (sym q) (λ k o h c. at_more j lawful.stamps n e g k (λ w. w ≡ Some o → is_good (asked_of o) ≡ true) (λ _ s. good_put n e g ih o s c) (λ _ s. ih n (omega arith) k o s c) h)

  -- what a client could have written is good
  pub are_good : (n : ℕ) → n ≤ length j → AreGood is_good j n
  are_good n len = good_upto n len n (omega arith)

  -- the targets of a Route are whole, and their tags differ
  pub route_targets : (n : ℕ) → n ≤ length j → (v : Name) (o : Object) → standing kind.Route v (state_at j n) ≡ Some o
      → AreWellTagged (targets_of o.body)
  route_targets n len v o h =
      laws.route v o (is_at kind.Route v (state_at j n) o h) (are_good n len (key_at kind.Route v) o (stands kind.Route v (state_at j n) o h).found (client_from kind.Route v (state_at j n) o (inr (inr refl)) h))
