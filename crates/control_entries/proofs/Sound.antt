-- Objects that stand have their keys, and bodies of their kinds; what is put keeps a status, has none, or gets a new one with its times.
use Rattle.std.proofs.Common.{◌≡◌, ◌≢◌, ℕ, zero, suc, ◌≤◌, Bool, true, length, Option, Some, None, refl, sym, ap, ◌∙◌, subst, arith}
use Rattle.std.specs.Prelude.{slice_get}
use Rattle.resource_types.specs.declared.names.Kind.{Kind}
use Rattle.resource_types.specs.declared.names.Kind.TheVariants as kind
use Rattle.resource_types.specs.declared.names.Name.{Name}
use Rattle.resource_types.specs.declared.names.Actor.TheVariants.{Reporter}
use Rattle.resource_types.specs.declared.names.Key.{Key}
use Rattle.resource_types.specs.declared.status.ObjectStatus.{ObjectStatus}
use Rattle.resource_types.specs.declared.objects.Body.{Body}
use Rattle.resource_types.specs.declared.objects.Object.{Object}
use Rattle.resource_types.specs.declared.manifests.Manifest.{Manifest}
use Rattle.resource_types.specs.Objects.{kind_of_body, status_of, no_status, has_been_ready}
use Rattle.resource_types.specs.Spec.{stamped}
use Rattle.resource_types.specs.Lookups.{Journal, find}
use Rattle.control_rules.specs.declared.settings.Settings.{Settings}
use Rattle.control_rules.specs.Standing.{key_at, standing, of_its_kind}
use Rattle.control_rules.specs.Resolution.{stored}
use Rattle.control_rules.specs.Readings.{stored_status, service_status_in, configuration_status_in, revision_status_in, route_status_in}
use Rattle.control_rules.specs.Differences.{timed, rebodied, restated}
use Rattle.control_rules.specs.Slots.{ObjectEntry, state_at}
use Rattle.control_rules.specs.Lawful.{PutsObject, status_over, Reports, IsLawful}
use Rattle.control_rules.specs.FurtherFacts.{IsSound, IsHealthReported}
use Rattle.control_entries.proofs.Tests.{key_of_kind, some_same, kind_same}
use Rattle.control_entries.proofs.Lists.{get_some}
use Rattle.control_entries.proofs.Standing.{found_key, stands, standing_from, none_found, stands_is}
use Rattle.control_entries.proofs.Positions.{at_more, touched}
use Rattle.control_entries.proofs.Stamps.{numbered, put_key}
use Rattle.control_entries.proofs.Bodies.{kind-with_status, kind-with_pins, kind-with_template, kind-with_targets, status-with_status, status-with_pins, status-with_template, status-with_targets}
use Rattle.control_entries.proofs.Conditions.{AreApart, are_apart, apart_from, are_apart-timed, apart_revision, apart_configuration, apart_route, apart_service}
use Rattle.control_entries.proofs.Entries.{client_parts, health_entry}
use Rattle.control_entries.proofs.Puts.{ServicePut, ServicePutByClient, ServicePutStated, ConfigurationPut, ConfigurationPutByClient, ConfigurationPutMade, ConfigurationPutTemplated, ConfigurationPutStated, RevisionPut, PutMade, PutStated, PutPinned, PutUnpinned, RoutePut, RoutePutByClient, RoutePutMade, RoutePutTargeted, RoutePutStated, TablePut, PutTable, service_put, configuration_put, revision_put, route_put, table_put}

-- an object put: without a status; with that of the one that stands; or with a new one, of other conditions, and its times
pub data StatusPut (j : Journal) (n : ℕ) (e : ObjectEntry) (o : Object) : Type 0 where
  StatusNone : status_of o.body ≡ no_status → StatusPut j n e o
  StatusKept : (old : Object) → find e.key (state_at j n) ≡ Some old → status_of o.body ≡ status_of old.body → StatusPut j n e o
  StatusNew : (old : Object) (new : ObjectStatus) → find e.key (state_at j n) ≡ Some old → are_apart new.conditions ≡ true
      → status_of o.body ≡ timed (status_of old.body) new e.read_at → StatusPut j n e o

module _ {is_good : Manifest → Bool} {settings : Settings} {j : Journal} (lawful : IsLawful is_good settings j) where
  -- ---- an object put

  client_status : (n : ℕ) (e : ObjectEntry) (o : Object) → e.object ≡ Some o → (p : PutsObject is_good (state_at j n) e) → StatusPut j n e o
  client_status n e o h p = go (find e.key (state_at j n)) refl
    where
      same : status_of o.body ≡ status_over (find e.key (state_at j n))
      same = ap (λ (z : Object). status_of z.body) (some_same (sym h ∙ p.puts)) ∙ p.status

      go : (w : Option Object) → find e.key (state_at j n) ≡ w → StatusPut j n e o
      go None a = StatusNone (same ∙ ap status_over a)
      go (Some old) a = StatusKept old a (same ∙ ap status_over a)

  client_fits : (n : ℕ) (e : ObjectEntry) → slice_get j n ≡ Some e → (o : Object) → e.object ≡ Some o → (p : PutsObject is_good (state_at j n) e)
      → kind_of_body o.body ≡ e.key.kind
  client_fits n e g o h p =
      (let same = some_same (sym h ∙ p.puts) in ap (λ (z : Object). kind_of_body z.body) same ∙ (client_parts p.object p.client).0 ∙ kind_same (put_key lawful n e g p.object p.puts))

  -- its body is of the kind of its key
  pub put_fits : (n : ℕ) (e : ObjectEntry) → slice_get j n ≡ Some e → (o : Object) → e.object ≡ Some o → kind_of_body o.body ≡ e.key.kind
  put_fits n e g o h = go e.key.kind refl
    where
      service : (v : Name) → e.key ≡ key_at kind.Service v → ServicePut is_good j n e v o → kind_of_body o.body ≡ kind.Service
      service v k (ServicePutByClient p) = client_fits n e g o h p ∙ kind_same k
      service v k (ServicePutStated old a b at seen is) = ap (λ (z : Object). kind_of_body z.body) is ∙ kind-with_status _ old.body
          ∙ (stands kind.Service v (state_at j n) old at).fits

      configuration : (v : Name) → e.key ≡ key_at kind.Configuration v → ConfigurationPut is_good j n e v o → kind_of_body o.body ≡ kind.Configuration
      configuration v k (ConfigurationPutByClient p) = client_fits n e g o h p ∙ kind_same k
      configuration v k (ConfigurationPutMade s a b at none is) = ap (λ (z : Object). kind_of_body z.body) is
      configuration v k (ConfigurationPutTemplated s old a b at now is) = ap (λ (z : Object). kind_of_body z.body) is ∙ kind-with_template _ old.body
          ∙ (stands kind.Configuration v (state_at j n) old now).fits
      configuration v k (ConfigurationPutStated old a b at seen is) = ap (λ (z : Object). kind_of_body z.body) is ∙ kind-with_status _ old.body
          ∙ (stands kind.Configuration v (state_at j n) old at).fits

      revision : (v : Name) → RevisionPut j n e v o → kind_of_body o.body ≡ kind.Revision
      revision v (PutMade m c a b at named none is) = ap (λ (z : Object). kind_of_body z.body) is
      revision v (PutStated old a b at seen is) = ap (λ (z : Object). kind_of_body z.body) is ∙ kind-with_status _ old.body
          ∙ (stands kind.Revision v (state_at j n) old at).fits
      revision v (PutPinned r old a b near at lacks is) = ap (λ (z : Object). kind_of_body z.body) is ∙ kind-with_pins _ _ old.body
          ∙ (stands kind.Revision v (state_at j n) old at).fits
      revision v (PutUnpinned r old a b near at spare is) = ap (λ (z : Object). kind_of_body z.body) is ∙ kind-with_pins _ _ old.body
          ∙ (stands kind.Revision v (state_at j n) old at).fits

      route : (v : Name) → e.key ≡ key_at kind.Route v → RoutePut is_good settings j n e v o → kind_of_body o.body ≡ kind.Route
      route v k (RoutePutByClient p) = client_fits n e g o h p ∙ kind_same k
      route v k (RoutePutMade s a b at none is) = ap (λ (z : Object). kind_of_body z.body) is
      route v k (RoutePutTargeted s old a b at now is) = ap (λ (z : Object). kind_of_body z.body) is ∙ kind-with_targets _ old.body
          ∙ (stands kind.Route v (state_at j n) old now).fits
      route v k (RoutePutStated old a b at seen is) = ap (λ (z : Object). kind_of_body z.body) is ∙ kind-with_status _ old.body
          ∙ (stands kind.Route v (state_at j n) old at).fits

      health : ((e.actor ≡ Reporter) × Reports (state_at j n) e) → kind_of_body o.body ≡ kind.Health
      health (a, r) = ap (λ (z : Object). kind_of_body z.body) (some_same (sym h ∙ r.puts))

      table : (r : Name) → TablePut settings j n e r o → kind_of_body o.body ≡ kind.Table
      table r (PutTable x ms a b at all pinned is) = ap kind_of_body is

      go : (k : Kind) → e.key.kind ≡ k → kind_of_body o.body ≡ k
      go kind.Service q = let key = key_of_kind e.key kind.Service q in service e.key.name key (service_put lawful n e g e.key.name key o h)
      go kind.Configuration q = let key = key_of_kind e.key kind.Configuration q in configuration e.key.name key (configuration_put lawful n e g e.key.name key o h)
      go kind.Revision q = revision e.key.name (revision_put lawful n e g e.key.name (key_of_kind e.key kind.Revision q) o h)
      go kind.Route q = let key = key_of_kind e.key kind.Route q in route e.key.name key (route_put lawful n e g e.key.name key o h)
      go kind.Health q = health (health_entry lawful n e g e.key.name (key_of_kind e.key kind.Health q))
      go kind.Table q = table e.key.name (table_put lawful n e g e.key.name (key_of_kind e.key kind.Table q) o h)

  -- what stands has a body of its kind
  pub fits : (n : ℕ) → n ≤ length j → (k : Key) (o : Object) → find k (state_at j n) ≡ Some o → kind_of_body o.body ≡ k.kind
  fits zero len k o h = absurd cc
  fits (suc n) len k o h = go (get_some j n (omega arith)) (fits n (omega arith)) h
    where
      go : ((e : ObjectEntry) × (slice_get j n ≡ Some e)) → ((k : Key) (o : Object) → find k (state_at j n) ≡ Some o → kind_of_body o.body ≡ k.kind)
          → find k (state_at j (suc n)) ≡ Some o → kind_of_body o.body ≡ k.kind
      go (e, g) ih = at_more j lawful.stamps n e g k (λ w. w ≡ Some o → kind_of_body o.body ≡ k.kind)
          (λ q s. put_fits n e g o s ∙ kind_same q)
          (λ _ s. ih k o s)

  -- what an entry puts stands under its name
  pub put_stands : (n : ℕ) (e : ObjectEntry) → slice_get j n ≡ Some e → (k : Kind) (v : Name) (o : Object) → e.key ≡ key_at k v → e.object ≡ Some o
      → of_its_kind k e.object ≡ Some o
  put_stands n e g k v o p h = ap (of_its_kind k) h ∙ stands_is k o (kind_same (put_key lawful n e g o h ∙ p)) (put_fits n e g o h ∙ kind_same p)

  pub put_there : (n : ℕ) (e : ObjectEntry) → slice_get j n ≡ Some e → (k : Kind) (v : Name) (o : Object) → e.key ≡ key_at k v → e.object ≡ Some o
      → standing k v (state_at j (suc n)) ≡ Some o
  put_there n e g k v o p h = touched j lawful.stamps n e g k v p ∙ put_stands n e g k v o p h

  -- what stands under a key of the kind stands under the name, and what doesn't doesn't
  pub standing_at : (n : ℕ) → n ≤ length j → (kind : Kind) (v : Name) (o : Object) → find (key_at kind v) (state_at j n) ≡ Some o
      → standing kind v (state_at j n) ≡ Some o
  standing_at n len kind v o h = standing_from kind v (state_at j n) o h (fits n len (key_at kind v) o h)

  pub none_at : (n : ℕ) → n ≤ length j → (kind : Kind) (v : Name) → standing kind v (state_at j n) ≡ None → find (key_at kind v) (state_at j n) ≡ None
  none_at n len kind v h = none_found kind v (state_at j n) (λ o f. fits n len (key_at kind v) o f) h

  -- ---- the status of an object put

  stated : (n : ℕ) (e : ObjectEntry) (o old : Object) (kind : Kind) (v : Name) (new : ObjectStatus) → e.key ≡ key_at kind v
      → standing kind v (state_at j n) ≡ Some old → (kind ≢ Rattle.resource_types.specs.declared.names.Kind.TheVariants.Health)
      → (kind ≢ Rattle.resource_types.specs.declared.names.Kind.TheVariants.Table)
      → are_apart new.conditions ≡ true → o ≡ stamped (rebodied old (restated old new e.read_at)) o.meta.stamp → StatusPut j n e o
  stated n e o old kind v new k at h t apart is =
      (let s = stands kind v (state_at j n) old at in
      StatusNew old new (subst (λ z. find z (state_at j n) ≡ Some old) (sym k) s.found) apart (ap (λ (z : Object). status_of z.body) is ∙ status-with_status _ old.body (λ q. h (sym s.fits ∙ q), λ q. t (sym s.fits ∙ q))))

  kept : (n : ℕ) (e : ObjectEntry) (o old : Object) (kind : Kind) (v : Name) (b : Body) → e.key ≡ key_at kind v
      → standing kind v (state_at j n) ≡ Some old → status_of b ≡ status_of old.body → o ≡ stamped (rebodied old b) o.meta.stamp → StatusPut j n e o
  kept n e o old kind v b k at same is =
      StatusKept old (subst (λ z. find z (state_at j n) ≡ Some old) (sym k) (stands kind v (state_at j n) old at).found) (ap (λ (z : Object). status_of z.body) is ∙ same)

  pub status_put : (n : ℕ) (e : ObjectEntry) → slice_get j n ≡ Some e → (o : Object) → e.object ≡ Some o → StatusPut j n e o
  status_put n e g o h = go e.key.kind refl
    where
      service : (v : Name) → e.key ≡ key_at kind.Service v → ServicePut is_good j n e v o → StatusPut j n e o
      service v k (ServicePutByClient p) = client_status n e o h p
      service v k (ServicePutStated old a b at seen is) =
          stated n e o old kind.Service v (service_status_in stored_status stored_status (state_at j e.seen) v old) k at (λ q. cc) (λ q. cc) (apart_service _ _ _ _) is

      configuration : (v : Name) → e.key ≡ key_at kind.Configuration v → ConfigurationPut is_good j n e v o → StatusPut j n e o
      configuration v k (ConfigurationPutByClient p) = client_status n e o h p
      configuration v k (ConfigurationPutMade s a b at none is) = StatusNone (ap (λ (z : Object). status_of z.body) is)
      configuration v k (ConfigurationPutTemplated s old a b at now is) = kept n e o old kind.Configuration v _ k now (status-with_template _ old.body) is
      configuration v k (ConfigurationPutStated old a b at seen is) =
          stated n e o old kind.Configuration v (configuration_status_in has_been_ready stored_status (state_at j e.seen) old) k at (λ q. cc) (λ q. cc) (apart_configuration _ _ _ _ _) is

      revision : (v : Name) → e.key ≡ key_at kind.Revision v → RevisionPut j n e v o → StatusPut j n e o
      revision v k (PutMade m c a b at named none is) = StatusNone (ap (λ (z : Object). status_of z.body) is)
      revision v k (PutStated old a b at seen is) =
          stated n e o old kind.Revision v (revision_status_in (state_at j e.seen) old) k at (λ q. cc) (λ q. cc) (apart_revision _ _) is
      revision v k (PutPinned r old a b near at lacks is) = kept n e o old kind.Revision v _ k at (status-with_pins _ _ old.body) is
      revision v k (PutUnpinned r old a b near at spare is) = kept n e o old kind.Revision v _ k at (status-with_pins _ _ old.body) is

      route : (v : Name) → e.key ≡ key_at kind.Route v → RoutePut is_good settings j n e v o → StatusPut j n e o
      route v k (RoutePutByClient p) = client_status n e o h p
      route v k (RoutePutMade s a b at none is) = StatusNone (ap (λ (z : Object). status_of z.body) is)
      route v k (RoutePutTargeted s old a b at now is) = kept n e o old kind.Route v _ k now (status-with_targets _ old.body) is
      route v k (RoutePutStated old a b at seen is) =
          stated n e o old kind.Route v (route_status_in stored settings.domain (state_at j e.seen) v old) k at (λ q. cc) (λ q. cc) (apart_route _ _ _ _) is

      health : ((e.actor ≡ Reporter) × Reports (state_at j n) e) → StatusPut j n e o
      health (a, r) = StatusNone (ap (λ (z : Object). status_of z.body) (some_same (sym h ∙ r.puts)))

      table : (r : Name) → TablePut settings j n e r o → StatusPut j n e o
      table r (PutTable x ms a b at all pinned is) = StatusNone (ap status_of is)

      go : (k : Kind) → e.key.kind ≡ k → StatusPut j n e o
      go kind.Service q = let key = key_of_kind e.key kind.Service q in service e.key.name key (service_put lawful n e g e.key.name key o h)
      go kind.Configuration q = let key = key_of_kind e.key kind.Configuration q in configuration e.key.name key (configuration_put lawful n e g e.key.name key o h)
      go kind.Revision q = let key = key_of_kind e.key kind.Revision q in revision e.key.name key (revision_put lawful n e g e.key.name key o h)
      go kind.Route q = let key = key_of_kind e.key kind.Route q in route e.key.name key (route_put lawful n e g e.key.name key o h)
      go kind.Health q = health (health_entry lawful n e g e.key.name (key_of_kind e.key kind.Health q))
      go kind.Table q = table e.key.name (table_put lawful n e g e.key.name (key_of_kind e.key kind.Table q) o h)

  -- ---- conditions

  pub conditions_apart : (n : ℕ) → n ≤ length j → (k : Key) (o : Object) → find k (state_at j n) ≡ Some o → AreApart (status_of o.body).conditions
  conditions_apart zero len k o h = absurd cc
  conditions_apart (suc n) len k o h = go (get_some j n (omega arith)) (conditions_apart n (omega arith)) h
    where
      new : (e : ObjectEntry) → ((k : Key) (o : Object) → find k (state_at j n) ≡ Some o → AreApart (status_of o.body).conditions) → StatusPut j n e o
          → AreApart (status_of o.body).conditions
      new e ih (StatusNone s) = subst (λ (z : ObjectStatus). AreApart z.conditions) (sym s) (λ a b c d p q x. absurd cc)
      new e ih (StatusKept old at s) = subst (λ (z : ObjectStatus). AreApart z.conditions) (sym s) (ih e.key old at)
      new e ih (StatusNew old fresh at apart s) =
          subst (λ (z : ObjectStatus). AreApart z.conditions) (sym s) (apart_from _ (are_apart-timed (status_of old.body).conditions fresh.conditions e.read_at ∙ apart))

      go : ((e : ObjectEntry) × (slice_get j n ≡ Some e))
          → ((k : Key) (o : Object) → find k (state_at j n) ≡ Some o → AreApart (status_of o.body).conditions) → find k (state_at j (suc n)) ≡ Some o
          → AreApart (status_of o.body).conditions
      go (e, g) ih = at_more j lawful.stamps n e g k (λ w. w ≡ Some o → AreApart (status_of o.body).conditions)
          (λ q s. new e ih (status_put n e g o s))
          (λ _ s. ih k o s)

  -- what stands is sound
  pub sound : (n : ℕ) (k : Key) (o : Object) → n ≤ length j → find k (state_at j n) ≡ Some o → IsSound n k o
  sound n k o len h = (let w = numbered lawful n len k o h in record {
    key = found_key k (state_at j n) o h;
    fits = fits n len k o h;
    version = w.version;
    uid = w.uid;
    once = conditions_apart n len k o h;
  })

  -- a Health is written by a reporter alone
  pub health_reported : (n : ℕ) (e : ObjectEntry) → slice_get j n ≡ Some e → IsHealthReported e
  health_reported n e g q = (health_entry lawful n e g e.key.name (key_of_kind e.key kind.Health q)).0
