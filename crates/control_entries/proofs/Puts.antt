-- What an entry puts under a name of each kind, by what stood there.
use Rattle.std.proofs.Common.{◌≡◌, ℕ, ◌≤◌, Bool, List, Some, None, refl, ap, ◌∙◌}
use Rattle.std.specs.Prelude.{slice_get}
use Rattle.version_store.specs.declared.write.Change.TheVariants.{Put, Remove}
use Rattle.resource_types.specs.declared.names.Kind.TheVariants as kind
use Rattle.resource_types.specs.declared.names.Controller.TheVariants as controller
use Rattle.resource_types.specs.declared.names.Name.{Name}
use Rattle.resource_types.specs.declared.names.Actor.TheVariants.{Controller}
use Rattle.resource_types.specs.declared.objects.Body.TheVariants.{Configuration, Route}
use Rattle.resource_types.specs.declared.objects.Object.{Object}
use Rattle.resource_types.specs.declared.manifests.Manifest.{Manifest}
use Rattle.resource_types.specs.Objects.{no_status, pins_of, has_been_ready}
use Rattle.resource_types.specs.Spec.{stamped}
use Rattle.resource_types.specs.Lookups.{Journal}
use Rattle.control_rules.specs.declared.settings.Settings.{Settings}
use Rattle.control_rules.specs.Standing.{beside, key_at, standing, template_of, with_template, with_targets}
use Rattle.control_rules.specs.Resolution.{Meant, stored}
use Rattle.control_rules.specs.Readings.{stored_status, service_status_in, configuration_status_in, revision_status_in, route_status_in, revision_name}
use Rattle.control_rules.specs.Differences.{ObjectPlan, rebodied, restated}
use Rattle.control_rules.specs.NextService.{converted, service_child}
use Rattle.control_rules.specs.NextConfiguration.{made_revision}
use Rattle.control_rules.specs.NextRoute.{add_pin, drop_pin, assigned_at, table_of, pin_lacking, unpinned, first_spare, pinned_body}
use Rattle.control_rules.specs.Slots.{ObjectEntry, state_at, slot_key}
use Rattle.control_rules.specs.Lawful.{PutsObject, IsLawful}
use Rattle.control_entries.proofs.Standing.{stands}
use Rattle.control_entries.proofs.Deeds.{ServiceStated, TableForeign, TableMade, TableReplaced, ConfigurationDeed, ConfigurationMade, ConfigurationTemplated, ConfigurationOrphaned, ConfigurationStated, RevisionDeed, RevisionMade, RevisionStated, RevisionOrphaned, RevisionCollected, RevisionPinned, RevisionUnpinned, RouteDeed, RouteMade, RouteTargeted, RouteOrphaned, RouteStated}
use Rattle.control_entries.proofs.Planned.{unpinned_is}
use Rattle.control_entries.proofs.Entries.{acted_put, acted_removal, acted_same, ClientPuts, ClientRemoves, EntryOn, Acted, Other, entry_on}
use Rattle.control_entries.proofs.Tests.{body_same}

-- ---- Revisions

-- A put makes the Revision that is due to a Configuration; or it changes the status, adds a pin or drops one, of the one that stands.
pub data RevisionPut (j : Journal) (n : ℕ) (e : ObjectEntry) (v : Name) (o : Object) : Type 0 where
  PutMade : (name : Name) (c : Object) → e.actor ≡ Controller (slot_key controller.Configuration name) → e.seen ≤ n
      → standing kind.Configuration name (state_at j e.seen) ≡ Some c → v ≡ revision_name c
      → standing kind.Revision v (state_at j n) ≡ None → o ≡ stamped (made_revision c) o.meta.stamp → RevisionPut j n e v o
  PutStated : (old : Object) → e.actor ≡ Controller (slot_key controller.Revision v) → e.seen ≤ n → standing kind.Revision v (state_at j n) ≡ Some old
      → standing kind.Revision v (state_at j e.seen) ≡ Some old
      → o ≡ stamped (rebodied old (restated old (revision_status_in (state_at j e.seen) old) e.read_at)) o.meta.stamp → RevisionPut j n e v o
  PutPinned : (r : Name) (old : Object) → e.actor ≡ Controller (slot_key controller.Route r) → e.seen ≤ n → v ≡ beside r v.name
      → standing kind.Revision v (state_at j n) ≡ Some old
      → unpinned r.name (Some old) ≡ Some old
      → o ≡ stamped (rebodied old (pinned_body old (add_pin r.name (pins_of old.body)) e.read_at)) o.meta.stamp → RevisionPut j n e v o
  PutUnpinned : (r : Name) (old : Object) → e.actor ≡ Controller (slot_key controller.Route r) → e.seen ≤ n → v ≡ beside r v.name
      → standing kind.Revision v (state_at j n) ≡ Some old
      → first_spare (state_at j e.seen) r ≡ Some old
      → o ≡ stamped (rebodied old (pinned_body old (drop_pin r.name (pins_of old.body)) e.read_at)) o.meta.stamp → RevisionPut j n e v o

-- ---- Configurations and Routes

pub data ConfigurationPut (is_good : Manifest → Bool) (j : Journal) (n : ℕ) (e : ObjectEntry) (v : Name) (o : Object) : Type 0 where
  ConfigurationPutByClient : PutsObject is_good (state_at j n) e → ConfigurationPut is_good j n e v o
  ConfigurationPutMade : (s : Object) → e.actor ≡ Controller (slot_key controller.Service v) → e.seen ≤ n
      → standing kind.Service v (state_at j e.seen) ≡ Some s → standing kind.Configuration v (state_at j n) ≡ None
      → o ≡ stamped (service_child v s kind.Configuration (Configuration (template_of s.body) no_status)) o.meta.stamp
      → ConfigurationPut is_good j n e v o
  ConfigurationPutTemplated : (s old : Object) → e.actor ≡ Controller (slot_key controller.Service v) → e.seen ≤ n
      → standing kind.Service v (state_at j e.seen) ≡ Some s → standing kind.Configuration v (state_at j n) ≡ Some old
      → o ≡ stamped (rebodied old (with_template (template_of s.body) old.body)) o.meta.stamp → ConfigurationPut is_good j n e v o
  ConfigurationPutStated : (old : Object) → e.actor ≡ Controller (slot_key controller.Configuration v) → e.seen ≤ n
      → standing kind.Configuration v (state_at j n) ≡ Some old → standing kind.Configuration v (state_at j e.seen) ≡ Some old
      → o ≡ stamped (rebodied old (restated old (configuration_status_in has_been_ready stored_status (state_at j e.seen) old) e.read_at)) o.meta.stamp
      → ConfigurationPut is_good j n e v o

pub data RoutePut (is_good : Manifest → Bool) (settings : Settings) (j : Journal) (n : ℕ) (e : ObjectEntry) (v : Name) (o : Object) : Type 0 where
  RoutePutByClient : PutsObject is_good (state_at j n) e → RoutePut is_good settings j n e v o
  RoutePutMade : (s : Object) → e.actor ≡ Controller (slot_key controller.Service v) → e.seen ≤ n
      → standing kind.Service v (state_at j e.seen) ≡ Some s → standing kind.Route v (state_at j n) ≡ None
      → o ≡ stamped (service_child v s kind.Route (Route (converted v s) no_status)) o.meta.stamp → RoutePut is_good settings j n e v o
  RoutePutTargeted : (s old : Object) → e.actor ≡ Controller (slot_key controller.Service v) → e.seen ≤ n
      → standing kind.Service v (state_at j e.seen) ≡ Some s → standing kind.Route v (state_at j n) ≡ Some old
      → o ≡ stamped (rebodied old (with_targets (converted v s) old.body)) o.meta.stamp → RoutePut is_good settings j n e v o
  RoutePutStated : (old : Object) → e.actor ≡ Controller (slot_key controller.Route v) → e.seen ≤ n → standing kind.Route v (state_at j n) ≡ Some old
      → standing kind.Route v (state_at j e.seen) ≡ Some old
      → o ≡ stamped (rebodied old (restated old (route_status_in stored settings.domain (state_at j e.seen) v old) e.read_at)) o.meta.stamp
      → RoutePut is_good settings j n e v o

pub data ServicePut (is_good : Manifest → Bool) (j : Journal) (n : ℕ) (e : ObjectEntry) (v : Name) (o : Object) : Type 0 where
  ServicePutByClient : PutsObject is_good (state_at j n) e → ServicePut is_good j n e v o
  ServicePutStated : (old : Object) → e.actor ≡ Controller (slot_key controller.Service v) → e.seen ≤ n
      → standing kind.Service v (state_at j n) ≡ Some old → standing kind.Service v (state_at j e.seen) ≡ Some old
      → o ≡ stamped (rebodied old (restated old (service_status_in stored_status stored_status (state_at j e.seen) v old) e.read_at)) o.meta.stamp
      → ServicePut is_good j n e v o

-- ---- Tables

-- a put makes the Table that is due to the Route, or replaces one
pub data TablePut (settings : Settings) (j : Journal) (n : ℕ) (e : ObjectEntry) (r : Name) (t : Object) : Type 0 where
  PutTable : (o : Object) (ms : List Meant) → e.actor ≡ Controller (slot_key controller.Route r) → e.seen ≤ n
      → standing kind.Route r (state_at j e.seen) ≡ Some o
      → assigned_at stored (state_at j e.seen) r ≡ Some ms → pin_lacking (state_at j e.seen) r e.read_at ≡ None
      → t.body ≡ table_of r settings.domain o ms → TablePut settings j n e r t

module _ {is_good : Manifest → Bool} {settings : Settings} {j : Journal} (lawful : IsLawful is_good settings j) where
  pub revision_put : (n : ℕ) (e : ObjectEntry) → slice_get j n ≡ Some e → (v : Name) → e.key ≡ key_at kind.Revision v → (o : Object)
      → e.object ≡ Some o → RevisionPut j n e v o
  revision_put n e g v k o h = go (entry_on lawful n e g kind.Revision v k)
    where
      go : EntryOn kind.Revision is_good settings j n e v → RevisionPut j n e v o
      go (Other p) = absurd (let z = p.removes in cc)
      go (Acted slot q d x) = deed x
        where
          same : standing kind.Revision v (state_at j n) ≡ standing kind.Revision v (state_at j e.seen)
          same = acted_same d kind.Revision v k

          put : (p : Object) (plan : ObjectPlan) → d.plan ≡ plan → plan.change ≡ Put p → o ≡ stamped p o.meta.stamp
          put p plan s c = acted_put d p o (ap (λ (z : ObjectPlan). z.change) s ∙ c) h

          none : (plan : ObjectPlan) → d.plan ≡ plan → plan.change ≡ Remove → ⊥
          none plan s c = let z = acted_removal d (ap (λ (z : ObjectPlan). z.change) s ∙ c) in cc

          deed : RevisionDeed settings (state_at j e.seen) e.read_at slot v d.plan → RevisionPut j n e v o
          deed (RevisionMade m c s at named absent p) = PutMade m c (q ∙ ap Controller s) d.before at named (same ∙ absent) (put _ _ p refl)
          deed (RevisionStated old s at t p) = PutStated old (q ∙ ap Controller s) d.before (same ∙ at) at (put _ _ p refl)
          deed (RevisionOrphaned old s at t f p) = absurd (none _ p refl)
          deed (RevisionCollected m c old s at stands t p) = absurd (none _ p refl)
          deed (RevisionPinned r old ms s near at own all lacks p) =
              PutPinned r old (q ∙ ap Controller s) d.before near (same ∙ at) (unpinned_is (state_at j e.seen) r ms old lacks).lacks (put _ _ p refl)
          deed (RevisionUnpinned r old s near at spare p) = PutUnpinned r old (q ∙ ap Controller s) d.before near (same ∙ at) spare (put _ _ p refl)

  pub configuration_put : (n : ℕ) (e : ObjectEntry) → slice_get j n ≡ Some e → (v : Name) → e.key ≡ key_at kind.Configuration v → (o : Object)
      → e.object ≡ Some o → ConfigurationPut is_good j n e v o
  configuration_put n e g v k o h = go (entry_on lawful n e g kind.Configuration v k)
    where
      go : EntryOn kind.Configuration is_good settings j n e v → ConfigurationPut is_good j n e v o
      go (Other (ClientPuts p)) = ConfigurationPutByClient p
      go (Other (ClientRemoves p)) = absurd (let z = p.removes in cc)
      go (Acted slot q d x) = deed x
        where
          same : standing kind.Configuration v (state_at j n) ≡ standing kind.Configuration v (state_at j e.seen)
          same = acted_same d kind.Configuration v k

          put : (p : Object) (plan : ObjectPlan) → d.plan ≡ plan → plan.change ≡ Put p → o ≡ stamped p o.meta.stamp
          put p plan s c = acted_put d p o (ap (λ (z : ObjectPlan). z.change) s ∙ c) h

          deed : ConfigurationDeed settings (state_at j e.seen) e.read_at slot v d.plan → ConfigurationPut is_good j n e v o
          deed (ConfigurationMade m s at absent p) = ConfigurationPutMade m (q ∙ ap Controller s) d.before at (same ∙ absent) (put _ _ p refl)
          deed (ConfigurationTemplated m old s at stands own t p) = ConfigurationPutTemplated m old (q ∙ ap Controller s) d.before at (same ∙ stands) (put _ _ p refl)
          deed (ConfigurationOrphaned old s at t p) = absurd (let z = acted_removal d (ap (λ (z : ObjectPlan). z.change) p) in cc)
          deed (ConfigurationStated old s at t p) = ConfigurationPutStated old (q ∙ ap Controller s) d.before (same ∙ at) at (put _ _ p refl)

  pub route_put : (n : ℕ) (e : ObjectEntry) → slice_get j n ≡ Some e → (v : Name) → e.key ≡ key_at kind.Route v → (o : Object) → e.object ≡ Some o
      → RoutePut is_good settings j n e v o
  route_put n e g v k o h = go (entry_on lawful n e g kind.Route v k)
    where
      go : EntryOn kind.Route is_good settings j n e v → RoutePut is_good settings j n e v o
      go (Other (ClientPuts p)) = RoutePutByClient p
      go (Other (ClientRemoves p)) = absurd (let z = p.removes in cc)
      go (Acted slot q d x) = deed x
        where
          same : standing kind.Route v (state_at j n) ≡ standing kind.Route v (state_at j e.seen)
          same = acted_same d kind.Route v k

          put : (p : Object) (plan : ObjectPlan) → d.plan ≡ plan → plan.change ≡ Put p → o ≡ stamped p o.meta.stamp
          put p plan s c = acted_put d p o (ap (λ (z : ObjectPlan). z.change) s ∙ c) h

          deed : RouteDeed settings (state_at j e.seen) e.read_at slot v d.plan → RoutePut is_good settings j n e v o
          deed (RouteMade m s at absent p) = RoutePutMade m (q ∙ ap Controller s) d.before at (same ∙ absent) (put _ _ p refl)
          deed (RouteTargeted m old s at stands own t p) = RoutePutTargeted m old (q ∙ ap Controller s) d.before at (same ∙ stands) (put _ _ p refl)
          deed (RouteOrphaned old s at t p) = absurd (let z = acted_removal d (ap (λ (z : ObjectPlan). z.change) p) in cc)
          deed (RouteStated old s at t p) = RoutePutStated old (q ∙ ap Controller s) d.before (same ∙ at) at (put _ _ p refl)

  pub service_put : (n : ℕ) (e : ObjectEntry) → slice_get j n ≡ Some e → (v : Name) → e.key ≡ key_at kind.Service v → (o : Object) → e.object ≡ Some o
      → ServicePut is_good j n e v o
  service_put n e g v k o h = go (entry_on lawful n e g kind.Service v k)
    where
      go : EntryOn kind.Service is_good settings j n e v → ServicePut is_good j n e v o
      go (Other (ClientPuts p)) = ServicePutByClient p
      go (Other (ClientRemoves p)) = absurd (let z = p.removes in cc)
      go (Acted slot q d (ServiceStated old s at t p)) =
          ServicePutStated old (q ∙ ap Controller s) d.before (acted_same d kind.Service v k ∙ at) at (acted_put d _ o (ap (λ (z : ObjectPlan). z.change) p) h)

  pub table_put : (n : ℕ) (e : ObjectEntry) → slice_get j n ≡ Some e → (r : Name) → e.key ≡ key_at kind.Table r → (t : Object) → e.object ≡ Some t
      → TablePut settings j n e r t
  table_put n e g r k t h = go (entry_on lawful n e g kind.Table r k)
    where
      go : EntryOn kind.Table is_good settings j n e r → TablePut settings j n e r t
      go (Other x) = absurd x
      go (Acted slot q d (TableForeign old s at f p)) = absurd (let z = acted_removal d (ap (λ (z : ObjectPlan). z.change) p) in cc)
      go (Acted slot q d (TableMade o ms s at all pinned none p)) =
          PutTable o ms (q ∙ ap Controller s) d.before at all pinned (body_same (acted_put d _ t (ap (λ (z : ObjectPlan). z.change) p) h))
      go (Acted slot q d (TableReplaced o old ms s at all pinned stands f p)) =
          PutTable o ms (q ∙ ap Controller s) d.before at all pinned (body_same (acted_put d _ t (ap (λ (z : ObjectPlan). z.change) p) h))
