-- What an entry of the Route's own controller does to its pins, its Table and its status.
use Rattle.resource_types.specs.declared.names.Key.{Key}
use Rattle.std.proofs.Common.{◌≡◌, ◌≢◌, ◌⊎◌, inl, inr, ℕ, Bool, true, false, cond, List, [], Option, Some, None, refl, sym, ap, ◌∙◌, subst}
use Rattle.std.specs.Prelude.{slice_get, bytes_eq, ◌&&◌, map}
use Rattle.resource_types.specs.declared.names.Kind.{Kind}
use Rattle.resource_types.specs.declared.names.Kind.TheVariants as kind
use Rattle.resource_types.specs.declared.names.Controller.TheVariants as controller
use Rattle.resource_types.specs.declared.names.Controller as controllers
use Rattle.resource_types.specs.declared.names.Name.{Name}
use Rattle.resource_types.specs.declared.names.SlotKey.{SlotKey}
use Rattle.resource_types.specs.declared.names.Actor.{Actor}
use Rattle.resource_types.specs.declared.names.Actor.TheVariants.{Client, Reporter, Controller}
use Rattle.resource_types.specs.declared.objects.Body.{Body}
use Rattle.resource_types.specs.declared.objects.Body.TheVariants.{Table}
use Rattle.resource_types.specs.declared.specification.Row.{Row}
use Rattle.resource_types.specs.declared.objects.Object.{Object}
use Rattle.resource_types.specs.declared.manifests.Manifest.{Manifest}
use Rattle.resource_types.specs.Objects.{is_of, pins_of, status_of}
use Rattle.resource_types.specs.Lookups.{Journal, State}
use Rattle.resource_types.proofs.Exact.{bytes-exact, left, right}
use Rattle.control_rules.specs.declared.settings.Settings.{Settings}
use Rattle.control_rules.specs.Standing.{beside, key_at, listed, read, standing, published_of, published_at, published_targets, target_names, traffic_at, is_table_of}
use Rattle.control_rules.specs.Resolution.{Meant, stored}
use Rattle.control_rules.specs.TrafficStatuses.{published_or_none, route_status}
use Rattle.control_rules.specs.Readings.{own_targets, route_status_in}
use Rattle.control_rules.specs.Differences.{ObjectPlan, timed}
use Rattle.control_rules.specs.NextRoute.{add_pin, drop_pin, is_spare, assigned_at, pin_lacking, table_of}
use Rattle.control_rules.specs.Slots.{ObjectEntry, state_at, slot_key}
use Rattle.control_rules.specs.Lawful.{IsLawful}
use Rattle.control_rules.specs.Facts.{IsOthers}
use Rattle.control_entries.proofs.Tests.{not_true, or_false, not_both, bytes_self, body_same}
use Rattle.control_entries.proofs.Standing.{stands}
use Rattle.control_entries.proofs.Positions.{ordered_at}
use Rattle.control_entries.proofs.Bodies.{pins-with_pins, status-with_status}
use Rattle.control_safety.proofs.Pins.{listed_none, listed_right}
use Rattle.control_entries.proofs.Deeds.{ServiceDeed, ServiceStated, ConfigurationDeed, ConfigurationMade, ConfigurationTemplated, ConfigurationOrphaned, ConfigurationStated, RevisionDeed, RevisionMade, RevisionStated, RevisionOrphaned, RevisionCollected, RevisionPinned, RevisionUnpinned, RouteDeed, RouteMade, RouteTargeted, RouteOrphaned, RouteStated, TableDeed, TableForeign, TableMade, TableReplaced, DeedOn}
use Rattle.control_entries.proofs.Planned.{spare_stands}
use Rattle.control_entries.proofs.Entries.{Acts, acted_some, acted_removal, acted_same, acts_of}
use Rattle.control_safety.proofs.Since.{controls}

-- ---- whose an entry is

same_names : Name → Name → Bool
same_names a b = bytes_eq a.space b.space && bytes_eq a.name b.name

name_is : (a b : Name) → same_names a b ≡ true → a ≡ b
unfolding same_names
name_is a b h = (let p = bytes-exact a.space b.space (left _ _ h) in let q = bytes-exact a.name b.name (right (bytes_eq a.space b.space) _ h) in λ i. record { space = p i; name = q i })

name_own : (a : Name) → same_names a a ≡ true
unfolding same_names
name_own a = rw (bytes_self a.space, bytes_self a.name) refl

slot_name : {a b : Name} → slot_key controller.Route a ≡ slot_key controller.Route b → a ≡ b
slot_name h = ap (λ (z : SlotKey). z.name) h

slot_apart : {c d : controllers.Controller} {a b : Name} → slot_key c a ≡ slot_key d b → c ≡ d
slot_apart h = ap (λ (z : SlotKey). z.controller) h

slot_is : {a b : SlotKey} → Controller a ≡ Controller b → a ≡ b
slot_is h = cc

-- an entry is the Route's controller's, or another's
pub whose : (r : Name) (e : ObjectEntry) → (e.actor ≡ Controller (slot_key controller.Route r)) ⊎ IsOthers r e
whose r e = go e.actor refl
  where
    other : {a : Actor} → e.actor ≡ a → (a ≢ Controller (slot_key controller.Route r))
        → (e.actor ≡ Controller (slot_key controller.Route r)) ⊎ IsOthers r e
    other q apart = inr (λ h. apart (sym q ∙ h))

    route : (name : Name) (b : Bool) → same_names name r ≡ b → e.actor ≡ Controller (slot_key controller.Route name)
        → (e.actor ≡ Controller (slot_key controller.Route r)) ⊎ IsOthers r e
    route name true t q = inl (q ∙ ap (λ z. Controller (slot_key controller.Route z)) (name_is name r t))
    route name false t q = other q (λ h. not_both (subst (λ z. same_names name z ≡ true) (slot_name (slot_is h)) (name_own name)) t)

    slot : (c : controllers.Controller) (name : Name) → e.actor ≡ Controller (record { controller = c; name = name })
        → (e.actor ≡ Controller (slot_key controller.Route r)) ⊎ IsOthers r e
    slot controller.Service name q = other q (λ h. (let z = slot_apart (slot_is h) in cc))
    slot controller.Configuration name q = other q (λ h. (let z = slot_apart (slot_is h) in cc))
    slot controller.Revision name q = other q (λ h. (let z = slot_apart (slot_is h) in cc))
    slot controller.Collector name q = other q (λ h. (let z = slot_apart (slot_is h) in cc))
    slot controller.Route name q = route name (same_names name r) refl q

    go : (a : Actor) → e.actor ≡ a → (e.actor ≡ Controller (slot_key controller.Route r)) ⊎ IsOthers r e
    go Client q = other q (λ h. cc)
    go Reporter q = other q (λ h. cc)
    go (Controller s) q = slot s.controller s.name q

-- ---- what a Route's status says of its Table

table_names : (b : Body) (x : List ℕ) → listed x (target_names (published_targets b)) ≡ true → listed x (published_of b) ≡ true
table_names (Table route rows targets) x h = listed_right x (map (λ (r : Row). r.revision) rows) (target_names targets) h
table_names _ x h = h

own_names : (uid : ℕ) (w : Option Object) (x : List ℕ) → listed x (target_names (published_or_none (own_targets uid w))) ≡ true
    → listed x (read [] published_of w) ≡ true
own_names uid None x h = h
own_names uid (Some t) x h = go (is_table_of uid t.body) h
  where
    go : (b : Bool) → listed x (target_names (published_or_none (cond b (Some (published_targets t.body)) None))) ≡ true
        → listed x (published_of t.body) ≡ true
    go true k = table_names t.body x k
    go false k = absurd (not_both k (listed_none x))

-- a Route's new status names what its Table names
pub status_names : (settings : Settings) (st : State) (r : Name) (o : Object) (x : List ℕ)
    → listed x (target_names (route_status_in stored settings.domain st r o).traffic) ≡ true → listed x (published_at st r) ≡ true
unfolding route_status
status_names settings st r o x h = own_names o.meta.stamp.uid (standing kind.Table r st) x h

-- ---- its own entries

pub data RouteAct (settings : Settings) (j : Journal) (n : ℕ) (e : ObjectEntry) (r : Name) : Type 0 where
  RemovesRoute : e.key ≡ key_at kind.Route r → e.object ≡ None → RouteAct settings j n e r
  StatesRoute : (o p : Object) → e.key ≡ key_at kind.Route r → e.object ≡ Some p
      → status_of p.body ≡ timed (status_of o.body) (route_status_in stored settings.domain (state_at j e.seen) r o) e.read_at
      → RouteAct settings j n e r
  RemovesTable : e.key ≡ key_at kind.Table r → e.object ≡ None → RouteAct settings j n e r
  PutsTable : (o t : Object) (ms : List Meant) → e.key ≡ key_at kind.Table r → e.object ≡ Some t → standing kind.Route r (state_at j e.seen) ≡ Some o
      → assigned_at stored (state_at j e.seen) r ≡ Some ms
      → pin_lacking (state_at j e.seen) r e.read_at ≡ None → t.body ≡ table_of r settings.domain o ms → RouteAct settings j n e r
  AddsPin : (x : List ℕ) (old o : Object) → e.key ≡ key_at kind.Revision (beside r x) → standing kind.Revision (beside r x) (state_at j n) ≡ Some old
      → e.object ≡ Some o
      → pins_of o.body ≡ add_pin r.name (pins_of old.body) → RouteAct settings j n e r
  DropsPin : (x : List ℕ) (old o : Object) → e.key ≡ key_at kind.Revision (beside r x) → standing kind.Revision (beside r x) (state_at j n) ≡ Some old
      → e.object ≡ Some o
      → pins_of o.body ≡ drop_pin r.name (pins_of old.body) → listed x (published_at (state_at j e.seen) r) ≡ false
      → listed x (traffic_at (state_at j e.seen) r) ≡ false → RouteAct settings j n e r

unnamed : (st : State) (r : Name) (v : Object) → is_spare st r v ≡ true
    → (listed v.key.name.name (published_at st r) ≡ false) × (listed v.key.name.name (traffic_at st r) ≡ false)
unfolding is_spare
unnamed st r v t = or_false (not_true (right (listed r.name (pins_of v.body)) _ (right (is_of kind.Revision v && bytes_eq v.key.name.space r.space) _ t)))

module _ {is_good : Manifest → Bool} {settings : Settings} {j : Journal} (lawful : IsLawful is_good settings j) where
  pub route_act : (n : ℕ) (e : ObjectEntry) → slice_get j n ≡ Some e → (r : Name) → e.actor ≡ Controller (slot_key controller.Route r)
      → RouteAct settings j n e r
  route_act n e g r q = go d.deed.kind d.deed.name d.deed.key d.deed.deed
    where
      d : Acts settings j n e (slot_key controller.Route r)
      d = acts_of lawful n e g (slot_key controller.Route r) (controls lawful n e g (slot_key controller.Route r) q)

      change : (plan : ObjectPlan) → d.plan ≡ plan → d.plan.change ≡ plan.change
      change plan s = ap (λ (z : ObjectPlan). z.change) s

      table : (w : Name) → d.plan.key ≡ key_at kind.Table w → TableDeed settings (state_at j e.seen) e.read_at (slot_key controller.Route r) w d.plan
          → RouteAct settings j n e r
      table w k (TableForeign t s at f p) = (let same = slot_name s in RemovesTable (d.key ∙ k ∙ ap (key_at kind.Table) (sym same)) (acted_removal d (change _ p)))
      table w k (TableMade o ms s at all pinned none p) =
          (let same = sym (slot_name s) in
          let (t, h, is) = acted_some d _ (change _ p) in
          PutsTable o t ms (d.key ∙ k ∙ ap (key_at kind.Table) same) h (subst (λ z. standing kind.Route z (state_at j e.seen) ≡ Some o) same at) (subst (λ z. assigned_at stored (state_at j e.seen) z ≡ Some ms) same all)
          (subst (λ z. pin_lacking (state_at j e.seen) z e.read_at ≡ None) same pinned) (body_same is ∙ ap (λ z. table_of z settings.domain o ms) same))
      table w k (TableReplaced o old ms s at all pinned now f p) =
          (let same = sym (slot_name s) in
          let (t, h, is) = acted_some d _ (change _ p) in
          PutsTable o t ms (d.key ∙ k ∙ ap (key_at kind.Table) same) h (subst (λ z. standing kind.Route z (state_at j e.seen) ≡ Some o) same at) (subst (λ z. assigned_at stored (state_at j e.seen) z ≡ Some ms) same all)
          (subst (λ z. pin_lacking (state_at j e.seen) z e.read_at ≡ None) same pinned) (body_same is ∙ ap (λ z. table_of z settings.domain o ms) same))

      route : (w : Name) → d.plan.key ≡ key_at kind.Route w → RouteDeed settings (state_at j e.seen) e.read_at (slot_key controller.Route r) w d.plan
          → RouteAct settings j n e r
      route w k (RouteMade m s at absent p) = absurd (let z = slot_apart s in cc)
      route w k (RouteTargeted m old s at now own t p) = absurd (let z = slot_apart s in cc)
      route w k (RouteOrphaned o s at t p) = RemovesRoute (d.key ∙ k ∙ ap (key_at kind.Route) (sym (slot_name s))) (acted_removal d (change _ p))
      route w k (RouteStated o s at t p) =
          (let same = sym (slot_name s) in
          let (x, h, is) = acted_some d _ (change _ p) in
          let fits = (stands kind.Route w (state_at j e.seen) o at).fits in
          StatesRoute o x (d.key ∙ k ∙ ap (key_at kind.Route) same) h
          (ap (λ (z : Object). status_of z.body) is ∙ status-with_status _ o.body (λ y. let z = sym fits ∙ y in cc, λ y. let z = sym fits ∙ y in cc)
          ∙ ap (λ z. timed (status_of o.body) (route_status_in stored settings.domain (state_at j e.seen) z o) e.read_at) same))

      revision : (v : Name) → d.plan.key ≡ key_at kind.Revision v
          → RevisionDeed settings (state_at j e.seen) e.read_at (slot_key controller.Route r) v d.plan → RouteAct settings j n e r
      revision v k (RevisionMade m c s at named absent p) = absurd (let z = slot_apart s in cc)
      revision v k (RevisionStated old s at t p) = absurd (let z = slot_apart s in cc)
      revision v k (RevisionOrphaned old s at t f p) = absurd (let z = slot_apart s in cc)
      revision v k (RevisionCollected m c old s at now t p) = absurd (let z = slot_apart s in cc)
      revision v k (RevisionPinned q' old ms s near at own all lacks p) =
          (let same = sym (slot_name s) in
          let place : v ≡ beside r v.name = near ∙ ap (λ z. beside z v.name) same in
          let (o, h, is) = acted_some d _ (change _ p) in
          AddsPin v.name old o (d.key ∙ k ∙ ap (key_at kind.Revision) place) (subst (λ z. standing kind.Revision z (state_at j n) ≡ Some old) place (acted_same d kind.Revision v (d.key ∙ k) ∙ at)) h
          (ap (λ (z : Object). pins_of z.body) is ∙ pins-with_pins _ _ old.body (stands kind.Revision v (state_at j e.seen) old at).fits ∙ ap (λ (z : Name). add_pin z.name (pins_of old.body)) same))
      revision v k (RevisionUnpinned q' old s near at spare p) =
          (let same = sym (slot_name s) in
          let place : v ≡ beside r v.name = near ∙ ap (λ z. beside z v.name) same in
          let (o, h, is) = acted_some d _ (change _ p) in
          let name : old.key.name.name ≡ v.name = ap (λ (z : Key). z.name.name) (stands kind.Revision v (state_at j e.seen) old at).key in
          let none = unnamed (state_at j e.seen) q' old (spare_stands settings (state_at j e.seen) e.read_at (ordered_at j e.seen) q' old spare).0 in
          DropsPin v.name old o (d.key ∙ k ∙ ap (key_at kind.Revision) place) (subst (λ z. standing kind.Revision z (state_at j n) ≡ Some old) place (acted_same d kind.Revision v (d.key ∙ k) ∙ at)) h
          (ap (λ (z : Object). pins_of z.body) is ∙ pins-with_pins _ _ old.body (stands kind.Revision v (state_at j e.seen) old at).fits ∙ ap (λ (z : Name). drop_pin z.name (pins_of old.body)) same)
          (subst (λ z. listed z (published_at (state_at j e.seen) r) ≡ false) name (subst (λ z. listed old.key.name.name (published_at (state_at j e.seen) z) ≡ false) same none.0))
          (subst (λ z. listed z (traffic_at (state_at j e.seen) r) ≡ false) name (subst (λ z. listed old.key.name.name (traffic_at (state_at j e.seen) z) ≡ false) same none.1)))

      service : (w : Name) → ServiceDeed settings (state_at j e.seen) e.read_at (slot_key controller.Route r) w d.plan → ⊥
      service w (ServiceStated m s at t p) = (let z = slot_apart s in cc)

      configuration : (w : Name) → ConfigurationDeed settings (state_at j e.seen) e.read_at (slot_key controller.Route r) w d.plan → ⊥
      configuration w (ConfigurationMade m s at absent p) = (let z = slot_apart s in cc)
      configuration w (ConfigurationTemplated m old s at now own t p) = (let z = slot_apart s in cc)
      configuration w (ConfigurationOrphaned old s at t p) = (let z = slot_apart s in cc)
      configuration w (ConfigurationStated old s at t p) = (let z = slot_apart s in cc)

      go : (k : Kind) (w : Name) → d.plan.key ≡ key_at k w → DeedOn k settings (state_at j e.seen) e.read_at (slot_key controller.Route r) w d.plan
          → RouteAct settings j n e r
      go kind.Service w k x = absurd (service w x)
      go kind.Configuration w k x = absurd (configuration w x)
      go kind.Revision w k x = revision w k x
      go kind.Route w k x = route w k x
      go kind.Health w k x = absurd x
      go kind.Table w k x = table w k x
