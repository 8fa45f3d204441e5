-- What a controller may plan, by the kind of the object that it is on: each difference of the five controllers is one case.
use Rattle.std.proofs.Common.{◌≡◌, ℕ, true, false, List, Some, None}
use Rattle.resource_types.specs.declared.names.Kind.{Kind}
use Rattle.resource_types.specs.declared.names.Kind.TheVariants as kind
use Rattle.resource_types.specs.declared.names.Controller.TheVariants as controller
use Rattle.resource_types.specs.declared.names.Name.{Name}
use Rattle.resource_types.specs.declared.names.SlotKey.{SlotKey}
use Rattle.resource_types.specs.declared.objects.Body.TheVariants.{Configuration, Route}
use Rattle.resource_types.specs.declared.objects.Object.{Object}
use Rattle.resource_types.specs.Objects.{no_status, pins_of, status_of, targets_of, has_been_ready}
use Rattle.resource_types.specs.Lookups.{State, is_free}
use Rattle.control_rules.specs.declared.settings.Settings.{Settings}
use Rattle.control_rules.specs.Standing.{beside, key_at, standing, is_orphan, is_owned_by_uid, template_of, with_template, with_targets}
use Rattle.control_rules.specs.Resolution.{Meant, stored}
use Rattle.control_rules.specs.Collection.{collection_choice}
use Rattle.control_rules.specs.Readings.{stored_status, service_status_in, configuration_status_in, revision_status_in, route_status_in, revision_name}
use Rattle.control_rules.specs.Differences.{ObjectPlan, creation, replacement, removal, guarded_removal, new_object, no_labels, same_untimed, restated}
use Rattle.control_rules.specs.NextService.{made_child, same_template, same_targets, converted}
use Rattle.control_rules.specs.NextConfiguration.{made_revision}
use Rattle.control_rules.specs.NextRoute.{add_pin, drop_pin, repinned, first_unpinned, first_spare, assigned_at, is_own_table, table_of, same_body, table_foreign, pin_lacking}
use Rattle.control_rules.specs.Slots.{slot_key}

-- what is planned on the Service of the name
pub data ServiceDeed (settings : Settings) (st : State) (now : ℕ) (slot : SlotKey) (n : Name) (plan : ObjectPlan) : Type 0 where
  ServiceStated : (s : Object) → slot ≡ slot_key controller.Service n → standing kind.Service n st ≡ Some s
      → same_untimed (status_of s.body) (service_status_in stored_status stored_status st n s) ≡ false
      → plan ≡ replacement s (restated s (service_status_in stored_status stored_status st n s) now) → ServiceDeed settings st now slot n plan

-- what is planned on the Configuration of the name
pub data ConfigurationDeed (settings : Settings) (st : State) (now : ℕ) (slot : SlotKey) (n : Name) (plan : ObjectPlan) : Type 0 where
  ConfigurationMade : (s : Object) → slot ≡ slot_key controller.Service n → standing kind.Service n st ≡ Some s
      → standing kind.Configuration n st ≡ None
      → plan ≡ made_child n s kind.Configuration (Configuration (template_of s.body) no_status) → ConfigurationDeed settings st now slot n plan
  ConfigurationTemplated : (s c : Object) → slot ≡ slot_key controller.Service n → standing kind.Service n st ≡ Some s
      → standing kind.Configuration n st ≡ Some c
      → is_owned_by_uid s.meta.stamp.uid c ≡ true → same_template (template_of c.body) (template_of s.body) ≡ false
      → plan ≡ replacement c (with_template (template_of s.body) c.body) → ConfigurationDeed settings st now slot n plan
  ConfigurationOrphaned : (c : Object) → slot ≡ slot_key controller.Configuration n → standing kind.Configuration n st ≡ Some c
      → is_orphan st c ≡ true
      → plan ≡ removal c → ConfigurationDeed settings st now slot n plan
  ConfigurationStated : (c : Object) → slot ≡ slot_key controller.Configuration n → standing kind.Configuration n st ≡ Some c
      → same_untimed (status_of c.body) (configuration_status_in has_been_ready stored_status st c) ≡ false
      → plan ≡ replacement c (restated c (configuration_status_in has_been_ready stored_status st c) now)
      → ConfigurationDeed settings st now slot n plan

-- what is planned on the Revision of the name
pub data RevisionDeed (settings : Settings) (st : State) (now : ℕ) (slot : SlotKey) (v : Name) (plan : ObjectPlan) : Type 0 where
  RevisionMade : (n : Name) (c : Object) → slot ≡ slot_key controller.Configuration n → standing kind.Configuration n st ≡ Some c
      → v ≡ revision_name c → standing kind.Revision v st ≡ None
      → plan ≡ creation (made_revision c) → RevisionDeed settings st now slot v plan
  RevisionStated : (o : Object) → slot ≡ slot_key controller.Revision v → standing kind.Revision v st ≡ Some o
      → same_untimed (status_of o.body) (revision_status_in st o) ≡ false
      → plan ≡ replacement o (restated o (revision_status_in st o) now) → RevisionDeed settings st now slot v plan
  RevisionOrphaned : (o : Object) → slot ≡ slot_key controller.Revision v → standing kind.Revision v st ≡ Some o → is_orphan st o ≡ true
      → is_free st v ≡ true
      → plan ≡ guarded_removal o → RevisionDeed settings st now slot v plan
  RevisionCollected : (n : Name) (c o : Object) → slot ≡ slot_key controller.Collector n → standing kind.Configuration n st ≡ Some c
      → standing kind.Revision v st ≡ Some o
      → collection_choice has_been_ready settings.gc st c now ≡ Some o
      → plan ≡ guarded_removal o → RevisionDeed settings st now slot v plan
  RevisionPinned : (r : Name) (o : Object) (ms : List Meant) → slot ≡ slot_key controller.Route r → v ≡ beside r v.name
      → standing kind.Revision v st ≡ Some o
      → table_foreign st r ≡ None → assigned_at stored st r ≡ Some ms → first_unpinned st r ms ≡ Some o
      → plan ≡ repinned o (add_pin r.name (pins_of o.body)) now → RevisionDeed settings st now slot v plan
  RevisionUnpinned : (r : Name) (o : Object) → slot ≡ slot_key controller.Route r → v ≡ beside r v.name → standing kind.Revision v st ≡ Some o
      → first_spare st r ≡ Some o
      → plan ≡ repinned o (drop_pin r.name (pins_of o.body)) now → RevisionDeed settings st now slot v plan

-- what is planned on the Route of the name
pub data RouteDeed (settings : Settings) (st : State) (now : ℕ) (slot : SlotKey) (n : Name) (plan : ObjectPlan) : Type 0 where
  RouteMade : (s : Object) → slot ≡ slot_key controller.Service n → standing kind.Service n st ≡ Some s → standing kind.Route n st ≡ None
      → plan ≡ made_child n s kind.Route (Route (converted n s) no_status) → RouteDeed settings st now slot n plan
  RouteTargeted : (s r : Object) → slot ≡ slot_key controller.Service n → standing kind.Service n st ≡ Some s → standing kind.Route n st ≡ Some r
      → is_owned_by_uid s.meta.stamp.uid r ≡ true → same_targets (targets_of r.body) (converted n s) ≡ false
      → plan ≡ replacement r (with_targets (converted n s) r.body) → RouteDeed settings st now slot n plan
  RouteOrphaned : (o : Object) → slot ≡ slot_key controller.Route n → standing kind.Route n st ≡ Some o → is_orphan st o ≡ true
      → plan ≡ removal o → RouteDeed settings st now slot n plan
  RouteStated : (o : Object) → slot ≡ slot_key controller.Route n → standing kind.Route n st ≡ Some o
      → same_untimed (status_of o.body) (route_status_in stored settings.domain st n o) ≡ false
      → plan ≡ replacement o (restated o (route_status_in stored settings.domain st n o) now) → RouteDeed settings st now slot n plan

-- what is planned on the Table of the name
pub data TableDeed (settings : Settings) (st : State) (now : ℕ) (slot : SlotKey) (r : Name) (plan : ObjectPlan) : Type 0 where
  TableForeign : (t : Object) → slot ≡ slot_key controller.Route r → standing kind.Table r st ≡ Some t
      → is_own_table (standing kind.Route r st) t ≡ false
      → plan ≡ removal t → TableDeed settings st now slot r plan
  TableMade : (o : Object) (ms : List Meant) → slot ≡ slot_key controller.Route r → standing kind.Route r st ≡ Some o
      → assigned_at stored st r ≡ Some ms → pin_lacking st r now ≡ None
      → standing kind.Table r st ≡ None
      → plan ≡ creation (new_object (key_at kind.Table r) None no_labels no_labels (table_of r settings.domain o ms))
      → TableDeed settings st now slot r plan
  TableReplaced : (o t : Object) (ms : List Meant) → slot ≡ slot_key controller.Route r → standing kind.Route r st ≡ Some o
      → assigned_at stored st r ≡ Some ms → pin_lacking st r now ≡ None
      → standing kind.Table r st ≡ Some t → same_body t.body (table_of r settings.domain o ms) ≡ false
      → plan ≡ replacement t (table_of r settings.domain o ms) → TableDeed settings st now slot r plan

-- what is planned on an object of the kind, under the name; nothing on a Health
abbrev pub DeedOn : Kind → Settings → State → ℕ → SlotKey → Name → ObjectPlan → Type 0
DeedOn kind.Service settings st now slot n plan = ServiceDeed settings st now slot n plan
DeedOn kind.Configuration settings st now slot n plan = ConfigurationDeed settings st now slot n plan
DeedOn kind.Revision settings st now slot n plan = RevisionDeed settings st now slot n plan
DeedOn kind.Route settings st now slot n plan = RouteDeed settings st now slot n plan
DeedOn kind.Health settings st now slot n plan = ⊥
DeedOn kind.Table settings st now slot n plan = TableDeed settings st now slot n plan

-- what is planned
pub record Deed (settings : Settings) (st : State) (now : ℕ) (slot : SlotKey) (plan : ObjectPlan) : Type 0 where
  pub kind : Kind
  pub name : Name
  pub key : plan.key ≡ key_at kind name
  pub deed : DeedOn kind settings st now slot name plan

-- a deed of the kind
pub on : {settings : Settings} {st : State} {now : ℕ} {slot : SlotKey} {plan : ObjectPlan} (k : Kind) (n : Name) → plan.key ≡ key_at k n
    → DeedOn k settings st now slot n plan → Deed settings st now slot plan
on k n e d = record { kind = k; name = n; key = e; deed = d }
