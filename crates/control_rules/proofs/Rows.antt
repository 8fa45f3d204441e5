-- Worked rows by computation: what the controllers plan for one Configuration, its Revision, and a Route on it.
use Rattle.std.proofs.Common.{◌≡◌, ℕ, true, false, List, [], ◌∷◌, codes, Option, Some, None, refl, ap}
use Rattle.std.specs.Fmt.{digits}
use Rattle.version_store.specs.declared.item.Stamp.{Stamp}
use Rattle.json_tree.specs.declared.value.Json.{Arr, Obj, Str}
use Rattle.json_tree.specs.Equal.{is_equal}
use Rattle.resource_types.specs.declared.names.Kind.{Kind}
use Rattle.resource_types.specs.declared.names.Kind.TheVariants as kind
use Rattle.resource_types.specs.declared.names.Controller.{Controller}
use Rattle.resource_types.specs.declared.names.Controller.TheVariants as controller
use Rattle.resource_types.specs.declared.names.Name.{Name}
use Rattle.resource_types.specs.declared.metadata.Owner.{Owner}
use Rattle.resource_types.specs.declared.conditions.CondName.{CondName}
use Rattle.resource_types.specs.declared.conditions.CondName.TheVariants as condition
use Rattle.resource_types.specs.declared.conditions.Truth.{Truth}
use Rattle.resource_types.specs.declared.conditions.Truth.TheVariants as truth
use Rattle.resource_types.specs.declared.conditions.Condition.{Condition}
use Rattle.resource_types.specs.declared.conditions.Part.{Part}
use Rattle.resource_types.specs.declared.specification.Target.{Target}
use Rattle.resource_types.specs.declared.specification.Row.{Row}
use Rattle.resource_types.specs.declared.specification.Template.{Template}
use Rattle.resource_types.specs.declared.specification.PodSpec.{PodSpec}
use Rattle.resource_types.specs.declared.status.ObjectStatus.{ObjectStatus}
use Rattle.resource_types.specs.declared.objects.Body.{Body}
use Rattle.resource_types.specs.declared.objects.Body.TheVariants.{Configuration, Revision, Route, Health, Table}
use Rattle.resource_types.specs.declared.objects.Object.{Object}
use Rattle.resource_types.specs.Objects.{no_status}
use Rattle.resource_types.specs.Lookups.{State}
use Rattle.control_rules.specs.declared.settings.Settings.{Settings}
use Rattle.control_rules.specs.Standing.{key_at, standing, listed, is_orphan}
use Rattle.control_rules.specs.Resolution.{found_of, first_hindrance, meant_of, add_share, shares_from, assigned_rows, resolved, resolution, assigned}
use Rattle.control_rules.specs.Statuses.{reported_of, revision_status, configuration_status}
use Rattle.control_rules.specs.TrafficStatuses.{route_status}
use Rattle.control_rules.specs.Readings.{revision_name}
use Rattle.control_rules.specs.Differences.{ObjectPlan, first_plan, when, given, missing, no_labels, creation, replacement, same_untimed}
use Rattle.control_rules.specs.NextConfiguration.{revision_labels, revision_annotations, configuration_next}
use Rattle.control_rules.specs.NextRevision.{revision_next}
use Rattle.control_rules.specs.NextRoute.{add_pin, first_unpinned, is_spare, first_spare, assigned_at, published, route_next}
use Rattle.control_rules.specs.Next.{next_write}
use Rattle.control_rules.proofs.Same.{same_untimed-own, same_untimed-apart, same_body-own}

abbrev pub settings : Settings
settings = record { domain = codes "example.com"; gc = record { create = Some 172800; active = Some 54000; least = 20; most = Some 1000 } }

abbrev pub named : List ℕ → Name
named simple = record { space = codes "default"; name = simple }

abbrev pub hello : Name
hello = named (codes "hello")

abbrev pub hello-1 : Name
hello-1 = named (codes "hello-00001")

abbrev pub pod : PodSpec
pod = record { concurrency = Some 0; timeout = Some 300; rest = record { entries = (codes "containers", Arr (Obj (record { entries = (codes "image", Str (codes "img")) ∷ [] }) ∷ [])) ∷ [] } }

abbrev pub template : Template
template = record { name = []; labels = no_labels; annotations = no_labels; spec = pod }

abbrev pub object : Kind → Name → Stamp → Option Owner → Body → Object
object kind n stamp owner body = record { key = key_at kind n; meta = record { stamp = stamp; owner = owner; labels = no_labels; annotations = no_labels }; body = body }

abbrev pub stamp : ℕ → ℕ → Stamp
stamp version uid = record { version = version; generation = 1; uid = uid; created = 0 }

abbrev pub condition_of : CondName → Truth → List ℕ → List ℕ → Condition
condition_of name t reason message = record { name = name; truth = t; reason = reason; message = message; info = false; since = 0 }

-- ---- the Configuration and its Revision

abbrev pub configuration : ℕ → ObjectStatus → Object
configuration version status = object kind.Configuration hello (stamp version 1) None (Configuration template status)

abbrev pub labels : List (List ℕ × List ℕ)
labels = (codes "serving.knative.dev/configuration", codes "hello") ∷ (codes "serving.knative.dev/configurationGeneration", codes "1") ∷ []

abbrev pub revision : Stamp → List (List ℕ) → Option ℕ → ObjectStatus → Object
revision s pins active status = record {
  key = key_at kind.Revision hello-1;
  meta = record { stamp = s; owner = Some (record { kind = kind.Configuration; name = codes "hello"; uid = 1 }); labels = record { entries = labels }; annotations = no_labels };
  body = Revision pod 1 pins active status;
}

abbrev pub no_stamp : Stamp
no_stamp = record { version = 0; generation = 0; uid = 0; created = 0 }

abbrev pub unobserved : ObjectStatus
unobserved = record { observed = 1; created = codes "hello-00001"; ready = []; url = []; traffic = []; conditions = condition_of condition.Ready truth.Unknown (codes "NotObserved") (codes "the revision has no status yet") ∷ [] }

abbrev pub next : Controller → Name → State → Option ObjectPlan
next c n st = next_write settings (record { controller = c; name = n }) st 0

pub makes_revision : next controller.Configuration hello (configuration 1 no_status ∷ []) ≡ Some (creation (revision no_stamp [] None no_status))
unfolding next_write configuration_next first_plan when given missing standing is_orphan listed revision_labels revision_annotations revision_name digits
makes_revision = refl

pub gets_status : next controller.Configuration hello (configuration 1 no_status ∷ revision (stamp 2 2) [] None no_status ∷ []) ≡ Some (replacement (configuration 1 no_status) (Configuration template unobserved))
unfolding next_write configuration_next first_plan when given missing standing is_orphan listed revision_labels revision_annotations revision_name configuration_status same_untimed is_equal digits
gets_status = refl

pub rests : next controller.Configuration hello (configuration 3 unobserved ∷ revision (stamp 2 2) [] None no_status ∷ []) ≡ None
unfolding next_write configuration_next first_plan when given missing standing is_orphan listed revision_labels revision_annotations revision_name configuration_status digits
rests = rw (same_untimed-own unobserved) refl

-- ---- the Route

abbrev pub ready_revision : ObjectStatus
ready_revision = record {
  observed = 1;
  created = [];
  ready = [];
  url = [];
  traffic = [];
  conditions =
      condition_of condition.ContainerHealthy truth.True [] [] ∷
      record { name = condition.HasBeenReady; truth = truth.True; reason = []; message = []; info = true; since = 0 } ∷
      condition_of condition.Ready truth.True [] [] ∷ condition_of condition.ResourcesAvailable truth.True [] [] ∷ [];
}

abbrev pub ready_configuration : ObjectStatus
ready_configuration = record { observed = 1; created = codes "hello-00001"; ready = codes "hello-00001"; url = []; traffic = []; conditions = condition_of condition.Ready truth.True [] [] ∷ [] }

abbrev pub part : Part
part = record { truth = truth.True; reason = []; message = [] }

abbrev pub health : Object
health = object kind.Health hello-1 (stamp 4 4) None (Health 2 part part true)

pub observes : next controller.Revision hello-1 (configuration 3 unobserved ∷ revision (stamp 2 2) [] None no_status ∷ health ∷ []) ≡ Some (replacement (revision (stamp 2 2) [] None no_status) (Revision pod 1 [] None ready_revision))
unfolding next_write revision_next first_plan when given standing is_orphan reported_of revision_status same_untimed is_equal
observes = refl

pub is_ready : next controller.Configuration hello (configuration 3 unobserved ∷ revision (stamp 5 2) [] None ready_revision ∷ health ∷ []) ≡ Some (replacement (configuration 3 unobserved) (Configuration template ready_configuration))
unfolding next_write configuration_next first_plan when given missing standing is_orphan listed revision_labels revision_annotations revision_name configuration_status digits
is_ready = rw (same_untimed-apart unobserved ready_configuration (λ e. let z = ap (λ (s : ObjectStatus). s.ready) e in cc)) refl

abbrev pub r : Name
r = named (codes "r")

abbrev pub target : Target
target = record { configuration = codes "hello"; revision = []; latest = Some true; percent = Some 100; tag = []; url = [] }

abbrev pub route : ℕ → ObjectStatus → Object
route version status = object kind.Route r (stamp version 7) None (Route (target ∷ []) status)

abbrev pub row : Row
row = record { tag = []; host = codes "r.default.example.com"; revision = codes "hello-00001"; uid = 2; percent = 100 }

abbrev pub published_one : Target
published_one = record { configuration = []; revision = codes "hello-00001"; latest = Some true; percent = Some 100; tag = []; url = [] }

abbrev pub table : Stamp → Object
table s = object kind.Table r s None (Table 7 (row ∷ []) (published_one ∷ []))

abbrev pub assigned_route : ObjectStatus
assigned_route = record {
  observed = 1;
  created = [];
  ready = [];
  url = codes "http://r.default.example.com";
  traffic = published_one ∷ [];
  conditions =
      condition_of condition.AllTrafficAssigned truth.True [] [] ∷ condition_of condition.IngressReady truth.True [] [] ∷ condition_of condition.Ready truth.True [] [] ∷ [];
}

abbrev pub before : Stamp → List (List ℕ) → Option ℕ → List Object → State
before s pins active rest = configuration 6 ready_configuration ∷ revision s pins active ready_revision ∷ rest

pub pins : next controller.Route r (before (stamp 5 2) [] None (route 7 no_status ∷ health ∷ [])) ≡ Some (replacement (revision (stamp 5 2) [] None ready_revision) (Revision pod 1 (codes "r" ∷ []) (Some 0) ready_revision))
unfolding next_write route_next first_plan when given standing is_orphan listed assigned_at assigned found_of first_hindrance meant_of first_unpinned add_pin
pins = refl

pub publishes : next controller.Route r (before (stamp 8 2) (codes "r" ∷ []) (Some 0) (route 7 no_status ∷ health ∷ [])) ≡ Some (creation (table no_stamp))
unfolding next_write route_next first_plan when given standing is_orphan listed assigned_at assigned found_of first_hindrance meant_of first_unpinned add_pin published assigned_rows shares_from add_share
publishes = refl

pub reports : next controller.Route r (before (stamp 8 2) (codes "r" ∷ []) (Some 0) (route 7 no_status ∷ health ∷ table (stamp 9 9) ∷ [])) ≡ Some (replacement (route 7 no_status) (Route (target ∷ []) assigned_route))
unfolding next_write route_next first_plan when given standing is_orphan listed assigned_at assigned found_of first_hindrance meant_of first_unpinned add_pin published assigned_rows shares_from add_share same_untimed is_equal resolution resolved route_status
reports = rw (same_body-own (table (stamp 9 9)).body) refl

pub keeps : next controller.Route r (before (stamp 8 2) (codes "r" ∷ []) (Some 0) (route 10 assigned_route ∷ health ∷ table (stamp 9 9) ∷ [])) ≡ None
unfolding next_write route_next first_plan when given standing is_orphan listed assigned_at assigned found_of first_hindrance meant_of first_unpinned add_pin published assigned_rows shares_from add_share resolution resolved route_status first_spare is_spare
keeps = rw (same_body-own (table (stamp 9 9)).body, same_untimed-own assigned_route) refl
