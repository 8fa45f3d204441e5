-- Objects as JSON, by their kind.
use Rattle.std.specs.Prelude.{◌++◌, ℕ, Bool, true, false, List, [], ◌∷◌, codes, Option, Some, None, map, min, unwrap_or, if◌then◌else◌, ◌==◌}
use Rattle.std.specs.List.{flat_map}
use Rattle.std.specs.Str.{bytes_eq}
use Rattle.std.specs.Fmt.{decimal}
use Rattle.json_tree.specs.declared.value.Json.{Json, Null}
use Rattle.json_tree.specs.declared.members.Table.{Table}
use Rattle.json_tree.specs.Tree.{put_entry}
use Rattle.serve_names.specs.Moments.{last_moment, moment_bytes}
use Rattle.serve_names.specs.Uids.{uid_bytes}
use Rattle.resource_types.specs.Manifests.{api_version, kind_word}
use Rattle.resource_types.specs.declared.metadata.Owner.{Owner}
use Rattle.resource_types.specs.declared.conditions.CondName.{CondName}
use Rattle.resource_types.specs.declared.conditions.CondName.TheVariants as name
use Rattle.resource_types.specs.declared.conditions.Truth.{Truth}
use Rattle.resource_types.specs.declared.conditions.Truth.TheVariants as truth
use Rattle.resource_types.specs.declared.conditions.Condition.{Condition}
use Rattle.resource_types.specs.declared.specification.Row.{Row}
use Rattle.resource_types.specs.declared.specification.Target.{Target}
use Rattle.resource_types.specs.declared.status.ObjectStatus.{ObjectStatus}
use Rattle.resource_types.specs.declared.objects.Body.{Body}
use Rattle.resource_types.specs.declared.objects.Body.TheVariants.{Service, Configuration, Revision, Route, Health, Table as Published}
use Rattle.resource_types.specs.declared.objects.Object.{Object}
use Rattle.resource_types.specs.declared.manifests.ManifestSpec.TheVariants as spec
use Rattle.resource_codec.specs.Reading.{Member}
use Rattle.resource_codec.specs.Written.{Field, put_field, put_fields, object_of, text_field, number_field, truth_field, array_field, pod_members, target_members, spec_members, Metadata, metadata_members, document_json, Rises, IsWellRest, IsWellTemplate}

-- A moment as a text. One past the end of the year 9999, to which no clock gets, is shown as that end.
unfoldable pub shown_moment : ℕ → List ℕ
shown_moment moment = moment_bytes (min moment last_moment)

-- ---- metadata

-- an owner reference
abbrev pub owner_fields : Owner → List Field
owner_fields o = (codes "apiVersion", text_field api_version) ∷
    (codes "controller", truth_field (Some true)) ∷
    (codes "kind", text_field (kind_word o.kind)) ∷
    (codes "name", text_field o.name) ∷
    (codes "uid", text_field (uid_bytes o.uid)) ∷ []

-- the same, as members
unfoldable pub owner_members : Owner → List Member
owner_members o = put_fields (owner_fields o) []

-- the owner references, of which there is one at most
abbrev pub owners_of : Option Owner → List Json
owners_of None = []
owners_of (Some o) = object_of (owner_members o) ∷ []

-- the metadata of an object, with the labels and annotations that are shown
abbrev pub object_metadata : Object → Table (List ℕ) → Table (List ℕ) → Metadata
object_metadata o labels annotations = record {
  annotations = annotations;
  created = shown_moment o.meta.stamp.created;
  generation = Some o.meta.stamp.generation;
  labels = labels;
  name = o.key.name.name;
  namespace = o.key.name.space;
  owners = owners_of o.meta.owner;
  version = decimal o.meta.stamp.version;
  uid = uid_bytes o.meta.stamp.uid;
}

-- ---- status

-- the word of a truth
abbrev pub truth_word : Truth → List ℕ
truth_word truth.True = codes "True"
truth_word truth.False = codes "False"
truth_word truth.Unknown = codes "Unknown"

-- the word of a condition's type
abbrev pub condition_word : CondName → List ℕ
condition_word name.AllTrafficAssigned = codes "AllTrafficAssigned"
condition_word name.ConfigurationsReady = codes "ConfigurationsReady"
condition_word name.ContainerHealthy = codes "ContainerHealthy"
condition_word name.HasBeenReady = codes "HasBeenReady"
condition_word name.IngressReady = codes "IngressReady"
condition_word name.Ready = codes "Ready"
condition_word name.ResourcesAvailable = codes "ResourcesAvailable"
condition_word name.RoutesReady = codes "RoutesReady"

-- the severity of a condition, which most have none of
abbrev pub severity_word : Bool → List ℕ
severity_word true = codes "Info"
severity_word false = []

-- a condition
abbrev pub condition_fields : Condition → List Field
condition_fields c = (codes "lastTransitionTime", text_field (shown_moment c.since)) ∷
    (codes "message", text_field c.message) ∷
    (codes "reason", text_field c.reason) ∷
    (codes "severity", text_field (severity_word c.info)) ∷
    (codes "status", text_field (truth_word c.truth)) ∷
    (codes "type", text_field (condition_word c.name)) ∷ []

-- the same, as members
unfoldable pub condition_members : Condition → List Member
condition_members c = put_fields (condition_fields c) []

-- the same, as an object
abbrev pub condition_json : Condition → Json
condition_json c = object_of (condition_members c)

-- a published target: a target with its address
unfoldable pub published_members : Target → List Member
published_members t = put_field (codes "url") (text_field t.url) (target_members t)

-- the same, as an object
abbrev pub published_json : Target → Json
published_json t = object_of (published_members t)

-- the generation that a status was found for, if any
abbrev pub observed_generation : ℕ → Option ℕ
observed_generation n = if n == 0 then None else Some n

-- a status
abbrev pub status_fields : ObjectStatus → List Field
status_fields s = (codes "conditions", array_field (map condition_json s.conditions)) ∷
    (codes "latestCreatedRevisionName", text_field s.created) ∷
    (codes "latestReadyRevisionName", text_field s.ready) ∷
    (codes "observedGeneration", number_field (observed_generation s.observed)) ∷
    (codes "traffic", array_field (map published_json s.traffic)) ∷
    (codes "url", text_field s.url) ∷ []

-- the same, as members
unfoldable pub status_members : ObjectStatus → List Member
status_members s = put_fields (status_fields s) []

-- the same, as an object
abbrev pub status_json : ObjectStatus → Json
status_json s = object_of (status_members s)

-- ---- Revisions

-- a name after a comma
abbrev pub with_comma : List ℕ → List ℕ
with_comma name = 44 ∷ name

-- names joined by commas
abbrev pub joined : List (List ℕ) → List ℕ
joined [] = []
joined (p ∷ ps) = p ++ flat_map with_comma ps

-- whether a Revision has pins, as its label says it
abbrev pub routing_state : List (List ℕ) → List ℕ
routing_state [] = codes "reserve"
routing_state (p ∷ ps) = codes "active"

-- the labels that are shown of a Revision: its own, with its routing state
unfoldable pub shown_labels : List (List ℕ) → Table (List ℕ) → Table (List ℕ)
shown_labels pins t = record { entries = put_entry (codes "serving.knative.dev/routingState") (routing_state pins) t.entries }

-- the annotations with the names of the pins, if there are any
abbrev pub with_routes : List (List ℕ) → List (List ℕ × List ℕ) → List (List ℕ × List ℕ)
with_routes [] es = es
with_routes (p ∷ ps) es = put_entry (codes "serving.knative.dev/routes") (joined (p ∷ ps)) es

-- the annotations that are shown of a Revision: its own, with its pins and the moment from which they are some or none
unfoldable pub shown_annotations : List (List ℕ) → ℕ → Table (List ℕ) → Table (List ℕ)
shown_annotations pins modified t = record { entries = with_routes pins (put_entry (codes "serving.knative.dev/routingStateModified") (shown_moment modified) t.entries) }

-- ---- Tables

-- a row of a Table
abbrev pub row_fields : Row → List Field
row_fields r = (codes "host", text_field r.host) ∷
    (codes "percent", number_field (Some r.percent)) ∷
    (codes "revisionName", text_field r.revision) ∷
    (codes "revisionUid", text_field (uid_bytes r.uid)) ∷
    (codes "tag", text_field r.tag) ∷ []

-- the same, as members
unfoldable pub row_members : Row → List Member
row_members r = put_fields (row_fields r) []

-- the same, as an object
abbrev pub row_json : Row → Json
row_json r = object_of (row_members r)

-- a namespace where it is not `default`
abbrev pub other_namespace : List ℕ → List ℕ
other_namespace space = if bytes_eq space (codes "default") then [] else space

-- a Table
abbrev pub table_fields : Object → ℕ → List Row → List Target → List Field
table_fields o route rows targets = (codes "kind", text_field (codes "Table")) ∷
    (codes "name", text_field o.key.name.name) ∷
    (codes "namespace", text_field (other_namespace o.key.name.space)) ∷
    (codes "resourceVersion", text_field (decimal o.meta.stamp.version)) ∷
    (codes "routeUid", text_field (uid_bytes route)) ∷
    (codes "rows", array_field (map row_json rows)) ∷
    (codes "targets", array_field (map published_json targets)) ∷ []

-- the same, as members
unfoldable pub table_members : Object → ℕ → List Row → List Target → List Member
table_members o route rows targets = put_fields (table_fields o route rows targets) []

-- the same, as an object
abbrev pub table_json : Object → ℕ → List Row → List Target → Json
table_json o route rows targets = object_of (table_members o route rows targets)

-- ---- objects

-- an object of a kind that has a spec and a status
abbrev pub object_document : Object → Table (List ℕ) → Table (List ℕ) → List Member → ObjectStatus → Json
object_document o labels annotations spec status = document_json (record {
  api = api_version;
  kind = kind_word o.key.kind;
  metadata = metadata_members (object_metadata o labels annotations);
  spec = spec;
  status = Some (status_json status);
})

-- an object with a body; a Health is not shown, so it is null
abbrev pub body_json : Object → Body → Json
body_json o (Service template traffic status) = object_document o o.meta.labels o.meta.annotations (spec_members (spec.Service template traffic)) status
body_json o (Configuration template status) = object_document o o.meta.labels o.meta.annotations (spec_members (spec.Configuration template)) status
body_json o (Revision pod generation pins active status) =
    object_document o (shown_labels pins o.meta.labels) (shown_annotations pins (unwrap_or active o.meta.stamp.created) o.meta.annotations) (pod_members pod) status
body_json o (Route traffic status) = object_document o o.meta.labels o.meta.annotations (spec_members (spec.Route traffic)) status
body_json o (Health uid resources container ever) = Null
body_json o (Published route rows targets) = table_json o route rows targets

-- an object
abbrev pub encoded : Object → Json
encoded o = body_json o o.body

-- a body that clients write
abbrev pub IsClientBody : Body → Type 0
IsClientBody (Service template traffic status) = Unit {0}
IsClientBody (Configuration template status) = Unit {0}
IsClientBody (Revision pod generation pins active status) = ⊥
IsClientBody (Route traffic status) = Unit {0}
IsClientBody (Health uid resources container ever) = ⊥
IsClientBody (Published route rows targets) = ⊥

-- the template or the pod spec of a body is well formed, if it has one
abbrev pub IsWellBody : Body → Type 0
IsWellBody (Service template traffic status) = IsWellTemplate template
IsWellBody (Configuration template status) = IsWellTemplate template
IsWellBody (Revision pod generation pins active status) = IsWellRest pod
IsWellBody (Route traffic status) = Unit {0}
IsWellBody (Health uid resources container ever) = Unit {0}
IsWellBody (Published route rows targets) = Unit {0}

-- an object whose names of labels and annotations rise, with a well-formed rest, if it has one
pub record IsWellObject (o : Object) : Type 0 where
  pub labels : Rises o.meta.labels
  pub annotations : Rises o.meta.annotations
  pub body : IsWellBody o.body
