-- Manifests as JSON: the fields of each part, each put at its place in the order of names.
use Rattle.std.specs.Prelude.{◌++◌, ◌≡◌, ◌≤◌, ◌≢◌, ℕ, Bool, true, List, [], ◌∷◌, codes, Option, Some, None, map, option_map}
use Rattle.std.specs.List.{list_all}
use Rattle.json_tree.specs.declared.value.Json.{Json, Bool as truth_of, Nat, Str, Arr, Obj}
use Rattle.json_tree.specs.declared.members.Table.{Table}
use Rattle.json_tree.specs.Tree.{put_entry, names_of, names_rise, is_well_formed, depth_of}
use Rattle.resource_types.specs.declared.names.ClientKind.{ClientKind}
use Rattle.resource_types.specs.declared.names.ClientKind.TheVariants as kind
use Rattle.resource_types.specs.declared.specification.PodSpec.{PodSpec}
use Rattle.resource_types.specs.declared.specification.Template.{Template}
use Rattle.resource_types.specs.declared.specification.Target.{Target}
use Rattle.resource_types.specs.declared.manifests.Manifest.{Manifest}
use Rattle.resource_types.specs.declared.manifests.ManifestSpec.{ManifestSpec}
use Rattle.resource_types.specs.declared.manifests.ManifestSpec.TheVariants as spec
use Rattle.resource_types.specs.Manifests.{kind_text}
use Rattle.resource_codec.specs.Reading.{Member, is_rest}

-- a name, and what stands there if anything does
abbrev pub Field : Type 0
Field = List ℕ × Option Json

-- the members with the value, if there is one, under the name
unfoldable pub put_field : List ℕ → Option Json → List Member → List Member
put_field name None members = members
put_field name (Some json) members = put_entry name json members

-- the members with the value, if there is one, under the name behind all others
unfoldable pub add_field : List ℕ → Option Json → List Member → List Member
add_field name None members = members
add_field name (Some json) members = members ++ (name, json) ∷ []

-- the fields, each put at its place in the order of names
abbrev pub put_fields : List Field → List Member → List Member
put_fields [] members = members
put_fields (f ∷ fs) members = put_fields fs (put_field f.0 f.1 members)

-- the object of the members
abbrev pub object_of : List Member → Json
object_of members = Obj (record { entries = members })

-- What is empty is left out.
-- a text
unfoldable pub text_field : List ℕ → Option Json
text_field [] = None
text_field (b ∷ bs) = Some (Str (b ∷ bs))

-- an object
unfoldable pub object_field : List Member → Option Json
object_field [] = None
object_field (m ∷ ms) = Some (object_of (m ∷ ms))

-- an array
unfoldable pub array_field : List Json → Option Json
array_field [] = None
array_field (j ∷ js) = Some (Arr (j ∷ js))

-- a number
unfoldable pub number_field : Option ℕ → Option Json
number_field n = option_map Nat n

-- true or false
unfoldable pub truth_field : Option Bool → Option Json
truth_field b = option_map truth_of b

-- a text under its name, which may be empty
abbrev pub text_member : List ℕ × List ℕ → Member
text_member e = (e.0, Str e.1)

-- an object of texts, whose texts stand as they are
unfoldable pub texts_field : Table (List ℕ) → Option Json
texts_field t = object_field (map text_member t.entries)

-- the two numbers of a pod spec
abbrev pub pod_fields : PodSpec → List Field
pod_fields s = (codes "containerConcurrency", number_field s.concurrency) ∷
    (codes "timeoutSeconds", number_field s.timeout) ∷ []

-- a pod spec: its numbers among the members that are kept as they were given
unfoldable pub pod_members : PodSpec → List Member
pod_members s = put_fields (pod_fields s) s.rest.entries

-- a template's metadata
abbrev pub template_metadata_fields : Template → List Field
template_metadata_fields t = (codes "annotations", texts_field t.annotations) ∷
    (codes "labels", texts_field t.labels) ∷
    (codes "name", text_field t.name) ∷ []

-- the same, as members
unfoldable pub template_metadata : Template → List Member
template_metadata t = put_fields (template_metadata_fields t) []

-- a template: its metadata where it is not empty, and its pod spec
abbrev pub template_fields : Template → List Field
template_fields t = (codes "metadata", object_field (template_metadata t)) ∷
    (codes "spec", Some (object_of (pod_members t.spec))) ∷ []

-- the same, as members
unfoldable pub template_members : Template → List Member
template_members t = put_fields (template_fields t) []

-- a target of a spec; its address is not written there
abbrev pub target_fields : Target → List Field
target_fields t = (codes "configurationName", text_field t.configuration) ∷
    (codes "latestRevision", truth_field t.latest) ∷
    (codes "percent", number_field t.percent) ∷
    (codes "revisionName", text_field t.revision) ∷
    (codes "tag", text_field t.tag) ∷ []

-- the same, as members
unfoldable pub target_members : Target → List Member
target_members t = put_fields (target_fields t) []

-- the same, as an object
abbrev pub target_json : Target → Json
target_json t = object_of (target_members t)

-- the spec of each kind
abbrev pub spec_fields : ManifestSpec → List Field
spec_fields (spec.Service template traffic) =
    (codes "template", Some (object_of (template_members template))) ∷
    (codes "traffic", array_field (map target_json traffic)) ∷ []
spec_fields (spec.Configuration template) = (codes "template", Some (object_of (template_members template))) ∷ []
spec_fields (spec.Route traffic) = (codes "traffic", array_field (map target_json traffic)) ∷ []

-- the same, as members
unfoldable pub spec_members : ManifestSpec → List Member
spec_members s = put_fields (spec_fields s) []

-- what `metadata` says; an empty text and nothing are left out
pub record Metadata : Type 0 where
  pub annotations : Table (List ℕ)
  pub created : List ℕ
  pub generation : Option ℕ
  pub labels : Table (List ℕ)
  pub name : List ℕ
  pub namespace : List ℕ
  pub owners : List Json
  pub version : List ℕ
  pub uid : List ℕ

-- the fields of `metadata`
abbrev pub metadata_fields : Metadata → List Field
metadata_fields h = (codes "annotations", texts_field h.annotations) ∷
    (codes "creationTimestamp", text_field h.created) ∷
    (codes "generation", number_field h.generation) ∷
    (codes "labels", texts_field h.labels) ∷
    (codes "name", text_field h.name) ∷
    (codes "namespace", text_field h.namespace) ∷
    (codes "ownerReferences", array_field h.owners) ∷
    (codes "resourceVersion", text_field h.version) ∷
    (codes "uid", text_field h.uid) ∷ []

-- the same, as members
unfoldable pub metadata_members : Metadata → List Member
metadata_members h = put_fields (metadata_fields h) []

-- what a document of any kind says
pub record Document : Type 0 where
  pub api : List ℕ
  pub kind : List ℕ
  pub metadata : List Member
  pub spec : List Member
  pub status : Option Json

-- the fields of a document: `spec` stands even where it is empty
abbrev pub document_fields : Document → List Field
document_fields d = (codes "apiVersion", text_field d.api) ∷
    (codes "kind", text_field d.kind) ∷
    (codes "metadata", object_field d.metadata) ∷
    (codes "spec", Some (object_of d.spec)) ∷
    (codes "status", d.status) ∷ []

-- the same, as members
unfoldable pub document_members : Document → List Member
document_members d = put_fields (document_fields d) []

-- the document as JSON
abbrev pub document_json : Document → Json
document_json d = object_of (document_members d)

-- a manifest says what a client gives: no creation, generation, owner, uid or status
abbrev pub manifest_metadata : Manifest → Metadata
manifest_metadata m = record {
  annotations = m.annotations;
  created = [];
  generation = None;
  labels = m.labels;
  name = m.name;
  namespace = m.namespace;
  owners = [];
  version = m.version;
  uid = [];
}

-- a manifest as a document, without status
abbrev pub manifest_document : Manifest → Document
manifest_document m = record { api = m.api; kind = m.kind; metadata = metadata_members (manifest_metadata m); spec = spec_members m.spec; status = None }

-- the written form of a manifest
abbrev pub written : Manifest → Json
written m = document_json (manifest_document m)

-- ---- what is read again as it was

-- the kind of a spec
abbrev pub kind_of : ManifestSpec → ClientKind
kind_of (spec.Service template traffic) = kind.Service
kind_of (spec.Configuration template) = kind.Configuration
kind_of (spec.Route traffic) = kind.Route

-- no target has an address
abbrev pub HasNoUrls : List Target → Type 0
HasNoUrls [] = Unit {0}
HasNoUrls (t ∷ ts) = (t.url ≡ []) × HasNoUrls ts

-- the rest of a pod spec has no null, and none of the two numbers
abbrev pub HasPlainRest : Template → Type 0
HasPlainRest t = list_all is_rest t.spec.rest.entries ≡ true

-- the parts of a spec are as reading gives them
abbrev pub IsPlain : ManifestSpec → Type 0
IsPlain (spec.Service template traffic) = HasPlainRest template × HasNoUrls traffic
IsPlain (spec.Configuration template) = HasPlainRest template
IsPlain (spec.Route traffic) = HasNoUrls traffic

-- a manifest that is read again as it was
pub record IsRegular (m : Manifest) : Type 0 where
  pub api : m.api ≢ []
  pub name : m.name ≢ []
  pub kind : m.kind ≡ kind_text (kind_of m.spec)
  pub plain : IsPlain m.spec

-- ---- what is written well

-- the names rise strictly
abbrev pub Rises : Table (List ℕ) → Type 0
Rises t = names_rise (names_of t.entries) ≡ true

-- the rest of a pod spec is well formed, and not too deep
pub record IsWellRest (s : PodSpec) : Type 0 where
  pub well : is_well_formed (object_of s.rest.entries) ≡ true
  pub deep : depth_of (object_of s.rest.entries) ≤ 32

-- the same of a template, whose names rise
pub record IsWellTemplate (t : Template) : Type 0 where
  pub labels : Rises t.labels
  pub annotations : Rises t.annotations
  pub rest : IsWellRest t.spec

-- the same of a spec's template, if it has one
abbrev pub IsWellSpec : ManifestSpec → Type 0
IsWellSpec (spec.Service template traffic) = IsWellTemplate template
IsWellSpec (spec.Configuration template) = IsWellTemplate template
IsWellSpec (spec.Route traffic) = Unit {0}

-- a manifest whose names rise, with a well-formed rest
pub record IsWell (m : Manifest) : Type 0 where
  pub labels : Rises m.labels
  pub annotations : Rises m.annotations
  pub spec : IsWellSpec m.spec
