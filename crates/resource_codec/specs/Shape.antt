-- The shape of a manifest, field by field in the order of examination: the manifest that a value is, or the first field that is wrong.
use Rattle.std.specs.Prelude.{ℕ, suc, List, [], ◌∷◌, codes, Result, Ok}
use Rattle.json_tree.specs.declared.value.Json.{Json}
use Rattle.json_tree.specs.declared.value.Json.TheViews.{out-Json}
use Rattle.resource_types.specs.declared.names.ClientKind.{ClientKind}
use Rattle.resource_types.specs.declared.names.ClientKind.TheVariants as kind
use Rattle.resource_types.specs.declared.specification.Template.{Template}
use Rattle.resource_types.specs.declared.specification.Target.{Target}
use Rattle.resource_types.specs.declared.manifests.Manifest.{Manifest}
use Rattle.resource_types.specs.declared.manifests.ManifestSpec.{ManifestSpec}
use Rattle.resource_types.specs.declared.manifests.ManifestSpec.TheVariants as spec
use Rattle.resource_codec.specs.declared.fields.Field.{Field}
use Rattle.resource_codec.specs.declared.fields.Field.TheVariants as field
use Rattle.resource_codec.specs.declared.fields.TargetField.TheVariants as part
use Rattle.resource_codec.specs.declared.fields.DecodeError.{DecodeError}
use Rattle.resource_codec.specs.Reading.{◌>>=◌, Gives, Member, under, object, text, optional_object, optional_text, optional_number, optional_truth, optional_array, optional_texts, rest_of}

-- a template of a Service or a Configuration
unfoldable pub template_in : List Member → Result Template Field
template_in members = do
  template ← object field.Template (under (codes "template") members)
  metadata ← optional_object field.TemplateMetadata (under (codes "metadata") template)
  name ← optional_text field.TemplateName (under (codes "name") metadata)
  labels ← optional_texts field.TemplateLabels (under (codes "labels") metadata)
  annotations ← optional_texts field.TemplateAnnotations (under (codes "annotations") metadata)
  pod ← object field.TemplateSpec (under (codes "spec") template)
  concurrency ← optional_number field.Concurrency (under (codes "containerConcurrency") pod)
  timeout ← optional_number field.Timeout (under (codes "timeoutSeconds") pod)
  Ok (record { name = name; labels = labels; annotations = annotations; spec = record { concurrency = concurrency; timeout = timeout; rest = rest_of pod } })

-- the target of number i
unfoldable pub target_in : ℕ → Json → Result Target Field
target_in i json = do
  target ← object (field.Target i part.Whole) (out-Json json)
  configuration ← optional_text (field.Target i part.ConfigurationName) (under (codes "configurationName") target)
  latest ← optional_truth (field.Target i part.LatestRevision) (under (codes "latestRevision") target)
  percent ← optional_number (field.Target i part.Percent) (under (codes "percent") target)
  revision ← optional_text (field.Target i part.RevisionName) (under (codes "revisionName") target)
  tag ← optional_text (field.Target i part.Tag) (under (codes "tag") target)
  Ok (record { configuration = configuration; revision = revision; latest = latest; percent = percent; tag = tag; url = [] })

-- the targets from number i on
unfoldable pub targets_in : ℕ → List Json → Result (List Target) Field
targets_in i [] = Ok []
targets_in i (json ∷ jsons) = do
  target ← target_in i json
  targets ← targets_in (suc i) jsons
  Ok (target ∷ targets)

-- the targets of a Service or a Route
unfoldable pub traffic_in : List Member → Result (List Target) Field
traffic_in members = do
  jsons ← optional_array field.Traffic (under (codes "traffic") members)
  targets_in 0 jsons

-- the spec of each kind
unfoldable pub spec_in : ClientKind → List Member → Result ManifestSpec Field
spec_in kind.Service members = do
  template ← template_in members
  traffic ← traffic_in members
  Ok (spec.Service template traffic)
spec_in kind.Configuration members = do
  template ← template_in members
  Ok (spec.Configuration template)
spec_in kind.Route members = do
  traffic ← traffic_in members
  Ok (spec.Route traffic)

-- a manifest
unfoldable pub shape : ClientKind → Json → Result Manifest Field
shape kind json = do
  body ← object field.Body (out-Json json)
  api ← text field.ApiVersion (under (codes "apiVersion") body)
  kind_name ← text field.Kind (under (codes "kind") body)
  metadata ← object field.Metadata (under (codes "metadata") body)
  name ← text field.Name (under (codes "name") metadata)
  namespace ← optional_text field.Namespace (under (codes "namespace") metadata)
  version ← optional_text field.ResourceVersion (under (codes "resourceVersion") metadata)
  labels ← optional_texts field.Labels (under (codes "labels") metadata)
  annotations ← optional_texts field.Annotations (under (codes "annotations") metadata)
  members ← object field.Spec (under (codes "spec") body)
  spec ← spec_in kind members
  Ok (record { api = api; kind = kind_name; name = name; namespace = namespace; version = version; labels = labels; annotations = annotations; spec = spec })

-- what `decode` answers: the manifest, or the first field that is wrong
abbrev pub Decodes : Result Manifest DecodeError → Result Manifest Field → Type 0
Decodes answer read = Gives (λ m. m) answer read
