-- Manifests of objects.
use Rattle.std.specs.Prelude.{ℕ, List, [], codes, Option, Some, None}
use Rattle.std.specs.Fmt.{decimal}
use Rattle.resource_types.specs.declared.names.Kind.{Kind}
use Rattle.resource_types.specs.declared.names.Kind.TheVariants as kind
use Rattle.resource_types.specs.declared.names.ClientKind.{ClientKind}
use Rattle.resource_types.specs.declared.names.ClientKind.TheVariants as client
use Rattle.resource_types.specs.declared.objects.Body.{Body}
use Rattle.resource_types.specs.declared.objects.Body.TheVariants.{Service, Configuration, Revision, Route, Health, Table}
use Rattle.resource_types.specs.declared.objects.Object.{Object}
use Rattle.resource_types.specs.declared.manifests.Manifest.{Manifest}
use Rattle.resource_types.specs.declared.manifests.ManifestSpec.{ManifestSpec}
use Rattle.resource_types.specs.declared.manifests.ManifestSpec.TheVariants as manifest
use Rattle.resource_types.specs.Spec.{no_stamp, stamped}

-- the API's group and version
abbrev pub api_version : List ℕ
api_version = codes "serving.knative.dev/v1"

-- the word of a kind
abbrev pub kind_word : Kind → List ℕ
kind_word kind.Service = codes "Service"
kind_word kind.Configuration = codes "Configuration"
kind_word kind.Revision = codes "Revision"
kind_word kind.Route = codes "Route"
kind_word kind.Health = codes "Health"
kind_word kind.Table = codes "Table"

-- the kind of objects that clients write
abbrev pub object_kind : ClientKind → Kind
object_kind client.Service = kind.Service
object_kind client.Configuration = kind.Configuration
object_kind client.Route = kind.Route

-- the kind of objects as one that clients write
abbrev pub client_kind : Kind → Option ClientKind
client_kind kind.Service = Some client.Service
client_kind kind.Configuration = Some client.Configuration
client_kind kind.Route = Some client.Route
client_kind other = None

-- the word of a kind that clients write
abbrev pub kind_text : ClientKind → List ℕ
kind_text client.Service = codes "Service"
kind_text client.Configuration = codes "Configuration"
kind_text client.Route = codes "Route"

-- what a client would write as the spec of the object; no targets of a kind that clients do not write
abbrev pub manifest_spec : Body → ManifestSpec
manifest_spec (Service template traffic status) = manifest.Service template traffic
manifest_spec (Configuration template status) = manifest.Configuration template
manifest_spec (Revision spec generation pins active status) = manifest.Route []
manifest_spec (Route traffic status) = manifest.Route traffic
manifest_spec (Health uid resources container ever) = manifest.Route []
manifest_spec (Table route rows targets) = manifest.Route []

-- what a client would write of the object as it stands
abbrev pub manifest_of : Object → Manifest
manifest_of object = record {
  api = api_version;
  kind = kind_word object.key.kind;
  name = object.key.name.name;
  namespace = object.key.name.space;
  version = decimal object.meta.stamp.version;
  labels = object.meta.labels;
  annotations = object.meta.annotations;
  spec = manifest_spec object.body;
}

-- what a client asks for by the object, whatever its version
abbrev pub asked_of : Object → Manifest
asked_of o = manifest_of (stamped o no_stamp)
