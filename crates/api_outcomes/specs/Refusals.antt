-- What a refused request is told.
use Rattle.std.specs.Prelude.{ℕ, List, ◌++◌, codes, decimal}
use Rattle.resource_types.specs.declared.names.Kind.{Kind}
use Rattle.resource_types.specs.declared.names.Kind.TheVariants as kind
use Rattle.manifest_intake.specs.Refusals as manifest
use Rattle.api_outcomes.specs.declared.refusal.Refusal.{Refusal}
use Rattle.api_outcomes.specs.declared.refusal.Refusal.TheVariants.{NoSuchPath, Manifest, VersionMissing, AlreadyExists, NotFound, Conflict, KeptName, InUse, BeyondNewest}

-- the objects of a kind, as messages call them
abbrev pub plural_of : Kind → List ℕ
plural_of kind.Service = codes "services"
plural_of kind.Configuration = codes "configurations"
plural_of kind.Revision = codes "revisions"
plural_of kind.Route = codes "routes"
plural_of kind.Health = codes "health"
plural_of kind.Table = codes "tables"

-- the code of the reply
abbrev pub code_of : Refusal → ℕ
code_of NoSuchPath = 404
code_of (Manifest refusal) = manifest.code_of refusal
code_of VersionMissing = 422
code_of (AlreadyExists kind name) = 409
code_of (NotFound kind name) = 404
code_of (Conflict kind name version) = 409
code_of KeptName = 422
code_of (InUse name) = 409
code_of (BeyondNewest after newest) = 400

-- the reason in one word
abbrev pub reason_of : Refusal → List ℕ
reason_of NoSuchPath = codes "NotFound"
reason_of (Manifest refusal) = manifest.reason_of refusal
reason_of VersionMissing = codes "Invalid"
reason_of (AlreadyExists kind name) = codes "AlreadyExists"
reason_of (NotFound kind name) = codes "NotFound"
reason_of (Conflict kind name version) = codes "Conflict"
reason_of KeptName = codes "Invalid"
reason_of (InUse name) = codes "InUse"
reason_of (BeyondNewest after newest) = codes "BadRequest"

-- the object of a kind and a name, and what is said of it
abbrev pub object_message : Kind → List ℕ → List ℕ → List ℕ
object_message kind name says = plural_of kind ++ codes " \"" ++ name ++ codes "\" " ++ says

-- that an object has this version
abbrev pub version_says : ℕ → List ℕ
version_says version = codes "has version " ++ decimal version

-- that a poll goes on from beyond the newest version
abbrev pub beyond_message : ℕ → ℕ → List ℕ
beyond_message after newest = codes "resourceVersion " ++ decimal after ++ codes " is beyond " ++ decimal newest

-- the message for a reader
abbrev pub message_of : Refusal → List ℕ
message_of NoSuchPath = codes "no such path"
message_of (Manifest refusal) = manifest.message_of refusal
message_of VersionMissing = codes "metadata.resourceVersion: must be given"
message_of (AlreadyExists kind name) = object_message kind name (codes "already exists")
message_of (NotFound kind name) = object_message kind name (codes "not found")
message_of (Conflict kind name version) = object_message kind name (version_says version)
message_of KeptName = codes "spec.template.metadata.name: the template changed under a kept name"
message_of (InUse name) = object_message kind.Revision name (codes "is in use")
message_of (BeyondNewest after newest) = beyond_message after newest
