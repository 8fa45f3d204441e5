-- What a call asks for and must agree with: the manifest that a body gives, and what stands.
use Rattle.std.specs.Prelude.{◌≡◌, ℕ, Bool, true, List, Option, Some, None, Result, Ok, Err}
use Rattle.std.specs.Fmt.{decimal}
use Rattle.std.specs.Str.{bytes_eq}
use Rattle.json_tree.specs.declared.value.Json.{Json}
use Rattle.resource_types.specs.declared.names.Kind.{Kind}
use Rattle.resource_types.specs.declared.names.ClientKind.{ClientKind}
use Rattle.resource_types.specs.declared.objects.Object.{Object}
use Rattle.resource_types.specs.declared.manifests.Manifest.{Manifest}
use Rattle.resource_types.specs.Objects.{is_of_client}
use Rattle.resource_codec.specs.Storable.{IsStorable}
use Rattle.validation.specs.declared.change.KeptName.{KeptName}
use Rattle.manifest_intake.specs.declared.refusal.ManifestRefusal.{ManifestRefusal}
use Rattle.manifest_intake.specs.Intake.{Purpose, accepted}
use Rattle.api_outcomes.specs.declared.refusal.Refusal.{Refusal}
use Rattle.api_outcomes.specs.declared.refusal.Refusal.TheVariants.{Manifest as OfManifest, AlreadyExists, NotFound, Conflict, KeptName as UnderKeptName}

-- ---- the manifest

-- a manifest that is accepted, or why it is refused
abbrev pub manifest_or_refusal : Result Manifest ManifestRefusal → Result Manifest Refusal
manifest_or_refusal (Ok m) = Ok m
manifest_or_refusal (Err refusal) = Err (OfManifest refusal)

-- the manifest that the value of a body gives, for a purpose
abbrev pub manifest_in : Purpose → ClientKind → Json → Result Manifest Refusal
manifest_in purpose kind json = manifest_or_refusal (accepted purpose kind json)

-- ---- what stands

-- what is found under the name, or that there is none
abbrev pub there : Kind → List ℕ → Option Object → Result Object Refusal
there kind name None = Err (NotFound kind name)
there kind name (Some o) = Ok o

-- go on where nothing is found under the name
abbrev pub not_there : Kind → List ℕ → Option Object → Result (Unit {0}) Refusal
not_there kind name None = Ok tt
not_there kind name (Some o) = Err (AlreadyExists kind name)

-- an object that clients write, as the document of which a patch changes
pub record IsPatchable (o : Object) : Type 0 where
  pub storable : IsStorable o
  pub client : is_of_client o ≡ true

-- ---- what a manifest must agree with

-- the version of an object as a text
abbrev pub version_text : Object → List ℕ
version_text o = decimal o.meta.stamp.version

-- a version that is given is that of the object
abbrev pub is_version_of : Object → List ℕ → Bool
is_version_of o given = bytes_eq given (version_text o)

-- another version stands
abbrev pub conflict : Kind → Object → Refusal
conflict kind o = Conflict kind o.key.name.name o.meta.stamp.version

-- go on where no template changes under its name
abbrev pub changed_well : Result (Unit {0}) KeptName → Result (Unit {0}) Refusal
changed_well (Ok kept) = Ok tt
changed_well (Err fault) = Err UnderKeptName
