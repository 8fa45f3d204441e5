-- The manifest that a body gives, with its defaults, or the first reason to refuse it.
use Rattle.std.specs.Prelude.{◌≡◌, ◌||◌, ℕ, Bool, true, List, codes, Option, Some, None, Result, Ok, Err, if◌then◌else◌}
use Rattle.std.specs.Str.{bytes_eq}
use Rattle.answers.specs.declared.stop.Stop.{Stop}
use Rattle.answers.specs.declared.stop.Stop.TheVariants.{Refused, Memory}
use Rattle.answers.specs.Answers.{requires_that}
use Rattle.json_tree.specs.declared.value.Json.{Json}
use Rattle.json_tree.specs.declared.value.Json.TheViews.{out-Json}
use Rattle.serve_names.specs.Labels.{is_label_of}
use Rattle.resource_types.specs.Manifests.{api_version, kind_text}
use Rattle.resource_types.specs.declared.names.ClientKind.{ClientKind}
use Rattle.resource_types.specs.declared.names.ClientKind.TheVariants as kind
use Rattle.resource_types.specs.declared.manifests.Manifest.{Manifest}
use Rattle.resource_codec.specs.declared.fields.Field.{Field}
use Rattle.resource_codec.specs.declared.fields.Field.TheVariants as field
use Rattle.resource_codec.specs.Reading.{◌>>=◌, object, text, under}
use Rattle.resource_codec.specs.Shape.{shape}
use Rattle.resource_codec.specs.Written.{kind_of}
use Rattle.resource_codec.specs.Sound.{RestOfSpecFits, ManifestRises}
use Rattle.validation.specs.Defaults.{is_empty, defaults_of}
use Rattle.validation.specs.Rules.{Verdict, first_fault, rules_of}
use Rattle.manifest_intake.specs.declared.refusal.Part.TheVariants as part
use Rattle.manifest_intake.specs.declared.refusal.ManifestRefusal.{ManifestRefusal}
use Rattle.manifest_intake.specs.declared.refusal.ManifestRefusal.TheVariants.{UnreadableBody, WrongShape, Mismatch, VersionGiven, Broken}
use Rattle.manifest_intake.specs.Bodies.{IsBody}

-- what a manifest is for: to make an object in a namespace, to take the place of the one of that namespace and name, or to be checked alone
pub data Purpose : Type 0 where
  create : List ℕ → Purpose
  replace : List ℕ → List ℕ → Purpose
  checking : Purpose

-- the namespace, where it is given, is that of the path; a manifest that is checked alone may name any
abbrev pub fits_namespace : Purpose → List ℕ → Bool
fits_namespace (create space) given = is_empty given || bytes_eq given space
fits_namespace (replace space name) given = is_empty given || bytes_eq given space
fits_namespace checking given = is_empty given || is_label_of given 63

-- what replaces an object has its name
abbrev pub fits_name : Purpose → List ℕ → Bool
fits_name (replace space name) given = bytes_eq given name
fits_name other given = true

-- only what replaces an object may give a version
abbrev pub fits_version : Purpose → List ℕ → Bool
fits_version (replace space name) given = true
fits_version other given = is_empty given

-- what is of its shape, or that it isn't
abbrev pub shaped : {A : Type 0} → Result A Field → Result A ManifestRefusal
shaped (Ok x) = Ok x
shaped (Err field) = Err (WrongShape field)

abbrev pub ruled : Verdict → Result (Unit {0}) ManifestRefusal
ruled (Ok kept) = Ok tt
ruled (Err invalid) = Err (Broken invalid)

-- what a manifest must match: the API, the kind, and where it is sent
unfoldable pub matched : Purpose → ClientKind → Manifest → Result (Unit {0}) ManifestRefusal
matched purpose kind m = do
  api ← requires_that (bytes_eq m.api api_version) (Mismatch part.ApiVersion)
  word ← requires_that (bytes_eq m.kind (kind_text kind)) (Mismatch part.Kind)
  namespace ← requires_that (fits_namespace purpose m.namespace) (Mismatch part.Namespace)
  name ← requires_that (fits_name purpose m.name) (Mismatch part.Name)
  requires_that (fits_version purpose m.version) VersionGiven

-- the manifest of a kind that a value gives, with its defaults, or why it is refused: its shape, what it must match, its rules
unfoldable pub accepted : Purpose → ClientKind → Json → Result Manifest ManifestRefusal
accepted purpose kind json = do
  m ← shaped (shape kind json)
  matches ← matched purpose kind m
  kept ← ruled (first_fault (rules_of (defaults_of m)))
  Ok (defaults_of m)

-- ---- a manifest that is checked alone: it says its kind itself

-- the kind that a word names
abbrev pub kind_named : List ℕ → Option ClientKind
kind_named word =
    if bytes_eq word (codes "Service") then Some kind.Service
    else if bytes_eq word (codes "Configuration") then Some kind.Configuration
    else if bytes_eq word (codes "Route") then Some kind.Route
    else None

abbrev pub one_of_three : Option ClientKind → Result ClientKind ManifestRefusal
one_of_three None = Err (Mismatch part.Kind)
one_of_three (Some kind) = Ok kind

-- the kind that an object says by itself: its `apiVersion` and its `kind` are texts, and this is one of the three
unfoldable pub kind_said : Json → Result ClientKind ManifestRefusal
kind_said json = do
  body ← shaped (object field.Body (out-Json json))
  api ← shaped (text field.ApiVersion (under (codes "apiVersion") body))
  word ← shaped (text field.Kind (under (codes "kind") body))
  one_of_three (kind_named word)

-- the manifest that a value gives by itself, or why it is refused: its kind comes first, and all else is as where an object is made
unfoldable pub checked : Json → Result Manifest ManifestRefusal
checked json = do
  kind ← kind_said json
  accepted checking kind json

-- the same of a body
abbrev pub checked_body : Option Json → Result Manifest ManifestRefusal
checked_body None = Err UnreadableBody
checked_body (Some json) = checked json

-- ---- answers

-- what is due to the bytes of a body that is checked alone; that a call is out of memory is free
abbrev pub Checks : List ℕ → Result Manifest (Stop ManifestRefusal) → Type 0
Checks bytes (Ok manifest) = (body : Option Json) × IsBody bytes body × (checked_body body ≡ Ok manifest)
Checks bytes (Err (Refused refusal)) = (body : Option Json) × IsBody bytes body × (checked_body body ≡ Err refusal)
Checks bytes (Err Memory) = Unit {0}

-- the spec is of the kind, the rest of a pod spec is well formed and three levels less deep than a value of this depth, and the names of
-- labels and annotations rise
pub record IsSound (wanted : ClientKind) (depth : ℕ) (m : Manifest) : Type 0 where
  pub kind : kind_of m.spec ≡ wanted
  pub rest : RestOfSpecFits 3 depth m.spec
  pub rise : ManifestRises m
