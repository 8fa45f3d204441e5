-- Defaults of a manifest, and what it means that they change nothing that is given.
use Rattle.std.specs.Prelude.{◌≡◌, ◌≢◌, ⊤, Bool, true, false, List, [], ◌∷◌, Option, Some, map, unwrap_or, IfSome}
use Rattle.resource_types.specs.declared.specification.PodSpec.{PodSpec}
use Rattle.resource_types.specs.declared.specification.Template.{Template}
use Rattle.resource_types.specs.declared.specification.Target.{Target}
use Rattle.resource_types.specs.declared.manifests.Manifest.{Manifest}
use Rattle.resource_types.specs.declared.manifests.ManifestSpec.{ManifestSpec}
use Rattle.resource_types.specs.declared.manifests.ManifestSpec.TheVariants as spec

-- what is given, or else the default
abbrev pub filled : {A : Type 0} → Option A → A → Option A
filled given default = Some (unwrap_or given default)

abbrev pub is_empty : {A : Type 0} → List A → Bool
is_empty [] = true
is_empty (x ∷ xs) = false

-- no limit of concurrency, and 300 seconds
abbrev pub default_pod : PodSpec → PodSpec
default_pod s = record { concurrency = filled s.concurrency 0; timeout = filled s.timeout 300; rest = s.rest }

abbrev pub default_template : Template → Template
default_template t = record { name = t.name; labels = t.labels; annotations = t.annotations; spec = default_pod t.spec }

-- `latestRevision` is true exactly where no Revision is named, and 0 percent
abbrev pub default_target : Target → Target
default_target t = record { configuration = t.configuration; revision = t.revision; latest = filled t.latest (is_empty t.revision); percent = filled t.percent 0; tag = t.tag; url = t.url }

-- the one target of a Service that has none
abbrev pub latest_target : Target
latest_target = record { configuration = []; revision = []; latest = Some true; percent = Some 100; tag = []; url = [] }

abbrev pub service_targets : List Target → List Target
service_targets [] = latest_target ∷ []
service_targets (t ∷ ts) = map default_target (t ∷ ts)

abbrev pub default_spec : ManifestSpec → ManifestSpec
default_spec (spec.Service template traffic) = spec.Service (default_template template) (service_targets traffic)
default_spec (spec.Configuration template) = spec.Configuration (default_template template)
default_spec (spec.Route traffic) = spec.Route (map default_target traffic)

-- the manifest with its defaults
abbrev pub defaults_of : Manifest → Manifest
defaults_of m = record { api = m.api; kind = m.kind; name = m.name; namespace = m.namespace; version = m.version; labels = m.labels; annotations = m.annotations; spec = default_spec m.spec }

-- ---- what is given stays

abbrev pub Stays : {A : Type 0} → Option A → Option A → Type 0
Stays given now = IfSome given (λ x. now ≡ Some x)

pub record KeepsTarget (given full : Target) : Type 0 where
  pub latest : Stays given.latest full.latest
  pub percent : Stays given.percent full.percent
  pub others : record full { latest = given.latest; percent = given.percent } ≡ given

-- each target, in its place
abbrev pub KeepsEach : List Target → List Target → Type 0
KeepsEach [] [] = ⊤
KeepsEach [] (u ∷ us) = ⊥
KeepsEach (t ∷ ts) [] = ⊥
KeepsEach (t ∷ ts) (u ∷ us) = KeepsTarget t u × KeepsEach ts us

pub record KeepsTemplate (given full : Template) : Type 0 where
  pub concurrency : Stays given.spec.concurrency full.spec.concurrency
  pub timeout : Stays given.spec.timeout full.spec.timeout
  pub members : full.spec.rest ≡ given.spec.rest
  pub others : record full { spec = given.spec } ≡ given

abbrev pub KeepsSpec : ManifestSpec → ManifestSpec → Type 0
KeepsSpec (spec.Service t ts) (spec.Service u us) = KeepsTemplate t u × (ts ≢ [] → KeepsEach ts us)
KeepsSpec (spec.Configuration t) (spec.Configuration u) = KeepsTemplate t u
KeepsSpec (spec.Route ts) (spec.Route us) = KeepsEach ts us
KeepsSpec given full = ⊥

-- the full manifest has all that is given, in the same places
pub record KeepsGiven (given full : Manifest) : Type 0 where
  pub specification : KeepsSpec given.spec full.spec
  pub others : record full { spec = given.spec } ≡ given
