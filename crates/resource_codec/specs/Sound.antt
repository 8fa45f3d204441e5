-- Values that are well formed and not too deep.
use Rattle.std.specs.Prelude.{◌≡◌, ℕ, ◌≤◌, ◌+◌, true, List}
use Rattle.serde_json.specs.Data.{members_depth}
use Rattle.json_tree.specs.Tree.{table_data, values_are_well, names_of, names_rise, is_well_formed, depth_of}
use Rattle.json_tree.specs.declared.value.Json.{Json}
use Rattle.resource_types.specs.declared.specification.PodSpec.{PodSpec}
use Rattle.resource_types.specs.declared.specification.Template.{Template}
use Rattle.resource_types.specs.declared.manifests.Manifest.{Manifest}
use Rattle.resource_types.specs.declared.manifests.ManifestSpec.{ManifestSpec}
use Rattle.resource_types.specs.declared.manifests.ManifestSpec.TheVariants as spec
use Rattle.resource_codec.specs.Reading.{Member}
use Rattle.resource_codec.specs.Written.{object_of, Rises}

-- a value that is well formed and at most so deep
pub record Fits (n : ℕ) (j : Json) : Type 0 where
  pub well : is_well_formed j ≡ true
  pub deep : depth_of j ≤ n

-- members with rising names, each value well formed and at most so deep
pub record Sound (n : ℕ) (es : List Member) : Type 0 where
  pub rising : names_rise (names_of es) ≡ true
  pub well : values_are_well (table_data es) ≡ true
  pub deep : members_depth (table_data es) ≤ n

-- the rest of a pod spec is well formed, and this much less deep
pub record RestFits (less n : ℕ) (s : PodSpec) : Type 0 where
  pub well : is_well_formed (object_of s.rest.entries) ≡ true
  pub deep : depth_of (object_of s.rest.entries) + less ≤ n

-- the same of the rest of a spec, if it has one
abbrev pub RestOfSpecFits : ℕ → ℕ → ManifestSpec → Type 0
RestOfSpecFits less n (spec.Service template traffic) = RestFits less n template.spec
RestOfSpecFits less n (spec.Configuration template) = RestFits less n template.spec
RestOfSpecFits less n (spec.Route traffic) = Unit {0}

-- the names of labels and annotations rise
abbrev pub TemplateRises : Template → Type 0
TemplateRises t = Rises t.labels × Rises t.annotations

-- the same of a spec's template, if it has one
abbrev pub SpecRises : ManifestSpec → Type 0
SpecRises (spec.Service template traffic) = TemplateRises template
SpecRises (spec.Configuration template) = TemplateRises template
SpecRises (spec.Route traffic) = Unit {0}

-- the same of a manifest's own and its template's
abbrev pub ManifestRises : Manifest → Type 0
ManifestRises m = Rises m.labels × (Rises m.annotations × SpecRises m.spec)
