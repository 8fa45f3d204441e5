-- Which manifests are good: those that a client may have stored.
use Rattle.std.specs.Prelude.{◌≡◌, ℕ, ◌≤◌, ◌&&◌, Bool, true, not, nat_le, is_ok, List, [], ◌∷◌, Ok, bytes_eq}
use Rattle.std.specs.List.{list_all}
use Rattle.json_tree.specs.declared.value.Json.{Json}
use Rattle.json_tree.specs.Equal.{is_equal}
use Rattle.json_tree.specs.Tree.{is_well_formed, depth_of, names_of, names_rise}
use Rattle.json_tree.specs.declared.members.Table.{Table}
use Rattle.serve_names.specs.Labels.{is_label_of}
use Rattle.resource_types.specs.declared.specification.PodSpec.{PodSpec}
use Rattle.resource_types.specs.declared.specification.Target.{Target}
use Rattle.resource_types.specs.declared.manifests.Manifest.{Manifest}
use Rattle.resource_types.specs.declared.manifests.ManifestSpec.{ManifestSpec}
use Rattle.resource_types.specs.declared.manifests.ManifestSpec.TheVariants as spec
use Rattle.resource_types.specs.contracts.manifests.Manifest as manifest_row
use Rattle.resource_types.specs.declared.names.ClientKind.{ClientKind}
use Rattle.resource_types.specs.declared.objects.Object.{Object}
use Rattle.resource_types.specs.Lookups.{key_of}
use Rattle.resource_types.specs.Manifests.{kind_text, object_kind, manifest_spec}
pub use Rattle.resource_types.specs.Manifests.{asked_of}
use Rattle.resource_codec.specs.Reading.{is_rest}
use Rattle.resource_codec.specs.Written.{object_of, written, kind_of, IsRegular}
use Rattle.resource_codec.specs.Sound.{RestOfSpecFits, ManifestRises}
use Rattle.validation.specs.Defaults.{is_empty, defaults_of}
use Rattle.validation.specs.Rules.{first_fault, rules_of}
use Rattle.manifest_intake.specs.Intake.{Purpose, accepted, IsSound}

-- ---- the parts, as tests

-- no rule of the manifest is broken
abbrev pub is_valid : Manifest → Bool
is_valid m = is_ok (first_fault (rules_of m))

-- the manifest is the one that its defaults make of it
abbrev pub has_defaults : Manifest → Bool
has_defaults m = is_equal manifest_row.the_row.coded (defaults_of m) m

-- no target has an address
abbrev pub have_no_urls : List Target → Bool
have_no_urls [] = true
have_no_urls (t ∷ ts) = is_empty t.url && have_no_urls ts

-- the parts of a spec are as reading gives them
abbrev pub is_plain : ManifestSpec → Bool
is_plain (spec.Service template traffic) = list_all is_rest template.spec.rest.entries && have_no_urls traffic
is_plain (spec.Configuration template) = list_all is_rest template.spec.rest.entries
is_plain (spec.Route traffic) = have_no_urls traffic

-- the manifest is read again as it was
abbrev pub is_regular : Manifest → Bool
is_regular m = not (is_empty m.api) && (not (is_empty m.name) && (bytes_eq m.kind (kind_text (kind_of m.spec)) && is_plain m.spec))

-- the rest of a pod spec is well formed, and at most 29 deep
abbrev pub is_sound_rest : PodSpec → Bool
is_sound_rest s = is_well_formed (object_of s.rest.entries) && nat_le (depth_of (object_of s.rest.entries)) 29

-- the same of the rest of a spec, if it has one
abbrev pub is_sound : ManifestSpec → Bool
is_sound (spec.Service template traffic) = is_sound_rest template.spec
is_sound (spec.Configuration template) = is_sound_rest template.spec
is_sound (spec.Route traffic) = true

-- the names rise strictly
abbrev pub rises : Table (List ℕ) → Bool
rises t = names_rise (names_of t.entries)

-- the names of a spec's template rise, if it has one
abbrev pub template_rises : ManifestSpec → Bool
template_rises (spec.Service template traffic) = rises template.labels && rises template.annotations
template_rises (spec.Configuration template) = rises template.labels && rises template.annotations
template_rises (spec.Route traffic) = true

-- the names of a manifest's labels and annotations rise, its own and its template's
abbrev pub is_ordered : Manifest → Bool
is_ordered m = rises m.labels && (rises m.annotations && template_rises m.spec)

-- ---- the whole

-- A manifest is good that is valid, with defaults, regular, with a sound rest, with names that rise, in a namespace that is a label.
unfoldable pub is_good : Manifest → Bool
is_good m = is_valid m && (has_defaults m && (is_regular m && (is_sound m.spec && (is_ordered m && is_label_of m.namespace 63))))

-- the same as a fact, in the words of the layers that know the rules; what is written is at most 32 deep
pub record IsGood (m : Manifest) : Type 0 where
  pub valid : first_fault (rules_of m) ≡ Ok tt
  pub full : defaults_of m ≡ m
  pub regular : IsRegular m
  pub rest : RestOfSpecFits 3 32 m.spec
  pub rise : ManifestRises m
  pub namespace : is_label_of m.namespace 63 ≡ true
  pub deep : depth_of (written m) ≤ 32

-- the object is the one that a manifest asks for in a namespace: with its name, its labels, its annotations, its spec
pub record IsAskedBy (kind : ClientKind) (space : List ℕ) (m : Manifest) (o : Object) : Type 0 where
  pub key : o.key ≡ key_of (object_kind kind) space m.name
  pub labels : o.meta.labels ≡ m.labels
  pub annotations : o.meta.annotations ≡ m.annotations
  pub spec : manifest_spec o.body ≡ m.spec

-- the manifest was accepted for a purpose, from a value as a body may have it
pub record IsAcceptedFor (purpose : Purpose) (kind : ClientKind) (m : Manifest) : Type 0 where
  pub json : Json
  pub given : accepted purpose kind json ≡ Ok m
  pub sound : IsSound kind 32 m
