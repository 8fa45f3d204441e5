-- Defaults leave a manifest sound.
use Rattle.std.proofs.Common.{◌≡◌, ℕ, refl, sym, subst, ◌∙◌}
use Rattle.resource_types.specs.declared.names.ClientKind.{ClientKind}
use Rattle.resource_types.specs.declared.specification.PodSpec.{PodSpec}
use Rattle.resource_types.specs.declared.manifests.Manifest.{Manifest}
use Rattle.resource_types.specs.declared.manifests.ManifestSpec.{ManifestSpec}
use Rattle.resource_types.specs.declared.manifests.ManifestSpec.TheVariants as spec
use Rattle.resource_codec.specs.Written.{kind_of}
use Rattle.resource_codec.specs.Sound.{RestFits, RestOfSpecFits, SpecRises}
use Rattle.validation.specs.Defaults.{default_pod, default_spec, defaults_of}
use Rattle.manifest_intake.specs.Intake.{IsSound}

same_kind : (s : ManifestSpec) → kind_of (default_spec s) ≡ kind_of s
same_kind (spec.Service template traffic) = refl
same_kind (spec.Configuration template) = refl
same_kind (spec.Route traffic) = refl

rest_of_pod : (n : ℕ) (s : PodSpec) → RestFits 3 n s → RestFits 3 n (default_pod s)
rest_of_pod n s f = record { well = f.well; deep = f.deep }

rest_stays : (n : ℕ) (s : ManifestSpec) → RestOfSpecFits 3 n s → RestOfSpecFits 3 n (default_spec s)
rest_stays n (spec.Service template traffic) f = rest_of_pod n template.spec f
rest_stays n (spec.Configuration template) f = rest_of_pod n template.spec f
rest_stays n (spec.Route traffic) f = tt

rises_stay : (s : ManifestSpec) → SpecRises s → SpecRises (default_spec s)
rises_stay (spec.Service template traffic) r = r
rises_stay (spec.Configuration template) r = r
rises_stay (spec.Route traffic) r = tt

sound_defaults : (kind : ClientKind) (n : ℕ) (m : Manifest) → IsSound kind n m → IsSound kind n (defaults_of m)
sound_defaults kind n m s = record {
  kind = same_kind m.spec ∙ s.kind;
  rest = rest_stays n m.spec s.rest;
  rise = (s.rise.0, (s.rise.1.0, rises_stay m.spec s.rise.1.1));
}

-- what is the manifest with its defaults is sound where the manifest is
pub sound_filled : (kind : ClientKind) (n : ℕ) (m full : Manifest) → full ≡ defaults_of m → IsSound kind n m → IsSound kind n full
sound_filled kind n m full e s = subst (λ (x : Manifest). IsSound kind n x) (sym e) (sound_defaults kind n m s)
