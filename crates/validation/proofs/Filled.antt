-- Defaults fill each target once, and a second time they change nothing.
use Rattle.std.proofs.Common.{◌≡◌, ℕ, zero, suc, ◌+◌, ◌<◌, List, [], ◌∷◌, ◌++◌, length, take, drop, map, slice_get, slice_set, Some, refl, ap, subst, arith}
use Rattle.resource_types.specs.declared.specification.Target.{Target}
use Rattle.resource_types.specs.declared.manifests.Manifest.{Manifest}
use Rattle.resource_types.specs.declared.manifests.ManifestSpec.{ManifestSpec}
use Rattle.resource_types.specs.declared.manifests.ManifestSpec.TheVariants as spec
use Rattle.validation.specs.Defaults.{default_target, service_targets, default_template, default_spec, defaults_of}

filled_before : (ts : List Target) (i : ℕ) (t : Target) → i < length ts → slice_get (map default_target (take i ts) ++ drop i ts) i ≡ Some t
    → slice_set (map default_target (take i ts) ++ drop i ts) i (default_target t) ≡ map default_target (take (suc i) ts) ++ drop (suc i) ts
filled_before [] i t lt here = absurd (omega arith)
filled_before (x ∷ xs) zero t lt here = let same : x ≡ t = cc in rw same refl
filled_before (x ∷ xs) (suc i) t lt here = ap (λ ys. default_target x ∷ ys) (filled_before xs i t (omega arith) here)

pub filled_more : (ts now : List Target) (i : ℕ) (t filled : Target) → i < length ts → now ≡ map default_target (take i ts) ++ drop i ts → slice_get now i ≡ Some t → filled ≡ default_target t
    → slice_set now i filled ≡ map default_target (take (i + 1) ts) ++ drop (i + 1) ts
filled_more ts now i t filled lt so_far here is =
    let next : suc i ≡ i + 1 = omega arith in
    rw (so_far, is, ← next) (filled_before ts i t lt (subst (λ xs. slice_get xs i ≡ Some t) so_far here))

filled_again : (ts : List Target) → map default_target (map default_target ts) ≡ map default_target ts
filled_again [] = refl
filled_again (t ∷ ts) = ap (λ us. default_target t ∷ us) (filled_again ts)

service_again : (ts : List Target) → service_targets (service_targets ts) ≡ service_targets ts
service_again [] = refl
service_again (t ∷ ts) = filled_again (t ∷ ts)

spec_again : (s : ManifestSpec) → default_spec (default_spec s) ≡ default_spec s
spec_again (spec.Service template traffic) = ap (spec.Service (default_template template)) (service_again traffic)
spec_again (spec.Configuration template) = refl
spec_again (spec.Route traffic) = ap spec.Route (filled_again traffic)

pub defaults_again : (m : Manifest) → defaults_of (defaults_of m) ≡ defaults_of m
defaults_again m = ap (λ (s : ManifestSpec). record { api = m.api; kind = m.kind; name = m.name; namespace = m.namespace; version = m.version; labels = m.labels; annotations = m.annotations; spec = s }) (spec_again m.spec)
