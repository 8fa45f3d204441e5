-- Defaults leave what is given.
use Rattle.std.proofs.Common.{List, [], ◌∷◌, map, Option, Some, None, refl}
use Rattle.resource_types.specs.declared.specification.Target.{Target}
use Rattle.resource_types.specs.declared.specification.Template.{Template}
use Rattle.resource_types.specs.declared.manifests.Manifest.{Manifest}
use Rattle.resource_types.specs.declared.manifests.ManifestSpec.{ManifestSpec}
use Rattle.resource_types.specs.declared.manifests.ManifestSpec.TheVariants as spec
use Rattle.validation.specs.Defaults.{Stays, filled, default_target, default_template, default_spec, defaults_of, KeepsTarget, KeepsEach, KeepsTemplate, KeepsSpec, KeepsGiven}

stays : {A : Type 0} (given : Option A) (default : A) → Stays given (filled given default)
stays None d = tt
stays (Some x) d = refl

keeps_target : (t : Target) → KeepsTarget t (default_target t)
keeps_target t = record { latest = stays t.latest _; percent = stays t.percent _; others = refl }

keeps_each : (ts : List Target) → KeepsEach ts (map default_target ts)
keeps_each [] = tt
keeps_each (t ∷ ts) = (keeps_target t, keeps_each ts)

keeps_template : (t : Template) → KeepsTemplate t (default_template t)
keeps_template t = record { concurrency = stays t.spec.concurrency _; timeout = stays t.spec.timeout _; members = refl; others = refl }

keeps_spec : (s : ManifestSpec) → KeepsSpec s (default_spec s)
keeps_spec (spec.Service template []) = (keeps_template template, λ some. absurd (some refl))
keeps_spec (spec.Service template (t ∷ ts)) = (keeps_template template, λ some. keeps_each (t ∷ ts))
keeps_spec (spec.Configuration template) = keeps_template template
keeps_spec (spec.Route traffic) = keeps_each traffic

pub keeps_given : (m : Manifest) → KeepsGiven m (defaults_of m)
keeps_given m = record { specification = keeps_spec m.spec; others = refl }
