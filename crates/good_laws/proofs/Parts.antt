-- A good manifest by its parts: its name, its labels, its spec.
use Rattle.std.proofs.Common.{◌≡◌, ◌≢◌, ℕ, true, false, List, [], map, refl, sym, ap, ◌∙◌, subst}
use Rattle.json_tree.specs.declared.members.Table.{Table}
use Rattle.serve_names.specs.Labels.{is_label_of}
use Rattle.resource_types.specs.declared.names.Kind.{Kind}
use Rattle.resource_types.specs.declared.names.ClientKind.{ClientKind}
use Rattle.resource_types.specs.declared.names.ClientKind.TheVariants as client
use Rattle.resource_types.specs.declared.names.Name.{Name}
use Rattle.resource_types.specs.declared.names.Key.{Key}
use Rattle.resource_types.specs.declared.specification.Template.{Template}
use Rattle.resource_types.specs.declared.specification.Target.{Target}
use Rattle.resource_types.specs.declared.manifests.Manifest.{Manifest}
use Rattle.resource_types.specs.declared.manifests.ManifestSpec.{ManifestSpec}
use Rattle.resource_types.specs.declared.manifests.ManifestSpec.TheVariants as spec
use Rattle.resource_types.specs.declared.objects.Object.{Object}
use Rattle.resource_types.specs.Manifests.{api_version, kind_word, kind_text, object_kind, manifest_spec}
use Rattle.resource_codec.specs.Written.{kind_of, IsPlain, Rises}
use Rattle.resource_codec.specs.Sound.{RestOfSpecFits, SpecRises}
use Rattle.validation.specs.Defaults.{is_empty, default_spec}
use Rattle.validation.specs.Rules.{template_lines, spec_lines, rules_of}
use Rattle.control_rules.specs.Standing.{key_at}
use Rattle.control_rules.specs.NextService.{converted_target}
use Rattle.control_rules.specs.Lawful.{asked_of}
use Rattle.control_safety.specs.Goods.{IsAt}
use Rattle.manifest_intake.specs.Good.{IsGood}
use Rattle.manifest_intake.proofs.Exact.{deep_enough}
use Rattle.manifest_intake.proofs.Parts.{IsGoodSpec, IsGoodAt}
use Rattle.validation.proofs.Lines.{AreKept, kept_from, from_kept, kept_left, kept_right}
use Rattle.good_laws.proofs.Converted.{traffic_kept, targets_full, service_full, urls_stay}

-- ---- specs

abbrev template_or : Template → ManifestSpec → Template
template_or other (spec.Service template traffic) = template
template_or other (spec.Configuration template) = template
template_or other (spec.Route traffic) = other

abbrev pub traffic_of : ManifestSpec → List Target
traffic_of (spec.Service template traffic) = traffic
traffic_of (spec.Configuration template) = []
traffic_of (spec.Route traffic) = traffic

-- the template of a good Service makes a good Configuration
pub template_good : (n : List ℕ) (t : Template) (ts : List Target) → IsGoodSpec n (spec.Service t ts) → IsGoodSpec n (spec.Configuration t)
unfolding spec_lines
template_good n t ts h = record {
  lines = kept_left (template_lines n t) _ h.lines;
  full = ap (λ u. spec.Configuration (template_or t u)) h.full;
  plain = h.plain.0;
  rest = h.rest;
  rise = h.rise;
}

-- the targets of a good Service make a good Route
pub targets_good : (n : Name) → is_label_of n.name 42 ≡ true → is_empty n.name ≡ false → (t : Template) (ts : List Target)
    → IsGoodSpec n.name (spec.Service t ts) → IsGoodSpec n.name (spec.Route (map (converted_target n) ts))
unfolding spec_lines
targets_good n label some t ts h = record {
  lines = traffic_kept n label some ts (kept_right (template_lines n.name t) _ h.lines);
  full = ap (λ us. spec.Route us) (targets_full n ts (service_full ts (ap traffic_of h.full)));
  plain = urls_stay n ts h.plain.1;
  rest = tt;
  rise = tt;
}

-- ---- objects

-- a good object's parts
pub good_parts : (k : Kind) (n : Name) (o : Object) → IsAt k n o → IsGood (asked_of o) → IsGoodAt n o.meta.labels o.meta.annotations (manifest_spec o.body)
unfolding rules_of
good_parts k n o at h = subst (λ (m : Name). IsGoodAt m o.meta.labels o.meta.annotations (manifest_spec o.body)) (ap (λ (key : Key). key.name) at.key) own
  where
    own : IsGoodAt o.key.name o.meta.labels o.meta.annotations (manifest_spec o.body)
    own =
        let kept = kept_from (rules_of (asked_of o)) h.valid in
        record {
          label = kept.0;
          some = h.regular.name;
          space = h.namespace;
          labels_rise = h.rise.0;
          annotations_rise = h.rise.1.0;
          spec = record { lines = kept.1; full = ap (λ (m : Manifest). m.spec) h.full; plain = h.regular.plain; rest = h.rest; rise = h.rise.1.1 };
        }
