-- A good manifest by its parts: its name, its labels, its spec.
use Rattle.std.proofs.Common.{◌≡◌, ◌≢◌, ℕ, true, List, [], refl, sym, ap, ◌∙◌, subst}
use Rattle.json_tree.specs.declared.members.Table.{Table}
use Rattle.serve_names.specs.Labels.{is_label_of}
use Rattle.resource_types.specs.declared.names.ClientKind.{ClientKind}
use Rattle.resource_types.specs.declared.names.ClientKind.TheVariants as client
use Rattle.resource_types.specs.declared.names.Name.{Name}
use Rattle.resource_types.specs.declared.names.Key.{Key}
use Rattle.resource_types.specs.declared.manifests.ManifestSpec.{ManifestSpec}
use Rattle.resource_types.specs.declared.objects.Object.{Object}
use Rattle.resource_types.specs.Lookups.{key_of}
use Rattle.resource_types.specs.Manifests.{api_version, kind_word, kind_text, object_kind, manifest_spec}
use Rattle.resource_codec.specs.Written.{kind_of, IsPlain, Rises}
use Rattle.resource_codec.specs.Sound.{RestOfSpecFits, SpecRises}
use Rattle.validation.specs.Defaults.{default_spec}
use Rattle.validation.specs.Rules.{spec_lines, rules_of}
use Rattle.validation.proofs.Lines.{AreKept, from_kept}
use Rattle.manifest_intake.specs.Good.{IsGood, asked_of}
use Rattle.manifest_intake.proofs.Exact.{deep_enough}

-- ---- specs

-- the spec is good under the simple name
pub record IsGoodSpec (n : List ℕ) (s : ManifestSpec) : Type 0 where
  pub lines : AreKept (spec_lines n s)
  pub full : default_spec s ≡ s
  pub plain : IsPlain s
  pub rest : RestOfSpecFits 3 32 s
  pub rise : SpecRises s

-- ---- objects

-- the labels, the annotations and the spec are good under the name
pub record IsGoodAt (n : Name) (labels annotations : Table (List ℕ)) (s : ManifestSpec) : Type 0 where
  pub label : is_label_of n.name 42 ≡ true
  pub some : n.name ≢ []
  pub space : is_label_of n.space 63 ≡ true
  pub labels_rise : Rises labels
  pub annotations_rise : Rises annotations
  pub spec : IsGoodSpec n.name s

word_of : (k : ClientKind) → kind_word (object_kind k) ≡ kind_text k
word_of client.Service = refl
word_of client.Configuration = refl
word_of client.Route = refl

-- an object of good parts is good
pub parts_good : (k : ClientKind) (n : Name) (o : Object) → o.key ≡ key_of (object_kind k) n.space n.name → kind_of (manifest_spec o.body) ≡ k → api_version ≢ []
    → IsGoodAt n o.meta.labels o.meta.annotations (manifest_spec o.body) → IsGood (asked_of o)
unfolding rules_of
parts_good k n o key fits api given = own (subst (λ (m : Name). IsGoodAt m o.meta.labels o.meta.annotations (manifest_spec o.body)) (sym (ap (λ (z : Key). z.name) key)) given)
  where
    own : IsGoodAt o.key.name o.meta.labels o.meta.annotations (manifest_spec o.body) → IsGood (asked_of o)
    own g = record {
      valid = from_kept (rules_of (asked_of o)) (g.label, g.spec.lines);
      full = ap (λ (s : ManifestSpec). record (asked_of o) { spec = s }) g.spec.full;
      regular = record { api = api; name = g.some; kind = ap (λ (z : Key). kind_word z.kind) key ∙ word_of k ∙ sym (ap kind_text fits); plain = g.spec.plain };
      rest = g.spec.rest;
      rise = (g.labels_rise, (g.annotations_rise, g.spec.rise));
      namespace = g.space;
      deep = deep_enough (asked_of o) g.spec.rest (g.labels_rise, (g.annotations_rise, g.spec.rise));
    }
