-- What is written is well formed, and how deep it is.
use Rattle.std.proofs.Common.{◌≡◌, ℕ, suc, ◌-◌, ◌≤◌, true, List, [], ◌∷◌, map, refl, sym, ap, subst, ◌∙◌, arith}
use Rattle.serde_json.specs.Data.{Data, object, depth, members_depth}
use Rattle.json_tree.specs.Tree.{is_well_formed, depth_of, table_data, values_are_well, names_of, names_rise}
use Rattle.json_tree.specs.declared.members.Table.{Table}
use Rattle.json_tree.proofs.Laws.{data_of-object, is_well_formed-Obj}
use Rattle.resource_types.specs.declared.specification.PodSpec.{PodSpec}
use Rattle.resource_types.specs.declared.specification.Template.{Template}
use Rattle.resource_types.specs.declared.specification.Target.{Target}
use Rattle.resource_types.specs.declared.manifests.Manifest.{Manifest}
use Rattle.resource_types.specs.declared.manifests.ManifestSpec.{ManifestSpec}
use Rattle.resource_types.specs.declared.manifests.ManifestSpec.TheVariants as spec
use Rattle.resource_codec.specs.Sound.{Fits, Sound, RestFits, RestOfSpecFits}
use Rattle.resource_codec.specs.Written.{object_of, object_field, array_field, text_member, texts_field, pod_fields, pod_members, template_metadata_fields, template_metadata, template_fields, template_members, target_fields, target_members, target_json, spec_fields, spec_members, Metadata, metadata_fields, metadata_members, Document, document_fields, document_members, document_json, manifest_metadata, manifest_document, written, Rises, IsWellRest, IsWellTemplate, IsWellSpec, IsWell}
use Rattle.resource_codec.proofs.Sounds.{FieldFits, both_true, and_true, sound_fields, no_members, object_fits, str_fits, text_fits, number_fits, truth_fits, object_field_fits, list_fits, more}

pub no_array : (n : ℕ) → FieldFits n (array_field [])
unfolding array_field
no_array n = tt

-- ---- texts under names

texts_well : (es : List (List ℕ × List ℕ)) → values_are_well (table_data (map text_member es)) ≡ true
texts_well [] = refl
texts_well (e ∷ es) = both_true _ _ (str_fits 0 e.1).well (texts_well es)

texts_deep : (es : List (List ℕ × List ℕ)) → members_depth (table_data (map text_member es)) ≤ 0
texts_deep [] = omega arith
texts_deep (e ∷ es) = omega (arith, (str_fits 0 e.1).deep, texts_deep es)

texts_rise : (es : List (List ℕ × List ℕ)) → names_of (map text_member es) ≡ names_of es
texts_rise [] = refl
texts_rise (e ∷ es) = ap (λ (ns : List (List ℕ)). e.0 ∷ ns) (texts_rise es)

pub texts_fit : (t : Table (List ℕ)) → Rises t → FieldFits 1 (texts_field t)
unfolding texts_field
texts_fit t rising = object_field_fits 0 (map text_member t.entries) (record { rising = ap names_rise (texts_rise t.entries) ∙ rising; well = texts_well t.entries; deep = texts_deep t.entries })

-- ---- a template

-- the rest of a pod spec is well formed, and at most one level deeper than k
pub record RestAtMost (k : ℕ) (s : PodSpec) : Type 0 where
  pub well : is_well_formed (object_of s.rest.entries) ≡ true
  pub deep : depth_of (object_of s.rest.entries) ≤ suc k

-- the same of a spec's template, if it has one
abbrev pub SpecAtMost : ℕ → ManifestSpec → Type 0
SpecAtMost k (spec.Service template traffic) = RestAtMost k template.spec
SpecAtMost k (spec.Configuration template) = RestAtMost k template.spec
SpecAtMost k (spec.Route traffic) = Unit {0}

rest_sound : (k : ℕ) (s : PodSpec) → RestAtMost k s → Sound k s.rest.entries
rest_sound k s w =
    let parts = and_true (names_rise (names_of s.rest.entries)) (values_are_well (table_data s.rest.entries)) (sym (is_well_formed-Obj s.rest) ∙ w.well) in
    let deep : depth (object (table_data s.rest.entries)) ≤ suc k = subst (λ (d : Data). depth d ≤ suc k) (data_of-object s.rest) w.deep in
    record { rising = parts.0; well = parts.1; deep = omega (arith, deep) }

pod_sound_at : (k : ℕ) (s : PodSpec) → RestAtMost k s → Sound k (pod_members s)
unfolding pod_members
pod_sound_at k s w = sound_fields k (pod_fields s) s.rest.entries (number_fits k s.concurrency, (number_fits k s.timeout, tt)) (rest_sound k s w)

at_31 : (s : PodSpec) → IsWellRest s → RestAtMost 31 s
at_31 s w = record { well = w.well; deep = w.deep }

pub pod_sound : (s : PodSpec) → IsWellRest s → Sound 31 (pod_members s)
pod_sound s w = pod_sound_at 31 s (at_31 s w)

template_metadata_sound : (t : Template) → IsWellTemplate t → Sound 1 (template_metadata t)
unfolding template_metadata
template_metadata_sound t w = sound_fields 1 (template_metadata_fields t) [] (texts_fit t.annotations w.annotations, (texts_fit t.labels w.labels, (text_fits 1 t.name, tt))) (no_members 1)

template_sound : (k : ℕ) (t : Template) → 1 ≤ k → IsWellTemplate t → RestAtMost k t.spec → Sound (suc k) (template_members t)
unfolding template_members
template_sound k t le w r = sound_fields (suc k) (template_fields t) [] (more 2 (suc k) (object_field (template_metadata t)) (omega (arith, le)) (object_field_fits 1 (template_metadata t) (template_metadata_sound t w)), (object_fits k (pod_members t.spec) (pod_sound_at k t.spec r), tt)) (no_members (suc k))

-- ---- targets

pub target_sound : (t : Target) → Sound 0 (target_members t)
unfolding target_members
target_sound t = sound_fields 0 (target_fields t) [] (text_fits 0 t.configuration, (truth_fits 0 t.latest, (number_fits 0 t.percent, (text_fits 0 t.revision, (text_fits 0 t.tag, tt))))) (no_members 0)

target_fits : (t : Target) → Fits 1 (target_json t)
target_fits t = object_fits 0 (target_members t) (target_sound t)

traffic_fits : (n : ℕ) (ts : List Target) → 2 ≤ n → FieldFits n (array_field (map target_json ts))
traffic_fits n ts le = more 2 n (array_field (map target_json ts)) le (list_fits target_json 1 target_fits ts)

-- ---- the manifest

spec_sound_at : (k : ℕ) (s : ManifestSpec) → 1 ≤ k → IsWellSpec s → SpecAtMost k s → Sound (suc (suc k)) (spec_members s)
unfolding spec_members
spec_sound_at k (spec.Service template traffic) le w r = sound_fields (suc (suc k)) (spec_fields (spec.Service template traffic)) [] (object_fits (suc k) (template_members template) (template_sound k template le w r), (traffic_fits (suc (suc k)) traffic (omega (arith, le)), tt)) (no_members (suc (suc k)))
spec_sound_at k (spec.Configuration template) le w r = sound_fields (suc (suc k)) (spec_fields (spec.Configuration template)) [] (object_fits (suc k) (template_members template) (template_sound k template le w r), tt) (no_members (suc (suc k)))
spec_sound_at k (spec.Route traffic) le w r = sound_fields (suc (suc k)) (spec_fields (spec.Route traffic)) [] (traffic_fits (suc (suc k)) traffic (omega (arith, le)), tt) (no_members (suc (suc k)))

spec_at_31 : (s : ManifestSpec) → IsWellSpec s → SpecAtMost 31 s
spec_at_31 (spec.Service template traffic) w = at_31 template.spec w.rest
spec_at_31 (spec.Configuration template) w = at_31 template.spec w.rest
spec_at_31 (spec.Route traffic) w = tt

pub spec_sound : (s : ManifestSpec) → IsWellSpec s → Sound 33 (spec_members s)
spec_sound s w = spec_sound_at 31 s (omega arith) w (spec_at_31 s w)

-- ---- a document

-- what `metadata` says fits where its names rise and its owner references fit
pub metadata_sound : (h : Metadata) → Rises h.labels → Rises h.annotations → FieldFits 2 (array_field h.owners) → Sound 2 (metadata_members h)
unfolding metadata_members
metadata_sound h labels annotations owners = sound_fields 2 (metadata_fields h) [] (
  more 1 2 (texts_field h.annotations) (omega arith) (texts_fit h.annotations annotations),
  (
    text_fits 2 h.created,
    (
      number_fits 2 h.generation,
      (
        more 1 2 (texts_field h.labels) (omega arith) (texts_fit h.labels labels),
        (text_fits 2 h.name, (text_fits 2 h.namespace, (owners, (text_fits 2 h.version, (text_fits 2 h.uid, tt))))),
      ),
    ),
  ),
) (no_members 2)

pub document_fits : (n : ℕ) (d : Document) → 3 ≤ n → Sound 2 d.metadata → Fits n (object_of d.spec) → FieldFits n d.status → Fits (suc n) (document_json d)
unfolding document_members
document_fits n d le metadata spec status = object_fits n (document_members d) (sound_fields n (document_fields d) [] (
  text_fits n d.api,
  (text_fits n d.kind, (more 3 n (object_field d.metadata) le (object_field_fits 2 d.metadata metadata), (spec, (status, tt)))),
) (no_members n))

written_fits_at : (k : ℕ) (m : Manifest) → 1 ≤ k → IsWell m → SpecAtMost k m.spec → Fits (suc (suc (suc (suc k)))) (written m)
written_fits_at k m le w r =
    document_fits (suc (suc (suc k))) (manifest_document m) (omega (arith, le)) (metadata_sound (manifest_metadata m) w.labels w.annotations (no_array 2))
    (object_fits (suc (suc k)) (spec_members m.spec) (spec_sound_at k m.spec le w.spec r)) tt

pub written_fits : (m : Manifest) → IsWell m → Fits 35 (written m)
written_fits m w = written_fits_at 31 m (omega arith) w (spec_at_31 m.spec w.spec)

rest_within : (n : ℕ) (s : PodSpec) → 5 ≤ n → RestFits 3 n s → RestAtMost (n - 4) s
rest_within n s le r = record { well = r.well; deep = omega (arith, le, r.deep) }

spec_within : (n : ℕ) (s : ManifestSpec) → 5 ≤ n → RestOfSpecFits 3 n s → SpecAtMost (n - 4) s
spec_within n (spec.Service template traffic) le r = rest_within n template.spec le r
spec_within n (spec.Configuration template) le r = rest_within n template.spec le r
spec_within n (spec.Route traffic) le r = tt

-- what is written is three levels deeper than the rest of a pod spec, and at least five are left for all else
pub written_deep : (n : ℕ) (m : Manifest) → 5 ≤ n → IsWell m → RestOfSpecFits 3 n m.spec → depth_of (written m) ≤ n
written_deep n m le w r = omega (arith, le, (written_fits_at (n - 4) m (omega (arith, le)) w (spec_within n m.spec le r)).deep)
