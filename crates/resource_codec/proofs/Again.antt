-- What was written is read again.
use Rattle.std.proofs.Common.{◌≡◌, ◌≢◌, ℕ, suc, Bool, true, false, cond, List, [], ◌∷◌, map, Option, Some, None, Result, Ok, Err, refl, sym, ap, ap₂, ◌∙◌, rules, codes, not, ◌&&◌}
use Rattle.std.specs.Str.{bytes_eq}
use Rattle.std.specs.Prelude.{filter}
use Rattle.std.specs.List.{filter_map, list_all}
use Rattle.json_tree.specs.Tree.{find}
use Rattle.json_tree.specs.declared.value.Json.{Json, Bool as truth_of, Nat, Arr, Obj, the_lemmas}
use Rattle.json_tree.specs.declared.value.Json.TheViews.{out-Json}
use Rattle.json_tree.specs.declared.value.Json.TheOpen.{Json-F}
use Rattle.json_tree.specs.declared.members.Table.{Table}
use Rattle.resource_types.specs.declared.names.ClientKind.{ClientKind}
use Rattle.resource_types.specs.declared.names.ClientKind.TheVariants as kind
use Rattle.resource_types.specs.declared.specification.PodSpec.{PodSpec}
use Rattle.resource_types.specs.declared.specification.Template.{Template}
use Rattle.resource_types.specs.declared.specification.Target.{Target}
use Rattle.resource_types.specs.declared.manifests.Manifest.{Manifest}
use Rattle.resource_types.specs.declared.manifests.ManifestSpec.{ManifestSpec}
use Rattle.resource_types.specs.declared.manifests.ManifestSpec.TheVariants as spec
use Rattle.resource_codec.specs.declared.fields.Field.{Field as Row}
use Rattle.resource_codec.specs.declared.fields.Field.TheVariants as field
use Rattle.resource_codec.specs.declared.fields.TargetField.TheVariants as part
use Rattle.resource_codec.specs.Reading.{◌>>=◌, Member, layer, under, object, text, optional_object, optional_text, optional_number, optional_truth, optional_array, optional_texts, texts_in, may_be_text, named_text, is_rest, is_null}
use Rattle.resource_codec.specs.Shape.{template_in, target_in, targets_in, traffic_in, spec_in, shape}
use Rattle.resource_types.specs.Manifests.{kind_text}
use Rattle.resource_codec.specs.Written.{Field, put_field, put_fields, object_of, text_field, object_field, array_field, number_field, truth_field, text_member, texts_field, pod_fields, pod_members, template_metadata_fields, template_metadata, template_fields, template_members, target_fields, target_members, target_json, spec_fields, spec_members, Metadata, metadata_fields, metadata_members, Document, document_fields, document_members, document_json, manifest_metadata, manifest_document, written, kind_of, HasNoUrls, HasPlainRest, IsPlain, IsRegular}
use Rattle.resource_codec.proofs.PutLemmas.{or_else, looked, find_fields, kept_field}
use Rattle.resource_codec.proofs.Texts.{out_str}

pub out_obj : (m : Table Json) → out-Json (Obj m) ≡ Json-F.Obj m
out_obj m = search (rules, the_lemmas)

pub out_arr : (js : List Json) → out-Json (Arr js) ≡ Json-F.Arr js
out_arr js = search (rules, the_lemmas)

pub out_nat : (n : ℕ) → out-Json (Nat n) ≡ Json-F.Nat n
out_nat n = search (rules, the_lemmas)

pub out_truth : (b : Bool) → out-Json (truth_of b) ≡ Json-F.Bool b
out_truth b = search (rules, the_lemmas)

-- what stands under a name
at : (k : List ℕ) (fs : List Field) (es : List Member) (o : Option Json) → looked k fs (find k es) ≡ o → under k (put_fields fs es) ≡ layer o
at k fs es o e = ap layer (find_fields k fs es ∙ e)

or_none : (o : Option Json) → or_else o None ≡ o
or_none None = refl
or_none (Some j) = refl

-- ---- one field

text_again : (r : Row) (s : List ℕ) → s ≢ [] → text r (layer (text_field s)) ≡ Ok s
unfolding text_field
text_again r [] h = absurd (h refl)
text_again r (b ∷ bs) h = ap (text r) (out_str (b ∷ bs))

optional_text_again : (r : Row) (s : List ℕ) → optional_text r (layer (text_field s)) ≡ Ok s
unfolding text_field
optional_text_again r [] = refl
optional_text_again r (b ∷ bs) = ap (optional_text r) (out_str (b ∷ bs))

number_again : (r : Row) (n : Option ℕ) → optional_number r (layer (number_field n)) ≡ Ok n
unfolding number_field
number_again r None = refl
number_again r (Some n) = ap (optional_number r) (out_nat n)

truth_again : (r : Row) (b : Option Bool) → optional_truth r (layer (truth_field b)) ≡ Ok b
unfolding truth_field
truth_again r None = refl
truth_again r (Some b) = ap (optional_truth r) (out_truth b)

optional_object_again : (r : Row) (ms : List Member) → optional_object r (layer (object_field ms)) ≡ Ok ms
unfolding object_field
optional_object_again r [] = refl
optional_object_again r (m ∷ ms) = ap (optional_object r) (out_obj (record { entries = m ∷ ms }))

object_again : (r : Row) (ms : List Member) → ms ≢ [] → object r (layer (object_field ms)) ≡ Ok ms
unfolding object_field
object_again r [] h = absurd (h refl)
object_again r (m ∷ ms) h = ap (object r) (out_obj (record { entries = m ∷ ms }))

object_of_again : (r : Row) (ms : List Member) → object r (out-Json (object_of ms)) ≡ Ok ms
object_of_again r ms = ap (object r) (out_obj (record { entries = ms }))

array_again : (r : Row) (js : List Json) → optional_array r (layer (array_field js)) ≡ Ok js
unfolding array_field
array_again r [] = refl
array_again r (j ∷ js) = ap (optional_array r) (out_arr (j ∷ js))

all_texts : (es : List (List ℕ × List ℕ)) → list_all may_be_text (map text_member es) ≡ true
all_texts [] = refl
all_texts (e ∷ es) = rw (out_str e.1) (all_texts es)

same_texts : (es : List (List ℕ × List ℕ)) → filter_map named_text (map text_member es) ≡ es
same_texts [] = refl
same_texts (e ∷ es) = rw (out_str e.1) (ap (λ (xs : List (List ℕ × List ℕ)). (e.0, e.1) ∷ xs) (same_texts es))

texts_again : (r : Row) (t : Table (List ℕ)) → optional_texts r (layer (texts_field t)) ≡ Ok t
unfolding texts_field
texts_again r t =
    let object : optional_object r (layer (object_field (map text_member t.entries))) ≡ Ok (map text_member t.entries) = optional_object_again r (map text_member t.entries) in
    ap (λ (x : Result (List Member) Row). x >>= texts_in r) object
    ∙ ap₂ (λ (b : Bool) (xs : List (List ℕ × List ℕ)). cond b (Ok (record { entries = xs })) (Err r)) (all_texts t.entries) (same_texts t.entries)

-- ---- the template

both : (b c : Bool) → (b && c) ≡ true → (b ≡ true) × (c ≡ true)
both true c h = (refl, h)
both false c h = absurd cc

all_kept : {A : Type 0} (p : A → Bool) (xs : List A) → list_all p xs ≡ true → filter p xs ≡ xs
all_kept p [] h = refl
all_kept p (x ∷ xs) h =
    let b = both (p x) (list_all p xs) h in
    rw b.0 (ap (λ ys. x ∷ ys) (all_kept p xs b.1))

no_concurrency : (b : Bool) → (not b && not (bytes_eq (codes "containerConcurrency") (codes "containerConcurrency")) && not (bytes_eq (codes "containerConcurrency") (codes "timeoutSeconds"))) ≡ false
no_concurrency true = refl
no_concurrency false = refl

no_timeout : (b : Bool) → (not b && not (bytes_eq (codes "timeoutSeconds") (codes "containerConcurrency")) && not (bytes_eq (codes "timeoutSeconds") (codes "timeoutSeconds"))) ≡ false
no_timeout true = refl
no_timeout false = refl

rest_again : (s : PodSpec) → list_all is_rest s.rest.entries ≡ true → filter is_rest (pod_members s) ≡ s.rest.entries
unfolding pod_members
rest_again s h =
    kept_field is_rest (codes "timeoutSeconds") (λ j. no_timeout (is_null (out-Json j))) (number_field s.timeout) (put_field (codes "containerConcurrency") (number_field s.concurrency) s.rest.entries)
    ∙ kept_field is_rest (codes "containerConcurrency") (λ j. no_concurrency (is_null (out-Json j))) (number_field s.concurrency) s.rest.entries
    ∙ all_kept is_rest s.rest.entries h

-- a name that no plain member has is not found
not_found : (k : List ℕ) (es : List Member) → ((e : Member) → is_rest e ≡ true → bytes_eq e.0 k ≡ false) → list_all is_rest es ≡ true → find k es ≡ None
not_found k [] other h = refl
not_found k (e ∷ es) other h =
    let b = both (is_rest e) (list_all is_rest es) h in
    rw (other e b.0) (not_found k es other b.1)

not_concurrency : (a b c : Bool) → (not a && not b && not c) ≡ true → b ≡ false
not_concurrency a false c h = refl
not_concurrency true true c h = absurd cc
not_concurrency false true c h = absurd cc

not_timeout : (a b c : Bool) → (not a && not b && not c) ≡ true → c ≡ false
not_timeout a b false h = refl
not_timeout true b true h = absurd cc
not_timeout false true true h = absurd cc
not_timeout false false true h = absurd cc

module _ (s : PodSpec) (plain : list_all is_rest s.rest.entries ≡ true) where
  concurrency_found : looked (codes "containerConcurrency") (pod_fields s) (find (codes "containerConcurrency") s.rest.entries) ≡ number_field s.concurrency
  concurrency_found =
      let none : find (codes "containerConcurrency") s.rest.entries ≡ None = not_found (codes "containerConcurrency") s.rest.entries (λ e h. not_concurrency (is_null (out-Json e.1)) (bytes_eq e.0 (codes "containerConcurrency")) (bytes_eq e.0 (codes "timeoutSeconds")) h) plain in
      ap (or_else (number_field s.concurrency)) none ∙ or_none (number_field s.concurrency)

  timeout_found : looked (codes "timeoutSeconds") (pod_fields s) (find (codes "timeoutSeconds") s.rest.entries) ≡ number_field s.timeout
  timeout_found =
      let none : find (codes "timeoutSeconds") s.rest.entries ≡ None = not_found (codes "timeoutSeconds") s.rest.entries (λ e h. not_timeout (is_null (out-Json e.1)) (bytes_eq e.0 (codes "containerConcurrency")) (bytes_eq e.0 (codes "timeoutSeconds")) h) plain in
      ap (or_else (number_field s.timeout)) none ∙ or_none (number_field s.timeout)

  concurrency_at : optional_number field.Concurrency (under (codes "containerConcurrency") (pod_members s)) ≡ Ok s.concurrency
  unfolding pod_members
  concurrency_at = ap (optional_number field.Concurrency) (at (codes "containerConcurrency") (pod_fields s) s.rest.entries _ concurrency_found) ∙ number_again field.Concurrency s.concurrency

  timeout_at : optional_number field.Timeout (under (codes "timeoutSeconds") (pod_members s)) ≡ Ok s.timeout
  unfolding pod_members
  timeout_at = ap (optional_number field.Timeout) (at (codes "timeoutSeconds") (pod_fields s) s.rest.entries _ timeout_found) ∙ number_again field.Timeout s.timeout

module _ (t : Template) where
  metadata_at : optional_object field.TemplateMetadata (under (codes "metadata") (template_members t)) ≡ Ok (template_metadata t)
  unfolding template_members
  metadata_at = ap (optional_object field.TemplateMetadata) (at (codes "metadata") (template_fields t) [] _ (or_none (object_field (template_metadata t)))) ∙ optional_object_again field.TemplateMetadata (template_metadata t)

  pod_at : object field.TemplateSpec (under (codes "spec") (template_members t)) ≡ Ok (pod_members t.spec)
  unfolding template_members
  pod_at = ap (object field.TemplateSpec) (at (codes "spec") (template_fields t) [] _ refl) ∙ object_of_again field.TemplateSpec (pod_members t.spec)

  name_at : optional_text field.TemplateName (under (codes "name") (template_metadata t)) ≡ Ok t.name
  unfolding template_metadata
  name_at = ap (optional_text field.TemplateName) (at (codes "name") (template_metadata_fields t) [] _ (or_none (text_field t.name))) ∙ optional_text_again field.TemplateName t.name

  labels_at : optional_texts field.TemplateLabels (under (codes "labels") (template_metadata t)) ≡ Ok t.labels
  unfolding template_metadata
  labels_at = ap (optional_texts field.TemplateLabels) (at (codes "labels") (template_metadata_fields t) [] _ (or_none (texts_field t.labels))) ∙ texts_again field.TemplateLabels t.labels

  annotations_at : optional_texts field.TemplateAnnotations (under (codes "annotations") (template_metadata t)) ≡ Ok t.annotations
  unfolding template_metadata
  annotations_at = ap (optional_texts field.TemplateAnnotations) (at (codes "annotations") (template_metadata_fields t) [] _ (or_none (texts_field t.annotations))) ∙ texts_again field.TemplateAnnotations t.annotations

  template_again : (members : List Member) → HasPlainRest t → object field.Template (under (codes "template") members) ≡ Ok (template_members t) → template_in members ≡ Ok t
  unfolding template_in
  template_again members plain here =
      rw (here, metadata_at, name_at, labels_at, annotations_at, pod_at, concurrency_at t.spec plain, timeout_at t.spec plain, rest_again t.spec plain) refl

-- ---- targets

module _ (t : Target) (i : ℕ) where
  configuration_at : optional_text (field.Target i part.ConfigurationName) (under (codes "configurationName") (target_members t)) ≡ Ok t.configuration
  unfolding target_members
  configuration_at = ap (optional_text (field.Target i part.ConfigurationName)) (at (codes "configurationName") (target_fields t) [] _ (or_none (text_field t.configuration))) ∙ optional_text_again (field.Target i part.ConfigurationName) t.configuration

  latest_at : optional_truth (field.Target i part.LatestRevision) (under (codes "latestRevision") (target_members t)) ≡ Ok t.latest
  unfolding target_members
  latest_at = ap (optional_truth (field.Target i part.LatestRevision)) (at (codes "latestRevision") (target_fields t) [] _ (or_none (truth_field t.latest))) ∙ truth_again (field.Target i part.LatestRevision) t.latest

  percent_at : optional_number (field.Target i part.Percent) (under (codes "percent") (target_members t)) ≡ Ok t.percent
  unfolding target_members
  percent_at = ap (optional_number (field.Target i part.Percent)) (at (codes "percent") (target_fields t) [] _ (or_none (number_field t.percent))) ∙ number_again (field.Target i part.Percent) t.percent

  revision_at : optional_text (field.Target i part.RevisionName) (under (codes "revisionName") (target_members t)) ≡ Ok t.revision
  unfolding target_members
  revision_at = ap (optional_text (field.Target i part.RevisionName)) (at (codes "revisionName") (target_fields t) [] _ (or_none (text_field t.revision))) ∙ optional_text_again (field.Target i part.RevisionName) t.revision

  tag_at : optional_text (field.Target i part.Tag) (under (codes "tag") (target_members t)) ≡ Ok t.tag
  unfolding target_members
  tag_at = ap (optional_text (field.Target i part.Tag)) (at (codes "tag") (target_fields t) [] _ (or_none (text_field t.tag))) ∙ optional_text_again (field.Target i part.Tag) t.tag

  target_again : t.url ≡ [] → target_in i (target_json t) ≡ Ok t
  unfolding target_in
  target_again no_url =
      rw (object_of_again (field.Target i part.Whole) (target_members t), configuration_at, latest_at, percent_at, revision_at, tag_at, ← no_url) refl

targets_again : (i : ℕ) (ts : List Target) → HasNoUrls ts → targets_in i (map target_json ts) ≡ Ok ts
unfolding targets_in
targets_again i [] h = refl
targets_again i (t ∷ ts) h = rw (target_again t i h.0, targets_again (suc i) ts h.1) refl

traffic_again : (members : List Member) (ts : List Target) → HasNoUrls ts → optional_array field.Traffic (under (codes "traffic") members) ≡ Ok (map target_json ts) → traffic_in members ≡ Ok ts
unfolding traffic_in
traffic_again members ts h here = rw here (targets_again 0 ts h)

-- ---- the spec

spec_again : (s : ManifestSpec) → IsPlain s → spec_in (kind_of s) (spec_members s) ≡ Ok s
unfolding spec_in spec_members
spec_again (spec.Service template traffic) plain =
    let s = spec.Service template traffic in
    let members = put_fields (spec_fields (spec.Service template traffic)) [] in
    let t : template_in members ≡ Ok template = template_again template members plain.0 (ap (object field.Template) (at (codes "template") (spec_fields (spec.Service template traffic)) [] _ refl) ∙ object_of_again field.Template (template_members template)) in
    let ts : traffic_in members ≡ Ok traffic = traffic_again members traffic plain.1 (ap (optional_array field.Traffic) (at (codes "traffic") (spec_fields (spec.Service template traffic)) [] _ (or_none (array_field (map target_json traffic)))) ∙ array_again field.Traffic (map target_json traffic)) in
    rw (t, ts) refl
spec_again (spec.Configuration template) plain =
    let members = put_fields (spec_fields (spec.Configuration template)) [] in
    let t : template_in members ≡ Ok template = template_again template members plain (ap (object field.Template) (at (codes "template") (spec_fields (spec.Configuration template)) [] _ refl) ∙ object_of_again field.Template (template_members template)) in
    rw t refl
spec_again (spec.Route traffic) plain =
    let members = put_fields (spec_fields (spec.Route traffic)) [] in
    let ts : traffic_in members ≡ Ok traffic = traffic_again members traffic plain (ap (optional_array field.Traffic) (at (codes "traffic") (spec_fields (spec.Route traffic)) [] _ (or_none (array_field (map target_json traffic)))) ∙ array_again field.Traffic (map target_json traffic)) in
    rw ts refl

-- ---- the manifest

named_kind : (s : ManifestSpec) {k : List ℕ} → k ≡ kind_text (kind_of s) → k ≢ []
named_kind (spec.Service template traffic) is empty = absurd cc
named_kind (spec.Configuration template) is empty = absurd cc
named_kind (spec.Route traffic) is empty = absurd cc

some_text : (s : List ℕ) → s ≢ [] → text_field s ≡ None → ⊥
unfolding text_field
some_text [] h e = h refl
some_text (b ∷ bs) h e = absurd cc

module _ (h : Metadata) where
  name_found : find (codes "name") (metadata_members h) ≡ text_field h.name
  unfolding metadata_members
  name_found = find_fields (codes "name") (metadata_fields h) [] ∙ or_none (text_field h.name)

  has_name : h.name ≢ [] → metadata_members h ≢ []
  has_name named empty = some_text h.name named (sym name_found ∙ ap (find (codes "name")) empty)

  top_name_at : h.name ≢ [] → text field.Name (under (codes "name") (metadata_members h)) ≡ Ok h.name
  unfolding metadata_members
  top_name_at named = ap (text field.Name) (at (codes "name") (metadata_fields h) [] _ (or_none (text_field h.name))) ∙ text_again field.Name h.name named

  namespace_at : optional_text field.Namespace (under (codes "namespace") (metadata_members h)) ≡ Ok h.namespace
  unfolding metadata_members
  namespace_at = ap (optional_text field.Namespace) (at (codes "namespace") (metadata_fields h) [] _ (or_none (text_field h.namespace))) ∙ optional_text_again field.Namespace h.namespace

  version_at : optional_text field.ResourceVersion (under (codes "resourceVersion") (metadata_members h)) ≡ Ok h.version
  unfolding metadata_members
  version_at = ap (optional_text field.ResourceVersion) (at (codes "resourceVersion") (metadata_fields h) [] _ (or_none (text_field h.version))) ∙ optional_text_again field.ResourceVersion h.version

  top_labels_at : optional_texts field.Labels (under (codes "labels") (metadata_members h)) ≡ Ok h.labels
  unfolding metadata_members
  top_labels_at = ap (optional_texts field.Labels) (at (codes "labels") (metadata_fields h) [] _ (or_none (texts_field h.labels))) ∙ texts_again field.Labels h.labels

  top_annotations_at : optional_texts field.Annotations (under (codes "annotations") (metadata_members h)) ≡ Ok h.annotations
  unfolding metadata_members
  top_annotations_at = ap (optional_texts field.Annotations) (at (codes "annotations") (metadata_fields h) [] _ (or_none (texts_field h.annotations))) ∙ texts_again field.Annotations h.annotations

module _ (d : Document) where
  api_at : d.api ≢ [] → text field.ApiVersion (under (codes "apiVersion") (document_members d)) ≡ Ok d.api
  unfolding document_members
  api_at given = ap (text field.ApiVersion) (at (codes "apiVersion") (document_fields d) [] _ (or_none (text_field d.api))) ∙ text_again field.ApiVersion d.api given

  kind_at : d.kind ≢ [] → text field.Kind (under (codes "kind") (document_members d)) ≡ Ok d.kind
  unfolding document_members
  kind_at given = ap (text field.Kind) (at (codes "kind") (document_fields d) [] _ (or_none (text_field d.kind))) ∙ text_again field.Kind d.kind given

  top_metadata_at : d.metadata ≢ [] → object field.Metadata (under (codes "metadata") (document_members d)) ≡ Ok d.metadata
  unfolding document_members
  top_metadata_at some =
      ap (object field.Metadata) (at (codes "metadata") (document_fields d) [] _ (or_none (object_field d.metadata))) ∙ object_again field.Metadata d.metadata some

  spec_at : object field.Spec (under (codes "spec") (document_members d)) ≡ Ok d.spec
  unfolding document_members
  spec_at = ap (object field.Spec) (at (codes "spec") (document_fields d) [] _ refl) ∙ object_of_again field.Spec d.spec

-- the manifest that a document of a client kind says
abbrev pub said : List ℕ → List ℕ → Metadata → ManifestSpec → Manifest
said api kind h s = record {
  api = api;
  kind = kind;
  name = h.name;
  namespace = h.namespace;
  version = h.version;
  labels = h.labels;
  annotations = h.annotations;
  spec = s;
}

pub document_again : (api kind : List ℕ) (h : Metadata) (s : ManifestSpec) (status : Option Json) → IsRegular (said api kind h s)
    → shape (kind_of s) (document_json (record { api = api; kind = kind; metadata = metadata_members h; spec = spec_members s; status = status })) ≡ Ok (said api kind h s)
unfolding shape
document_again api kind h s status regular =
    let d : Document = record { api = api; kind = kind; metadata = metadata_members h; spec = spec_members s; status = status } in
    rw (object_of_again field.Body (document_members d), api_at d regular.api, kind_at d (named_kind s regular.kind), top_metadata_at d (has_name h regular.name), top_name_at h regular.name, namespace_at h, version_at h, top_labels_at h, top_annotations_at h, spec_at d, spec_again s regular.plain) refl

pub again : (m : Manifest) → IsRegular m → shape (kind_of m.spec) (written m) ≡ Ok m
again m regular = document_again m.api m.kind (manifest_metadata m) m.spec None regular

-- ---- what is written tells which manifest it is

kind_told : (a b : ClientKind) → kind_text a ≡ kind_text b → a ≡ b
kind_told kind.Service kind.Service e = refl
kind_told kind.Service kind.Configuration e = absurd cc
kind_told kind.Service kind.Route e = absurd cc
kind_told kind.Configuration kind.Service e = absurd cc
kind_told kind.Configuration kind.Configuration e = refl
kind_told kind.Configuration kind.Route e = absurd cc
kind_told kind.Route kind.Service e = absurd cc
kind_told kind.Route kind.Configuration e = absurd cc
kind_told kind.Route kind.Route e = refl

ok_is : {A : Type 0} (x y : A) → (r s : Result A Row) → r ≡ Ok x → s ≡ Ok y → r ≡ s → x ≡ y
ok_is x y r s p q e = cc

pub written_tells : (a b : Manifest) → IsRegular a → IsRegular b → written a ≡ written b → a ≡ b
written_tells a b ra rb same =
    let members : document_members (manifest_document a) ≡ document_members (manifest_document b) = ok_is (document_members (manifest_document a)) (document_members (manifest_document b)) (object field.Body (out-Json (written a))) (object field.Body (out-Json (written b))) (object_of_again field.Body (document_members (manifest_document a))) (object_of_again field.Body (document_members (manifest_document b))) (ap (λ j. object field.Body (out-Json j)) same) in
    let kinds : a.kind ≡ b.kind = ok_is a.kind b.kind (text field.Kind (under (codes "kind") (document_members (manifest_document a)))) (text field.Kind (under (codes "kind") (document_members (manifest_document b)))) (kind_at (manifest_document a) (named_kind a.spec ra.kind)) (kind_at (manifest_document b) (named_kind b.spec rb.kind)) (ap (λ es. text field.Kind (under (codes "kind") es)) members) in
    let one : kind_of a.spec ≡ kind_of b.spec = kind_told (kind_of a.spec) (kind_of b.spec) (sym ra.kind ∙ kinds ∙ rb.kind) in
    ok_is a b (shape (kind_of a.spec) (written a)) (shape (kind_of b.spec) (written b)) (again a ra) (again b rb) (ap₂ shape one same)
