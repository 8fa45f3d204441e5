-- What a client's accepted manifest asks for is good.
use Rattle.std.proofs.Common.{◌≡◌, ◌≢◌, ℕ, suc, Bool, true, false, List, [], ◌∷◌, map, Result, Ok, Err, IfOk, refl, sym, ap, ◌∙◌, subst}
use Rattle.std.specs.Prelude.{filter, bytes_eq, cond, codes}
use Rattle.std.specs.List.{list_all}
use Rattle.std.proofs.lemmas.Slice.Eq.{bytes_eq-Decides}
use Rattle.json_tree.specs.declared.value.Json.{Json}
use Rattle.json_tree.specs.declared.value.Json.TheViews.{out-Json}
use Rattle.serve_names.specs.Labels.{is_label_of}
use Rattle.resource_types.specs.declared.names.ClientKind.{ClientKind}
use Rattle.resource_types.specs.declared.names.ClientKind.TheVariants as client
use Rattle.resource_types.specs.declared.names.Name.{Name}
use Rattle.resource_types.specs.declared.specification.Target.{Target}
use Rattle.resource_types.specs.declared.manifests.Manifest.{Manifest}
use Rattle.resource_types.specs.declared.manifests.ManifestSpec.{ManifestSpec}
use Rattle.resource_types.specs.declared.manifests.ManifestSpec.TheVariants as spec
use Rattle.resource_types.specs.declared.objects.Object.{Object}
use Rattle.resource_types.specs.Manifests.{api_version, kind_text, manifest_spec}
use Rattle.resource_codec.specs.declared.fields.Field.{Field}
use Rattle.resource_codec.specs.declared.fields.Field.TheVariants as field
use Rattle.resource_codec.specs.declared.fields.TargetField.TheVariants as part
use Rattle.answers.specs.Answers.{requires_that}
use Rattle.resource_codec.specs.Reading.{◌>>=◌, Member, is_rest, under, object, text, optional_object, optional_text, optional_number, optional_truth, optional_array, optional_texts}
use Rattle.resource_codec.specs.Shape.{template_in, target_in, targets_in, traffic_in, spec_in, shape}
use Rattle.resource_codec.specs.Written.{kind_of, HasNoUrls, HasPlainRest, IsPlain}
use Rattle.resource_codec.specs.Sound.{RestOfSpecFits, ManifestRises}
use Rattle.validation.specs.Defaults.{default_target, service_targets, default_spec, defaults_of}
use Rattle.validation.specs.Rules.{Verdict, first_fault, rules_of}
use Rattle.validation.proofs.Filled.{defaults_again}
use Rattle.manifest_intake.specs.declared.refusal.ManifestRefusal.{ManifestRefusal}
use Rattle.manifest_intake.specs.declared.refusal.Part.TheVariants as part_of
use Rattle.manifest_intake.specs.declared.refusal.ManifestRefusal.TheVariants.{Mismatch, VersionGiven}
use Rattle.manifest_intake.specs.Intake.{Purpose, replace, fits_namespace, fits_name, fits_version, shaped, ruled, matched, accepted}
use Rattle.manifest_intake.specs.Good.{IsGood, IsAskedBy, asked_of}
use Rattle.validation.proofs.Lines.{kept_from}
use Rattle.manifest_intake.proofs.Parts.{IsGoodAt, parts_good}

-- ---- one step after another

-- what holds of what each step gives, holds of what the last one gives
chain : {A B E : Type 0} (Q : A → Type 0) (P : B → Type 0) (v : Result A E) (f : A → Result B E) → IfOk v Q → ((x : A) → Q x → IfOk (f x) P) → IfOk (v >>= f) P
chain Q P (Ok x) f q h = h x q
chain Q P (Err e) f q h = tt

-- the same of a step of which nothing is said
step : {A B E : Type 0} (P : B → Type 0) (v : Result A E) (f : A → Result B E) → ((x : A) → IfOk (f x) P) → IfOk (v >>= f) P
step P (Ok x) f h = h x
step P (Err e) f h = tt

-- ---- what reading gives is plain

all_pass : {A : Type 0} (test : A → Bool) (xs : List A) → list_all test (filter test xs) ≡ true
all_pass test [] = refl
all_pass test (x ∷ xs) = go (test x) refl (all_pass test xs)
  where
    go : (b : Bool) → test x ≡ b → list_all test (filter test xs) ≡ true → list_all test (cond b (x ∷ filter test xs) (filter test xs)) ≡ true
    go true e ih = rw e ih
    go false e ih = ih

template_plain : (members : List Member) → IfOk (template_in members) HasPlainRest
unfolding template_in
template_plain members =
    step HasPlainRest (object field.Template (under (codes "template") members)) _ (λ template.
    step HasPlainRest (optional_object field.TemplateMetadata (under (codes "metadata") template)) _ (λ metadata.
    step HasPlainRest (optional_text field.TemplateName (under (codes "name") metadata)) _ (λ name.
    step HasPlainRest (optional_texts field.TemplateLabels (under (codes "labels") metadata)) _ (λ labels.
    step HasPlainRest (optional_texts field.TemplateAnnotations (under (codes "annotations") metadata)) _ (λ annotations.
    step HasPlainRest (object field.TemplateSpec (under (codes "spec") template)) _ (λ pod.
    step HasPlainRest (optional_number field.Concurrency (under (codes "containerConcurrency") pod)) _ (λ concurrency.
    step HasPlainRest (optional_number field.Timeout (under (codes "timeoutSeconds") pod)) _ (λ timeout.
    all_pass is_rest pod))))))))

abbrev HasNoUrl : Target → Type 0
HasNoUrl t = t.url ≡ []

target_plain : (i : ℕ) (json : Json) → IfOk (target_in i json) HasNoUrl
unfolding target_in
target_plain i json =
    step HasNoUrl (object (field.Target i part.Whole) (out-Json json)) _ (λ target.
    step HasNoUrl (optional_text (field.Target i part.ConfigurationName) (under (codes "configurationName") target)) _ (λ configuration.
    step HasNoUrl (optional_truth (field.Target i part.LatestRevision) (under (codes "latestRevision") target)) _ (λ latest.
    step HasNoUrl (optional_number (field.Target i part.Percent) (under (codes "percent") target)) _ (λ percent.
    step HasNoUrl (optional_text (field.Target i part.RevisionName) (under (codes "revisionName") target)) _ (λ revision.
    step HasNoUrl (optional_text (field.Target i part.Tag) (under (codes "tag") target)) _ (λ tag.
    refl))))))

targets_plain : (i : ℕ) (jsons : List Json) → IfOk (targets_in i jsons) HasNoUrls
unfolding targets_in
targets_plain i [] = tt
targets_plain i (json ∷ jsons) =
    chain HasNoUrl HasNoUrls (target_in i json) _ (target_plain i json) (λ t p. chain HasNoUrls HasNoUrls (targets_in (suc i) jsons) _ (targets_plain (suc i) jsons) (λ ts q. (p, q)))

traffic_plain : (members : List Member) → IfOk (traffic_in members) HasNoUrls
unfolding traffic_in
traffic_plain members = step HasNoUrls (optional_array field.Traffic (under (codes "traffic") members)) _ (λ jsons. targets_plain 0 jsons)

-- the spec is of the kind, and plain
record IsRead (kind : ClientKind) (s : ManifestSpec) : Type 0 where
  pub fits : kind_of s ≡ kind
  pub plain : IsPlain s

spec_read : (kind : ClientKind) (members : List Member) → IfOk (spec_in kind members) (IsRead kind)
unfolding spec_in
spec_read client.Service members =
    chain HasPlainRest (IsRead client.Service) (template_in members) _ (template_plain members) (λ t p.
    chain HasNoUrls (IsRead client.Service) (traffic_in members) _ (traffic_plain members) (λ ts q. record { fits = refl; plain = (p, q) }))
spec_read client.Configuration members =
    chain HasPlainRest (IsRead client.Configuration) (template_in members) _ (template_plain members) (λ t p. record { fits = refl; plain = p })
spec_read client.Route members =
    chain HasNoUrls (IsRead client.Route) (traffic_in members) _ (traffic_plain members) (λ ts q. record { fits = refl; plain = q })

abbrev IsReadAs : ClientKind → Manifest → Type 0
IsReadAs kind m = IsRead kind m.spec

shape_read : (kind : ClientKind) (json : Json) → IfOk (shape kind json) (IsReadAs kind)
unfolding shape
shape_read kind json =
    step (IsReadAs kind) (object field.Body (out-Json json)) _ (λ body.
    step (IsReadAs kind) (text field.ApiVersion (under (codes "apiVersion") body)) _ (λ api.
    step (IsReadAs kind) (text field.Kind (under (codes "kind") body)) _ (λ word.
    step (IsReadAs kind) (object field.Metadata (under (codes "metadata") body)) _ (λ metadata.
    step (IsReadAs kind) (text field.Name (under (codes "name") metadata)) _ (λ name.
    step (IsReadAs kind) (optional_text field.Namespace (under (codes "namespace") metadata)) _ (λ namespace.
    step (IsReadAs kind) (optional_text field.ResourceVersion (under (codes "resourceVersion") metadata)) _ (λ version.
    step (IsReadAs kind) (optional_texts field.Labels (under (codes "labels") metadata)) _ (λ labels.
    step (IsReadAs kind) (optional_texts field.Annotations (under (codes "annotations") metadata)) _ (λ annotations.
    step (IsReadAs kind) (object field.Spec (under (codes "spec") body)) _ (λ members.
    chain (IsRead kind) (IsReadAs kind) (spec_in kind members) _ (spec_read kind members) (λ s r. r)))))))))))

-- ---- defaults leave it plain

urls_filled : (ts : List Target) → HasNoUrls ts → HasNoUrls (map default_target ts)
urls_filled [] h = tt
urls_filled (t ∷ ts) h = (h.0, urls_filled ts h.1)

urls_given : (ts : List Target) → HasNoUrls ts → HasNoUrls (service_targets ts)
urls_given [] h = (refl, tt)
urls_given (t ∷ ts) h = urls_filled (t ∷ ts) h

read_filled : (kind : ClientKind) (s : ManifestSpec) → IsRead kind s → IsRead kind (default_spec s)
read_filled kind (spec.Service template traffic) r = record { fits = r.fits; plain = (r.plain.0, urls_given traffic r.plain.1) }
read_filled kind (spec.Configuration template) r = record { fits = r.fits; plain = r.plain }
read_filled kind (spec.Route traffic) r = record { fits = r.fits; plain = urls_filled traffic r.plain }

-- ---- what is accepted

record IsAccepted (kind : ClientKind) (m : Manifest) : Type 0 where
  pub api : m.api ≡ api_version
  pub read : IsRead kind m.spec
  pub valid : first_fault (rules_of m) ≡ Ok tt
  pub full : defaults_of m ≡ m

shaped_gives : {A : Type 0} (Q : A → Type 0) (r : Result A Field) → IfOk r Q → IfOk (shaped r) Q
shaped_gives Q (Ok x) q = q
shaped_gives Q (Err e) q = tt

keeps_gives : (holds : Bool) (refusal : ManifestRefusal) → IfOk (requires_that holds refusal) (λ done. holds ≡ true)
keeps_gives true refusal = refl
keeps_gives false refusal = tt

keeps_all : (P : Unit {0} → Type 0) (holds : Bool) (refusal : ManifestRefusal) → P tt → IfOk (requires_that holds refusal) P
keeps_all P true refusal p = p
keeps_all P false refusal p = tt

ruled_gives : (v : Verdict) → IfOk (ruled v) (λ done. v ≡ Ok tt)
ruled_gives (Ok done) = refl
ruled_gives (Err invalid) = tt

abbrev NamesApi : Manifest → Unit {0} → Type 0
NamesApi m done = m.api ≡ api_version

matched_gives : (purpose : Purpose) (kind : ClientKind) (m : Manifest) → IfOk (matched purpose kind m) (NamesApi m)
unfolding matched
matched_gives purpose kind m =
    chain (λ done. bytes_eq m.api api_version ≡ true) (NamesApi m) (requires_that (bytes_eq m.api api_version) (Mismatch part_of.ApiVersion)) _ (keeps_gives (bytes_eq m.api api_version) (Mismatch part_of.ApiVersion)) (λ api e.
    step (NamesApi m) (requires_that (bytes_eq m.kind (kind_text kind)) (Mismatch part_of.Kind)) _ (λ word.
    step (NamesApi m) (requires_that (fits_namespace purpose m.namespace) (Mismatch part_of.Namespace)) _ (λ namespace.
    step (NamesApi m) (requires_that (fits_name purpose m.name) (Mismatch part_of.Name)) _ (λ name.
    keeps_all (NamesApi m) (fits_version purpose m.version) VersionGiven ((bytes_eq-Decides m.api api_version).0 e)))))

accepted_gives : (purpose : Purpose) (kind : ClientKind) (json : Json) → IfOk (accepted purpose kind json) (IsAccepted kind)
unfolding accepted
accepted_gives purpose kind json =
    chain (IsReadAs kind) (IsAccepted kind) (shaped (shape kind json)) _ (shaped_gives (IsReadAs kind) (shape kind json) (shape_read kind json)) (λ m r.
    chain (NamesApi m) (IsAccepted kind) (matched purpose kind m) _ (matched_gives purpose kind m) (λ matches api.
    chain (λ done. first_fault (rules_of (defaults_of m)) ≡ Ok tt) (IsAccepted kind) (ruled (first_fault (rules_of (defaults_of m)))) _ (ruled_gives _) (λ kept valid.
    record { api = api; read = read_filled kind m.spec r; valid = valid; full = defaults_again m })))

-- ---- what is asked for

-- the version of the API isn't empty
api_some : api_version ≢ []
api_some h = cc

label_some : (text : List ℕ) → is_label_of text 42 ≡ true → text ≢ []
unfolding is_label_of
label_some [] h = absurd cc
label_some (x ∷ xs) h = λ q. absurd cc

ok_gives : {A E : Type 0} (P : A → Type 0) (v : Result A E) (x : A) → v ≡ Ok x → IfOk v P → P x
ok_gives P v x e h = subst (λ w. IfOk w P) e h

-- What an accepted manifest asks for is good, in a namespace that is a label, where the rest of its spec is at most 29 deep, and its names rise.
pub accepted_good : (purpose : Purpose) (kind : ClientKind) (json : Json) (m : Manifest) (space : List ℕ) (o : Object) → accepted purpose kind json ≡ Ok m
    → RestOfSpecFits 3 32 m.spec → ManifestRises m → is_label_of space 63 ≡ true → IsAskedBy kind space m o → IsGood (asked_of o)
unfolding rules_of
accepted_good purpose kind json m space o e rest rise label by = go (ok_gives (IsAccepted kind) _ m e (accepted_gives purpose kind json))
  where
    n : Name
    n = record { space = space; name = m.name }

    -- the parts of the manifest are those of what is asked for
    said : IsGoodAt n m.labels m.annotations m.spec → IsGoodAt n o.meta.labels o.meta.annotations (manifest_spec o.body)
    said g =
        subst (IsGoodAt n o.meta.labels o.meta.annotations) (sym by.spec)
        (subst (λ a. IsGoodAt n o.meta.labels a m.spec) (sym by.annotations) (subst (λ l. IsGoodAt n l m.annotations m.spec) (sym by.labels) g))

    own : IsAccepted kind m → IsGoodAt n m.labels m.annotations m.spec
    own a = (let kept = kept_from (rules_of m) a.valid in record {
      label = kept.0;
      some = label_some m.name kept.0;
      space = label;
      labels_rise = rise.0;
      annotations_rise = rise.1.0;
      spec = record { lines = kept.1; full = ap (λ (x : Manifest). x.spec) a.full; plain = a.read.plain; rest = rest; rise = rise.1.1 };
    })

    go : IsAccepted kind m → IsGood (asked_of o)
    go a = parts_good kind n o by.key (ap kind_of by.spec ∙ a.read.fits) api_some (said (own a))

-- ---- its name

abbrev IsNamed : List ℕ → Manifest → Type 0
IsNamed name m = m.name ≡ name

abbrev Names : List ℕ → Manifest → Unit {0} → Type 0
Names name m done = m.name ≡ name

matched_names : (space name : List ℕ) (kind : ClientKind) (m : Manifest) → IfOk (matched (replace space name) kind m) (Names name m)
unfolding matched
matched_names space name kind m =
    step (Names name m) (requires_that (bytes_eq m.api api_version) (Mismatch part_of.ApiVersion)) _ (λ api.
    step (Names name m) (requires_that (bytes_eq m.kind (kind_text kind)) (Mismatch part_of.Kind)) _ (λ word.
    step (Names name m) (requires_that (fits_namespace (replace space name) m.namespace) (Mismatch part_of.Namespace)) _ (λ namespace.
    chain (λ done. bytes_eq m.name name ≡ true) (Names name m) (requires_that (bytes_eq m.name name) (Mismatch part_of.Name)) _ (keeps_gives (bytes_eq m.name name) (Mismatch part_of.Name)) (λ named e.
    keeps_all (Names name m) (fits_version (replace space name) m.version) VersionGiven ((bytes_eq-Decides m.name name).0 e)))))

accepted_names : (space name : List ℕ) (kind : ClientKind) (json : Json) → IfOk (accepted (replace space name) kind json) (IsNamed name)
unfolding accepted
accepted_names space name kind json =
    step (IsNamed name) (shaped (shape kind json)) _ (λ m.
    chain (Names name m) (IsNamed name) (matched (replace space name) kind m) _ (matched_names space name kind m) (λ matches e.
    step (IsNamed name) (ruled (first_fault (rules_of (defaults_of m)))) _ (λ kept. e)))

-- what takes the place of an object has its name
pub accepted_name : (space name : List ℕ) (kind : ClientKind) (json : Json) (m : Manifest) → accepted (replace space name) kind json ≡ Ok m → m.name ≡ name
accepted_name space name kind json m e = ok_gives (IsNamed name) _ m e (accepted_names space name kind json)
