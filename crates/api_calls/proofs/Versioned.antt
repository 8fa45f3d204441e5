-- A patch that isn't refused is the put of what it makes, with the version that stands.
use Rattle.std.proofs.Common.{◌≡◌, ℕ, zero, suc, ◌/◌, ◌%◌, Bool, true, false, cond, List, [], ◌∷◌, Option, Some, None, Result, Ok, Err, refl, sym, ap, subst, ◌∙◌, codes}
use Rattle.std.specs.Prelude.{IfOk}
use Rattle.std.specs.Bool.{◌==◌}
use Rattle.std.specs.Fmt.{decimal, digits, digits_onto, digit_glyph}
use Rattle.std.specs.Str.{bytes_eq}
use Rattle.std.proofs.lemmas.Slice.Eq.{bytes_eq-Decides}
use Rattle.answers.specs.declared.stop.Stop.{Stop}
use Rattle.answers.specs.Answers.{Comes}
use Rattle.json_tree.specs.declared.value.Json.{Json, Str}
use Rattle.json_tree.specs.declared.value.Json.TheViews.{out-Json}
use Rattle.json_tree.specs.declared.value.Json.TheOpen.{Json-F}
use Rattle.json_tree.specs.Tree.{find, put_entry}
use Rattle.resource_types.specs.declared.names.Kind.{Kind}
use Rattle.resource_types.specs.declared.names.ClientKind.{ClientKind}
use Rattle.resource_types.specs.declared.objects.Object.{Object}
use Rattle.resource_types.specs.declared.manifests.Manifest.{Manifest}
use Rattle.resource_types.specs.Lookups.{Journal}
use Rattle.resource_types.specs.Manifests.{object_kind}
use Rattle.resource_codec.specs.declared.fields.Field.{Field}
use Rattle.resource_codec.specs.declared.fields.Field.TheVariants as field
use Rattle.resource_codec.specs.Reading.{◌>>=◌, Member, layer, under, object, text, optional_text, optional_texts}
use Rattle.resource_codec.specs.Shape.{spec_in, shape}
use Rattle.resource_codec.specs.Written.{object_of}
use Rattle.resource_codec.proofs.PutLemmas.{find_put}
use Rattle.resource_codec.proofs.Again.{out_obj}
use Rattle.resource_codec.proofs.Texts.{out_str}
use Rattle.validation.specs.Defaults.{is_empty, defaults_of}
use Rattle.validation.specs.Rules.{first_fault, rules_of}
use Rattle.manifest_intake.specs.Intake.{replace, shaped, ruled, matched, accepted}
use Rattle.manifest_intake.specs.declared.refusal.ManifestRefusal.{ManifestRefusal}
use Rattle.api_outcomes.specs.declared.outcome.Outcome.{Outcome}
use Rattle.api_outcomes.specs.declared.refusal.Refusal.{Refusal}
use Rattle.api_puts.specs.Puts.{standing, object_put}
use Rattle.api_calls.specs.Agreement.{manifest_or_refusal, there, version_text}
use Rattle.api_calls.specs.Calls.{agreeing, replacing, replacing_with, is_absent_or_fresh, patched_document, patching, patching_over}
use Rattle.api_calls.specs.Versioned.{members_versioned, versioned_as, versioned, IsPutOf}

-- ---- steps

-- where what follows a step comes to a value, another does too, if each value of the step leads the one to the other
through : {A B C E : Type 0} (r : Result A E) (f : A → Result B E) (g : A → Result C E) (x : B) (y : C) → ((a : A) → f a ≡ Ok x → g a ≡ Ok y) → r >>= f ≡ Ok x → r >>= g ≡ Ok y
through (Ok a) f g x y h e = h a e
through (Err fault) f g x y h e = cc

-- where a step and what follows it come to a value, what holds for each value of the step holds
past : {A B E P : Type 0} (r : Result A E) (f : A → Result B E) (x : B) → ((a : A) → r ≡ Ok a → f a ≡ Ok x → P) → r >>= f ≡ Ok x → P
past (Ok a) f x h e = h a refl e
past (Err fault) f x h e = absurd cc

-- ---- the shape of a document with a version

-- the manifest of what is read before the labels, and of the fields from there on, each as it stands
abbrev finished : ClientKind → List ℕ → List ℕ → List ℕ → List ℕ → List ℕ → Json-F Json → Json-F Json → Json-F Json → Result Manifest Field
finished kind api word name namespace version labelled annotated given = do
  labels ← optional_texts field.Labels labelled
  annotations ← optional_texts field.Annotations annotated
  members ← object field.Spec given
  spec ← spec_in kind members
  Ok (record { api = api; kind = word; name = name; namespace = namespace; version = version; labels = labels; annotations = annotations; spec = spec })

-- the same of the fields of `metadata` and the spec
abbrev described : ClientKind → List ℕ → List ℕ → Json-F Json → Json-F Json → Json-F Json → Json-F Json → Json-F Json → Json-F Json → Result Manifest Field
described kind api word called space version labelled annotated given = do
  name ← text field.Name called
  namespace ← optional_text field.Namespace space
  version ← optional_text field.ResourceVersion version
  finished kind api word name namespace version labelled annotated given

-- the same of the members of `metadata`
abbrev headed : ClientKind → List ℕ → List ℕ → List Member → Json-F Json → Result Manifest Field
headed kind api word metadata given =
    described kind api word (under (codes "name") metadata) (under (codes "namespace") metadata) (under (codes "resourceVersion") metadata) (under (codes "labels") metadata) (under (codes "annotations") metadata) given

-- the same of the fields of a document
abbrev read : ClientKind → Json-F Json → Json-F Json → Json-F Json → Json-F Json → Result Manifest Field
read kind api word metadata given = do
  api ← text field.ApiVersion api
  word ← text field.Kind word
  metadata ← object field.Metadata metadata
  headed kind api word metadata given

-- the same of the members of a document
abbrev body_read : ClientKind → List Member → Result Manifest Field
body_read kind body = read kind (under (codes "apiVersion") body) (under (codes "kind") body) (under (codes "metadata") body) (under (codes "spec") body)

-- the shape of a manifest, said by these
shape_is : (kind : ClientKind) (json : Json) → shape kind json ≡ object field.Body (out-Json json) >>= body_read kind
unfolding shape
shape_is kind json = refl

-- the manifest with another version
finished_versioned : (kind : ClientKind) (api word name namespace old v : List ℕ) (labelled annotated given : Json-F Json) (m : Manifest)
    → finished kind api word name namespace old labelled annotated given ≡ Ok m → finished kind api word name namespace v labelled annotated given ≡ Ok (record m { version = v })
finished_versioned kind api word name namespace old v labelled annotated given m e =
    through (optional_texts field.Labels labelled) _ _ m (record m { version = v }) (λ labels.
    through (optional_texts field.Annotations annotated) _ _ m (record m { version = v }) (λ annotations.
    through (object field.Spec given) _ _ m (record m { version = v }) (λ members.
    through (spec_in kind members) _ _ m (record m { version = v }) (λ spec is.
    ap (λ (r : Result Manifest Field). r >>= (λ x. Ok (record x { version = v }))) is)))) e

-- with a text for the version
described_versioned : (kind : ClientKind) (api word v : List ℕ) (called space version labelled annotated given : Json-F Json) (m : Manifest)
    → described kind api word called space version labelled annotated given ≡ Ok m → described kind api word called space (Json-F.Str v) labelled annotated given ≡ Ok (record m { version = v })
described_versioned kind api word v called space version labelled annotated given m e =
    through (text field.Name called) _ _ m (record m { version = v }) (λ name.
    through (optional_text field.Namespace space) _ _ m (record m { version = v }) (λ namespace.
    past (optional_text field.ResourceVersion version) _ m (λ old was. finished_versioned kind api word name namespace old v labelled annotated given m))) e

-- what is found under another name than the one put
beside : (l k : List ℕ) (v : Json) (members : List Member) → bytes_eq k l ≡ false → under l (put_entry k v members) ≡ under l members
beside l k v members apart = ap layer (find_put l k v members ∙ ap (λ (b : Bool). cond b (Some v) (find l members)) apart)

-- what is found under the name put
there_put : (k : List ℕ) (v : Json) (members : List Member) → under k (put_entry k v members) ≡ out-Json v
there_put k v members = ap layer (find_put k k v members ∙ ap (λ (b : Bool). cond b (Some v) (find k members)) ((bytes_eq-Decides k k).1 refl))

-- the members of `metadata` with a text for the version
headed_versioned : (kind : ClientKind) (api word v : List ℕ) (metadata : List Member) (given : Json-F Json) (m : Manifest)
    → headed kind api word metadata given ≡ Ok m → headed kind api word (put_entry (codes "resourceVersion") (Str v) metadata) given ≡ Ok (record m { version = v })
headed_versioned kind api word v metadata given m e =
    let version = codes "resourceVersion" in
    rw (
      beside (codes "name") version (Str v) metadata refl,
      beside (codes "namespace") version (Str v) metadata refl,
      there_put version (Str v) metadata,
      out_str v,
      beside (codes "labels") version (Str v) metadata refl,
      beside (codes "annotations") version (Str v) metadata refl,
    )
    (described_versioned kind api word v (under (codes "name") metadata) (under (codes "namespace") metadata) (under version metadata) (under (codes "labels") metadata) (under (codes "annotations") metadata) given m e)

-- the fields of a document, with a text for the version where `metadata` is an object
read_versioned : (kind : ClientKind) (v : List ℕ) (api word given seen : Json-F Json) (body : List Member) (m : Manifest)
    → under (codes "apiVersion") body ≡ api → under (codes "kind") body ≡ word → under (codes "spec") body ≡ given
    → read kind api word seen given ≡ Ok m → body_read kind (members_versioned v seen body) ≡ Ok (record m { version = v })
read_versioned kind v api word given (Json-F.Obj metadata) body m ea ek es e =
    let name = codes "metadata" in
    let put : Json = object_of (put_entry (codes "resourceVersion") (Str v) metadata.entries) in
    rw (
      beside (codes "apiVersion") name put body refl,
      beside (codes "kind") name put body refl,
      beside (codes "spec") name put body refl,
      there_put name put body,
      out_obj (record { entries = put_entry (codes "resourceVersion") (Str v) metadata.entries }),
      ea,
      ek,
      es,
    )
    (through (text field.ApiVersion api) _ _ m (record m { version = v }) (λ api.
    through (text field.Kind word) _ _ m (record m { version = v }) (λ word.
    headed_versioned kind api word v metadata.entries given m)) e)
read_versioned kind v api word given other body m ea ek es e = past (text field.ApiVersion api) _ m (λ api was. past (text field.Kind word) _ m (λ word was wrong. cc)) e

-- the members of a document
body_versioned : (kind : ClientKind) (v : List ℕ) (body : List Member) (m : Manifest) → body_read kind body ≡ Ok m → body_read kind (members_versioned v (under (codes "metadata") body) body) ≡ Ok (record m { version = v })
body_versioned kind v body m e =
    read_versioned kind v (under (codes "apiVersion") body) (under (codes "kind") body) (under (codes "spec") body) (under (codes "metadata") body) body m refl refl refl e

-- a document that is seen as an object or as another value
seen_versioned : (kind : ClientKind) (v : List ℕ) (seen : Json-F Json) (document : Json) (m : Manifest)
    → object field.Body seen >>= body_read kind ≡ Ok m → object field.Body (out-Json (versioned_as v seen document)) >>= body_read kind ≡ Ok (record m { version = v })
seen_versioned kind v (Json-F.Obj body) document m e =
    rw (out_obj (record { entries = members_versioned v (under (codes "metadata") body.entries) body.entries })) (body_versioned kind v body.entries m e)
seen_versioned kind v other document m e = cc

-- a document of the shape keeps it with a text for its version, which is then the version
shape_versioned : (kind : ClientKind) (v : List ℕ) (document : Json) (m : Manifest) → shape kind document ≡ Ok m → shape kind (versioned v document) ≡ Ok (record m { version = v })
unfolding versioned
shape_versioned kind v document m e =
    shape_is kind (versioned v document) ∙ seen_versioned kind v (out-Json document) document m (sym (shape_is kind document) ∙ e)

-- ---- the manifest of a document with a version

-- what a manifest must match and its rules don't look at the version
accepted_as : (space name v : List ℕ) (kind : ClientKind) (document put : Json) (r : Result Manifest Field) (m : Manifest)
    → shape kind document ≡ r → ((x : Manifest) → shape kind document ≡ Ok x → shape kind put ≡ Ok (record x { version = v }))
    → accepted (replace space name) kind document ≡ Ok m → accepted (replace space name) kind put ≡ Ok (record m { version = v })
unfolding accepted matched rules_of
accepted_as space name v kind document put (Ok x) m is shaped e =
    let before = rw is at e in
    rw (shaped x is) (through (matched (replace space name) kind x) _ _ m (record m { version = v }) (λ matches.
    through (ruled (first_fault (rules_of (defaults_of x)))) _ _ m (record m { version = v }) (λ kept is.
    ap (λ (r : Result Manifest ManifestRefusal). r >>= (λ x. Ok (record x { version = v }))) is)) before)
accepted_as space name v kind document put (Err fault) m is shaped e = let before = rw is at e in absurd cc

-- the manifest of a document with a text for its version is that of the document, but for the version
accepted_versioned : (space name v : List ℕ) (kind : ClientKind) (document : Json) (m : Manifest)
    → accepted (replace space name) kind document ≡ Ok m → accepted (replace space name) kind (versioned v document) ≡ Ok (record m { version = v })
accepted_versioned space name v kind document m e = accepted_as space name v kind document (versioned v document) (shape kind document) m refl (shape_versioned kind v document) e

-- a manifest that isn't refused was accepted
accepted_ok : (r : Result Manifest ManifestRefusal) (m : Manifest) → manifest_or_refusal r ≡ Ok m → r ≡ Ok m
accepted_ok (Ok x) m e = cc
accepted_ok (Err refusal) m e = absurd cc

-- ---- a number in decimals

-- what isn't empty either way isn't empty
either_some : (b : Bool) (xs ys : List ℕ) → is_empty xs ≡ false → is_empty ys ≡ false → is_empty (cond b xs ys) ≡ false
either_some true xs ys e f = e
either_some false xs ys e f = f

-- digits in front of some aren't empty
onto_some : (k base : ℕ) (upper : Bool) (n d : ℕ) (ds : List ℕ) → is_empty (digits_onto k base upper n (d ∷ ds)) ≡ false
onto_some zero base upper n d ds = refl
onto_some (suc k) base upper n d ds = either_some (n / base == 0) _ _ refl (onto_some k base upper (n / base) (digit_glyph upper (n % base)) (d ∷ ds))

-- at least one digit is written
digits_some : (k base : ℕ) (upper : Bool) (n : ℕ) (ds : List ℕ) → is_empty (digits_onto (suc k) base upper n ds) ≡ false
digits_some k base upper n ds = either_some (n / base == 0) _ _ refl (onto_some k base upper (n / base) (digit_glyph upper (n % base)) ds)

-- the text of a number isn't empty
decimal_some : (n : ℕ) → is_empty (decimal n) ≡ false
unfolding digits
decimal_some n = digits_some 63 10 false n []

-- ---- the put

-- what a manifest that agrees with the object that stands comes to, it comes to with another version too, where that is found fresh
agrees : (journal : Journal) (moment : ℕ) (kind : ClientKind) (space name v : List ℕ) (old : Object) (is_fresh : Bool) (m : Manifest) (o : Outcome)
    → agreeing journal moment kind space name old is_fresh m ≡ Ok o → agreeing journal moment kind space name old true (record m { version = v }) ≡ Ok o
unfolding agreeing object_put
agrees journal moment kind space name v old true m o e = e
agrees journal moment kind space name v old false m o e = absurd cc

-- a document with the version that stands replaces what stands, where the document takes its place
puts_versioned : (journal : Journal) (moment : ℕ) (kind : ClientKind) (space name : List ℕ) (old : Object) (document : Json) (is_fresh : Bool) (m : Manifest) (o : Outcome)
    → standing journal (object_kind kind) space name ≡ Some old → accepted (replace space name) kind document ≡ Ok m → agreeing journal moment kind space name old is_fresh m ≡ Ok o
    → replacing journal moment kind space name (versioned (version_text old) document) ≡ Ok o
unfolding replacing replacing_with
puts_versioned journal moment kind space name old document is_fresh m o stands e h =
    let v = version_text old in
    rw (accepted_versioned space name v kind document m e, decimal_some old.meta.stamp.version, stands, (bytes_eq-Decides v v).1 refl)
    (agrees journal moment kind space name v old is_fresh m o h)

-- the patch of an object that stands is such a put
over_is : (journal : Journal) (moment : ℕ) (kind : ClientKind) (space name : List ℕ) (patch : Json) (old : Object) (o : Outcome)
    → standing journal (object_kind kind) space name ≡ Some old → patching_over journal moment kind space name old (patched_document old patch) ≡ Ok o
    → IsPutOf journal moment kind space name patch o
unfolding patching_over
over_is journal moment kind space name patch old o stands e =
    let document = patched_document old patch in
    let accepts = accepted (replace space name) kind document in
    past (manifest_or_refusal accepts) _ o (λ m was is. record {
      old = old;
      stands = stands;
      put = puts_versioned journal moment kind space name old document (is_absent_or_fresh old m.version) m o stands (accepted_ok accepts m was) is;
    }) e

-- what is there stands
there_ok : (kind : Kind) (name : List ℕ) (found : Option Object) (old : Object) → there kind name found ≡ Ok old → found ≡ Some old
there_ok kind name None old e = absurd cc
there_ok kind name (Some o) old e = cc

-- A patch that isn't refused is the put of what it makes of the document that stands, with the version that stands.
pub patch_is_put : (journal : Journal) (moment : ℕ) (kind : ClientKind) (space name : List ℕ) (patch : Json) (o : Outcome)
    → patching journal moment kind space name patch ≡ Ok o → IsPutOf journal moment kind space name patch o
unfolding patching
patch_is_put journal moment kind space name patch o e =
    let found = standing journal (object_kind kind) space name in
    past (there (object_kind kind) name found) _ o (λ old was is. over_is journal moment kind space name patch old o (there_ok (object_kind kind) name found old was) is) e

-- the same of what is put over what stands, where it isn't refused
pub over_as_put : (result : Result Outcome (Stop Refusal)) (journal : Journal) (moment : ℕ) (kind : ClientKind) (k : Kind) (space name : List ℕ) (patch : Json) (old : Object) (document : Json)
    → k ≡ object_kind kind → standing journal k space name ≡ Some old → document ≡ patched_document old patch
    → Comes result (patching_over journal moment kind space name old document) → IfOk result (IsPutOf journal moment kind space name patch)
over_as_put (Ok o) journal moment kind k space name patch old document ek stands ed h =
    over_is journal moment kind space name patch old o (subst (λ (x : Kind). standing journal x space name ≡ Some old) ek stands)
    (subst (λ (d : Json). patching_over journal moment kind space name old d ≡ Ok o) ed h)
over_as_put (Err stop) journal moment kind k space name patch old document ek stands ed h = tt
