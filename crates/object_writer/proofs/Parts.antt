-- The parts of a document: metadata that is empty or not, and the document around its spec.
use Rattle.std.proofs.Common.{◌≡◌, ◌≢◌, ℕ, Option, Some, None, List, [], ◌∷◌, ◌++◌, map, codes, refl, sym, ap, ◌∙◌}
use Rattle.json.specs.Token.{Token, key, begin_object, end_object}
use Rattle.json_tree.specs.declared.value.Json.{Json, Nat}
use Rattle.json_tree.specs.declared.members.Table.{Table}
use Rattle.resource_types.specs.declared.objects.Body.{Body}
use Rattle.resource_types.specs.declared.objects.Object.{Object}
use Rattle.resource_types.specs.declared.specification.Template.{Template}
use Rattle.resource_types.specs.declared.status.ObjectStatus.{ObjectStatus}
use Rattle.resource_types.specs.Manifests.{api_version, kind_word}
use Rattle.resource_codec.specs.Reading.{Member}
use Rattle.resource_codec.specs.Written.{Field, add_field, text_field, texts_field, number_field, object_field, array_field, text_member, object_of, template_metadata, template_metadata_fields, metadata_fields, metadata_members, Document, document_fields, document_members}
use Rattle.resource_codec.specs.Objects.{object_metadata, object_document, status_json, body_json, encoded}
use Rattle.resource_codec.proofs.InOrder.{add_fields, in_order}
use Rattle.object_writer.specs.Tokens.{with_value, with_field, with_fields}
use Rattle.object_writer.specs.Documents.{body_labels, body_annotations, head_fields}
use Rattle.object_writer.proofs.Tokens.{object_written, field_written}

-- ---- members that were added

some_added : (k : List ℕ) (j : Json) (es : List Member) → add_field k (Some j) es ≢ []
unfolding add_field
some_added k j [] e = cc
some_added k j (x ∷ es) e = cc

still_added : (k : List ℕ) (o : Option Json) (es : List Member) → es ≢ [] → add_field k o es ≢ []
unfolding add_field
still_added k None es some = some
still_added k (Some j) es some = some_added k j es

kept_some : (fs : List Field) (es : List Member) → es ≢ [] → add_fields fs es ≢ []
kept_some [] es some = some
kept_some (f ∷ fs) es some = kept_some fs (add_field f.0 f.1 es) (still_added f.0 f.1 es some)

-- ---- metadata

-- an object's metadata has its generation
pub metadata_some : (o : Object) (labels annotations : Table (List ℕ)) → metadata_members (object_metadata o labels annotations) ≢ []
unfolding metadata_members number_field
metadata_some o labels annotations e =
    let h = object_metadata o labels annotations in
    let first = add_field (codes "creationTimestamp") (text_field h.created) (add_field (codes "annotations") (texts_field h.annotations) []) in
    kept_some (
    (codes "labels", texts_field h.labels) ∷
    (codes "name", text_field h.name) ∷
    (codes "namespace", text_field h.namespace) ∷
    (codes "ownerReferences", array_field h.owners) ∷
    (codes "resourceVersion", text_field h.version) ∷
    (codes "uid", text_field h.uid) ∷ [])
    (add_field (codes "generation") (Some (Nat o.meta.stamp.generation)) first)
    (some_added (codes "generation") (Nat o.meta.stamp.generation) first)
    (in_order (metadata_fields h) refl ∙ e)

all_absent : (a b c : List ℕ) (o p q : Option Json) → add_fields ((a, o) ∷ (b, p) ∷ (c, q) ∷ []) [] ≡ [] → (o ≡ None) × (p ≡ None) × (q ≡ None)
all_absent a b c (Some j) p q e = absurd (kept_some ((b, p) ∷ (c, q) ∷ []) (add_field a (Some j) []) (some_added a j []) e)
all_absent a b c None (Some j) q e = absurd (kept_some ((c, q) ∷ []) (add_field b (Some j) (add_field a None [])) (some_added b j (add_field a None [])) e)
all_absent a b c None None (Some j) e = absurd (some_added c j (add_field b None (add_field a None [])) e)
all_absent a b c None None None e = (refl, refl, refl)

no_text : (t : List ℕ) → text_field t ≡ None → t ≡ []
unfolding text_field
no_text [] e = refl
no_text (b ∷ bs) e = absurd cc

no_object : (es : List (List ℕ × List ℕ)) → object_field (map text_member es) ≡ None → es ≡ []
unfolding object_field
no_object [] e = refl
no_object (x ∷ es) e = absurd cc

no_texts : (t : Table (List ℕ)) → texts_field t ≡ None → t.entries ≡ []
unfolding texts_field
no_texts t e = no_object t.entries e

-- a template's metadata is empty only where each part is
pub bare_parts : (t : Template) → template_metadata t ≡ [] → (t.annotations.entries ≡ []) × (t.labels.entries ≡ []) × (t.name ≡ [])
unfolding template_metadata
bare_parts t e =
    let parts = all_absent (codes "annotations") (codes "labels") (codes "name") (texts_field t.annotations) (texts_field t.labels) (text_field t.name)
    (in_order (template_metadata_fields t) refl ∙ e) in
    (no_texts t.annotations parts.0, no_texts t.labels parts.1, no_text t.name parts.2)

absent_object : (es : List (List ℕ × List ℕ)) → es ≡ [] → object_field (map text_member es) ≡ None
unfolding object_field
absent_object [] e = refl
absent_object (x ∷ es) e = absurd cc

absent_texts : (t : Table (List ℕ)) → t.entries ≡ [] → texts_field t ≡ None
unfolding texts_field
absent_texts t e = absent_object t.entries e

absent_text : (t : List ℕ) → t ≡ [] → text_field t ≡ None
unfolding text_field
absent_text [] e = refl
absent_text (b ∷ bs) e = absurd cc

-- and is where each is
pub bare : (t : Template) → t.annotations.entries ≡ [] → t.labels.entries ≡ [] → t.name ≡ [] → template_metadata t ≡ []
unfolding template_metadata add_field
bare t a l n =
    sym (in_order (template_metadata_fields t) refl)
    ∙ rw (absent_texts t.annotations a, absent_texts t.labels l, absent_text t.name n) refl

-- ---- an empty field

pub nothing_written : (k : List ℕ) (ts : List Token) → ts ≡ with_field k (array_field []) ts
unfolding with_field array_field
nothing_written k ts = refl

no_members : (k : List ℕ) (es : List Member) (ts : List Token) → es ≡ [] → ts ≡ with_field k (object_field es) ts
unfolding with_field object_field
no_members k [] ts e = refl
no_members k (x ∷ es) ts e = absurd cc

pub object_absent : (k : List ℕ) (es : List Member) (ts : List Token) → es ≡ [] → ts ≡ with_field k (object_field es) ts
object_absent = no_members

-- ---- the document

-- the head, the spec and the tail of a document are its object, where that shows the object's labels and annotations
pub document_written : (o : Object) (b : Body) (spec : List Member) (status : ObjectStatus) (ts : List Token) → o.body ≡ b
    → object_document o (body_labels o b) (body_annotations o b) spec status ≡ body_json o b
    → with_field (codes "status") (Some (status_json status)) (with_value (object_of spec) (with_fields (head_fields o) (ts ++ begin_object ∷ []) ++ key (codes "spec") ∷ [])) ++ end_object ∷ []
    ≡ with_value (encoded o) ts
unfolding document_members
document_written o b spec status ts is shown =
    let head = with_fields (head_fields o) (ts ++ begin_object ∷ []) in
    let d : Document = record {
      api = api_version;
      kind = kind_word o.key.kind;
      metadata = metadata_members (object_metadata o (body_labels o o.body) (body_annotations o o.body));
      spec = spec;
      status = Some (status_json status);
    } in
    ap (λ x. with_field (codes "status") (Some (status_json status)) x ++ end_object ∷ []) (field_written (codes "spec") (object_of spec) head)
    ∙ object_written (document_fields d) ts refl
    ∙ ap (λ x. with_value (object_document o (body_labels o x) (body_annotations o x) spec status) ts) is
    ∙ ap (λ j. with_value j ts) shown
    ∙ ap (λ x. with_value (body_json o x) ts) (sym is)
