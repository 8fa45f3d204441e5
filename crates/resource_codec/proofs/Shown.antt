-- What is shown of an object is well formed, and is read as the object's manifest.
use Rattle.std.proofs.Common.{◌≡◌, ℕ, ◌≤◌, true, codes, List, [], ◌∷◌, Option, Some, None, Ok, refl, sym, ap, subst, arith}
use Rattle.serde_json.specs.Data.{Data, depth}
use Rattle.json_tree.specs.Tree.{names_of, names_rise, is_well}
use Rattle.json_tree.specs.declared.value.Json.{Json}
use Rattle.json_tree.specs.declared.members.Table.{Table}
use Rattle.json_tree.proofs.Laws.{data_of-Null}
use Rattle.json_tree.proofs.Rising.{rises-put_entry}
use Rattle.resource_types.specs.Manifests.{api_version, kind_word, manifest_spec, manifest_of}
use Rattle.resource_types.specs.declared.metadata.Owner.{Owner}
use Rattle.resource_types.specs.declared.conditions.Condition.{Condition}
use Rattle.resource_types.specs.declared.specification.Row.{Row}
use Rattle.resource_types.specs.declared.specification.Target.{Target}
use Rattle.resource_types.specs.declared.status.ObjectStatus.{ObjectStatus}
use Rattle.resource_types.specs.declared.objects.Body.{Body}
use Rattle.resource_types.specs.declared.objects.Body.TheVariants.{Service, Configuration, Revision, Route, Health, Table as Published}
use Rattle.resource_types.specs.declared.objects.Object.{Object}
use Rattle.resource_types.specs.declared.manifests.Manifest.{Manifest}
use Rattle.resource_types.specs.declared.manifests.ManifestSpec.TheVariants as spec
use Rattle.serve_names.specs.Uids.{uid_bytes}
use Rattle.std.specs.Fmt.{decimal}
use Rattle.resource_codec.specs.Reading.{Member}
use Rattle.resource_codec.specs.Shape.{shape}
use Rattle.resource_codec.specs.Sound.{Fits, Sound}
use Rattle.resource_codec.specs.Written.{object_of, text_field, array_field, pod_members, target_members, spec_members, kind_of, Rises, IsRegular}
use Rattle.resource_codec.specs.Objects.{shown_moment, owner_fields, owner_members, owners_of, object_metadata, truth_word, condition_word, severity_word, condition_fields, condition_members, condition_json, published_members, published_json, observed_generation, status_fields, status_members, status_json, shown_labels, shown_annotations, with_routes, joined, routing_state, row_fields, row_members, row_json, other_namespace, table_fields, table_members, table_json, object_document, body_json, encoded, IsClientBody, IsWellBody, IsWellObject}
use Rattle.resource_codec.proofs.Sounds.{FieldFits, both_true, sound_field, sound_fields, no_members, object_fits, text_fits, number_fits, truth_fits, array_field_fits, list_fits, more}
use Rattle.resource_codec.proofs.Well.{no_array, metadata_sound, document_fits, pod_sound, target_sound, spec_sound}
use Rattle.resource_codec.proofs.Again.{said, document_again}

-- ---- the parts

owner_fits : (o : Owner) → Fits 1 (object_of (owner_members o))
unfolding owner_members
owner_fits o = object_fits 0 (owner_members o) (sound_fields 0 (owner_fields o) [] (
  text_fits 0 api_version,
  (truth_fits 0 (Some true), (text_fits 0 (kind_word o.kind), (text_fits 0 o.name, (text_fits 0 (uid_bytes o.uid), tt)))),
) (no_members 0))

owners_fit : (o : Option Owner) → FieldFits 2 (array_field (owners_of o))
owners_fit None = no_array 2
owners_fit (Some o) =
    let fits = owner_fits o in
    array_field_fits 1 (owners_of (Some o)) (both_true _ _ fits.well refl) (omega (arith, fits.deep))

condition_fits : (c : Condition) → Fits 1 (condition_json c)
unfolding condition_members
condition_fits c = object_fits 0 (condition_members c) (sound_fields 0 (condition_fields c) [] (
  text_fits 0 (shown_moment c.since),
  (text_fits 0 c.message, (text_fits 0 c.reason, (text_fits 0 (severity_word c.info), (text_fits 0 (truth_word c.truth), (text_fits 0 (condition_word c.name), tt))))),
) (no_members 0))

published_fits : (t : Target) → Fits 1 (published_json t)
unfolding published_members
published_fits t = object_fits 0 (published_members t) (sound_field 0 (codes "url") (text_field t.url) (target_members t) (text_fits 0 t.url) (target_sound t))

row_fits : (r : Row) → Fits 1 (row_json r)
unfolding row_members
row_fits r = object_fits 0 (row_members r) (sound_fields 0 (row_fields r) [] (
  text_fits 0 r.host,
  (number_fits 0 (Some r.percent), (text_fits 0 r.revision, (text_fits 0 (uid_bytes r.uid), (text_fits 0 r.tag, tt)))),
) (no_members 0))

status_fits : (s : ObjectStatus) → Fits 3 (status_json s)
unfolding status_members
status_fits s = object_fits 2 (status_members s) (sound_fields 2 (status_fields s) [] (
  list_fits condition_json 1 condition_fits s.conditions,
  (text_fits 2 s.created, (text_fits 2 s.ready, (number_fits 2 (observed_generation s.observed), (list_fits published_json 1 published_fits s.traffic, (text_fits 2 s.url, tt))))),
) (no_members 2))

table_fits : (o : Object) (route : ℕ) (rows : List Row) (targets : List Target) → Fits 3 (table_json o route rows targets)
unfolding table_members
table_fits o route rows targets = object_fits 2 (table_members o route rows targets) (sound_fields 2 (table_fields o route rows targets) [] (
  text_fits 2 (codes "Table"),
  (text_fits 2 o.key.name.name, (text_fits 2 (other_namespace o.key.name.space), (text_fits 2 (decimal o.meta.stamp.version), (text_fits 2 (uid_bytes route), (list_fits row_json 1 row_fits rows, (list_fits published_json 1 published_fits targets, tt)))))),
) (no_members 2))

-- ---- what is shown of a Revision

labels_rise : (pins : List (List ℕ)) (t : Table (List ℕ)) → Rises t → Rises (shown_labels pins t)
unfolding shown_labels
labels_rise pins t rising = rises-put_entry (codes "serving.knative.dev/routingState") (routing_state pins) t.entries rising

routes_rise : (pins : List (List ℕ)) (es : List (List ℕ × List ℕ)) → names_rise (names_of es) ≡ true → names_rise (names_of (with_routes pins es)) ≡ true
routes_rise [] es rising = rising
routes_rise (p ∷ ps) es rising = rises-put_entry (codes "serving.knative.dev/routes") (joined (p ∷ ps)) es rising

annotations_rise : (pins : List (List ℕ)) (modified : ℕ) (t : Table (List ℕ)) → Rises t → Rises (shown_annotations pins modified t)
unfolding shown_annotations
annotations_rise pins modified t rising =
    routes_rise pins _ (rises-put_entry (codes "serving.knative.dev/routingStateModified") (shown_moment modified) t.entries rising)

-- ---- objects

weaker : (n m : ℕ) (j : Json) → n ≤ m → Fits n j → Fits m j
weaker n m j le f = more n m (Some j) le f

object_document_fits : (o : Object) (labels annotations : Table (List ℕ)) (es : List Member) (status : ObjectStatus) → Rises labels → Rises annotations → Sound 33 es
    → Fits 40 (object_document o labels annotations es status)
object_document_fits o labels annotations es status l a sound =
    let metadata = metadata_sound (object_metadata o labels annotations) l a (owners_fit o.meta.owner) in
    weaker 35 40 (object_document o labels annotations es status) (omega arith)
    (document_fits 34 _ (omega arith) metadata (object_fits 33 es sound) (weaker 3 34 (status_json status) (omega arith) (status_fits status)))

deeper : (n m : ℕ) (es : List Member) → n ≤ m → Sound n es → Sound m es
deeper n m es le s = record { rising = s.rising; well = s.well; deep = omega (arith, s.deep) }

body_fits : (o : Object) (b : Body) → Rises o.meta.labels → Rises o.meta.annotations → IsWellBody b → Fits 40 (body_json o b)
body_fits o (Service template traffic status) l a w = object_document_fits o o.meta.labels o.meta.annotations (spec_members (spec.Service template traffic)) status l a (spec_sound (spec.Service template traffic) w)
body_fits o (Configuration template status) l a w = object_document_fits o o.meta.labels o.meta.annotations (spec_members (spec.Configuration template)) status l a (spec_sound (spec.Configuration template) w)
body_fits o (Revision pod generation pins active status) l a w =
    object_document_fits o _ _ (pod_members pod) status (labels_rise pins o.meta.labels l) (annotations_rise pins _ o.meta.annotations a) (deeper 31 33 (pod_members pod) (omega arith) (pod_sound pod w))
body_fits o (Route traffic status) l a w = object_document_fits o o.meta.labels o.meta.annotations (spec_members (spec.Route traffic)) status l a (spec_sound (spec.Route traffic) w)
body_fits o (Health uid resources container ever) l a w = record { well = ap is_well data_of-Null; deep = subst (λ (d : Data). depth d ≤ 40) (sym data_of-Null) (omega arith) }
body_fits o (Published route rows targets) l a w = weaker 3 40 (table_json o route rows targets) (omega arith) (table_fits o route rows targets)

pub encoded_fits : (o : Object) → IsWellObject o → Fits 40 (encoded o)
encoded_fits o w = body_fits o o.body w.labels w.annotations w.body

-- the manifest of an object with a body
abbrev said_of : Object → Body → Manifest
said_of o b = said api_version (kind_word o.key.kind) (object_metadata o o.meta.labels o.meta.annotations) (manifest_spec b)

body_again : (o : Object) (b : Body) → IsClientBody b → IsRegular (said_of o b) → shape (kind_of (manifest_spec b)) (body_json o b) ≡ Ok (said_of o b)
body_again o (Service template traffic status) is regular = document_again api_version (kind_word o.key.kind) (object_metadata o o.meta.labels o.meta.annotations) (spec.Service template traffic) (Some (status_json status)) regular
body_again o (Configuration template status) is regular = document_again api_version (kind_word o.key.kind) (object_metadata o o.meta.labels o.meta.annotations) (spec.Configuration template) (Some (status_json status)) regular
body_again o (Revision pod generation pins active status) is regular = absurd is
body_again o (Route traffic status) is regular = document_again api_version (kind_word o.key.kind) (object_metadata o o.meta.labels o.meta.annotations) (spec.Route traffic) (Some (status_json status)) regular
body_again o (Health uid resources container ever) is regular = absurd is
body_again o (Published route rows targets) is regular = absurd is

pub encoded_again : (o : Object) → IsClientBody o.body → IsRegular (manifest_of o) → shape (kind_of (manifest_of o).spec) (encoded o) ≡ Ok (manifest_of o)
encoded_again o is regular = body_again o o.body is regular
