-- Documents, as they are written.
use Rattle.std.specs.Prelude.{ℕ, List, [], ◌∷◌, codes, Option, Some, None, unwrap_or}
use Rattle.json_tree.specs.declared.value.Json.{Json, Str}
use Rattle.json_tree.specs.declared.members.Table.{Table}
use Rattle.resource_types.specs.Manifests.{api_version, kind_word}
use Rattle.resource_types.specs.declared.objects.Body.{Body}
use Rattle.resource_types.specs.declared.objects.Body.TheVariants.{Service, Configuration, Revision, Route, Health, Table as Published}
use Rattle.resource_types.specs.declared.objects.Object.{Object}
use Rattle.resource_codec.specs.Written.{Field, text_field, object_field, metadata_members}
use Rattle.resource_codec.specs.Objects.{object_metadata, joined, shown_labels, shown_annotations}

-- the names of a Revision's pins, if there are any
unfoldable pub routes_field : List (List ℕ) → Option Json
routes_field [] = None
routes_field (p ∷ ps) = Some (Str (joined (p ∷ ps)))

-- the labels that are shown of an object with a body
unfoldable pub body_labels : Object → Body → Table (List ℕ)
body_labels o (Service template traffic status) = o.meta.labels
body_labels o (Configuration template status) = o.meta.labels
body_labels o (Revision pod generation pins active status) = shown_labels pins o.meta.labels
body_labels o (Route traffic status) = o.meta.labels
body_labels o (Health uid resources container ever) = o.meta.labels
body_labels o (Published route rows targets) = o.meta.labels

-- the annotations that are shown of it
unfoldable pub body_annotations : Object → Body → Table (List ℕ)
body_annotations o (Service template traffic status) = o.meta.annotations
body_annotations o (Configuration template status) = o.meta.annotations
body_annotations o (Revision pod generation pins active status) = shown_annotations pins (unwrap_or active o.meta.stamp.created) o.meta.annotations
body_annotations o (Route traffic status) = o.meta.annotations
body_annotations o (Health uid resources container ever) = o.meta.annotations
body_annotations o (Published route rows targets) = o.meta.annotations

-- the fields of an object's document that stand before its spec
abbrev pub head_fields : Object → List Field
head_fields o = (codes "apiVersion", text_field api_version) ∷
    (codes "kind", text_field (kind_word o.key.kind)) ∷
    (codes "metadata", object_field (metadata_members (object_metadata o (body_labels o o.body) (body_annotations o o.body)))) ∷ []
