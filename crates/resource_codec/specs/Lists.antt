-- Lists of objects, and what changed, as JSON.
use Rattle.std.specs.Prelude.{◌++◌, ℕ, Bool, true, false, List, [], ◌∷◌, codes, Some, if◌then◌else◌}
use Rattle.std.specs.Fmt.{decimal}
use Rattle.json_tree.specs.declared.value.Json.{Json, Arr}
use Rattle.resource_types.specs.Manifests.{api_version, kind_word}
use Rattle.resource_types.specs.Objects.{same_kind}
use Rattle.resource_types.specs.declared.names.Kind.{Kind}
use Rattle.resource_types.specs.declared.names.Kind.TheVariants as kind
use Rattle.resource_types.specs.declared.names.Key.{Key}
use Rattle.resource_types.specs.declared.objects.Object.{Object}
use Rattle.resource_codec.specs.Reading.{Member}
use Rattle.resource_codec.specs.Written.{Field, put_fields, object_of, text_field}
use Rattle.resource_codec.specs.Objects.{encoded, other_namespace}

-- the version of a whole list, which is that of the journal
abbrev pub list_metadata_fields : ℕ → List Field
list_metadata_fields version = (codes "resourceVersion", text_field (decimal version)) ∷ []

-- the same, as members
unfoldable pub list_metadata : ℕ → List Member
list_metadata version = put_fields (list_metadata_fields version) []

-- a list of the objects of a kind; `items` stands even where it is empty
abbrev pub object_list_fields : Kind → List Json → ℕ → List Field
object_list_fields kind items version = (codes "apiVersion", text_field api_version) ∷
    (codes "items", Some (Arr items)) ∷
    (codes "kind", text_field (kind_word kind ++ codes "List")) ∷
    (codes "metadata", Some (object_of (list_metadata version))) ∷ []

-- the same, as members
unfoldable pub object_list : Kind → List Json → ℕ → List Member
object_list kind items version = put_fields (object_list_fields kind items version) []

-- a list of Tables
abbrev pub table_list_fields : List Json → ℕ → List Field
table_list_fields items version = (codes "items", Some (Arr items)) ∷
    (codes "kind", text_field (codes "TableList")) ∷
    (codes "resourceVersion", text_field (decimal version)) ∷ []

-- the same, as members
unfoldable pub table_list : List Json → ℕ → List Member
table_list items version = put_fields (table_list_fields items version) []

-- a list of a kind
abbrev pub list_members : Kind → List Json → ℕ → List Member
list_members k items version = if same_kind k kind.Table then table_list items version else object_list k items version

-- the word of a put: whether it made the object
abbrev pub put_type : Bool → List ℕ
put_type true = codes "ADDED"
put_type false = codes "MODIFIED"

-- the event of a put
abbrev pub put_event_fields : Object → Bool → List Field
put_event_fields o made = (codes "object", Some (encoded o)) ∷ (codes "type", text_field (put_type made)) ∷ []

-- the same, as members
unfoldable pub put_event : Object → Bool → List Member
put_event o made = put_fields (put_event_fields o made) []

-- the namespace that a removal shows: that of a Table, where it is not `default`
abbrev pub removal_namespace : Key → List ℕ
removal_namespace key = if same_kind key.kind kind.Table then other_namespace key.name.space else []

-- the event of a removal
abbrev pub removal_event_fields : Key → ℕ → List Field
removal_event_fields key version = (codes "name", text_field key.name.name) ∷
    (codes "namespace", text_field (removal_namespace key)) ∷
    (codes "resourceVersion", text_field (decimal version)) ∷
    (codes "type", text_field (codes "DELETED")) ∷ []

-- the same, as members
unfoldable pub removal_event : Key → ℕ → List Member
removal_event key version = put_fields (removal_event_fields key version) []

-- what changed: events, and the version up to which they tell; `events` stands even where it is empty
abbrev pub poll_fields : List Json → ℕ → List Field
poll_fields events version = (codes "events", Some (Arr events)) ∷
    (codes "kind", text_field (codes "Poll")) ∷
    (codes "resourceVersion", text_field (decimal version)) ∷ []

-- the same, as members
unfoldable pub poll_members : List Json → ℕ → List Member
poll_members events version = put_fields (poll_fields events version) []
