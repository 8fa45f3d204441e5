-- Lists, events and polls are well formed where what they hold is.
use Rattle.std.proofs.Common.{◌≡◌, ℕ, ◌≤◌, Bool, true, false, codes, List, [], arith}
use Rattle.std.specs.Prelude.{◌++◌, if◌then◌else◌, Some}
use Rattle.std.specs.Fmt.{decimal}
use Rattle.serde_json.specs.Data.{items_depth}
use Rattle.json_tree.specs.Tree.{items_data, items_are_well}
use Rattle.json_tree.specs.declared.value.Json.{Json}
use Rattle.resource_types.specs.Manifests.{api_version, kind_word}
use Rattle.resource_types.specs.Objects.{same_kind}
use Rattle.resource_types.specs.declared.names.Kind.{Kind}
use Rattle.resource_types.specs.declared.names.Kind.TheVariants as kind
use Rattle.resource_types.specs.declared.names.Key.{Key}
use Rattle.resource_types.specs.declared.objects.Object.{Object}
use Rattle.resource_codec.specs.Sound.{Fits}
use Rattle.resource_codec.specs.Written.{object_of}
use Rattle.resource_codec.specs.Objects.{IsWellObject}
use Rattle.resource_codec.specs.Lists.{list_metadata_fields, list_metadata, object_list_fields, object_list, table_list_fields, table_list, list_members, put_type, put_event_fields, put_event, removal_namespace, removal_event_fields, removal_event, poll_fields, poll_members}
use Rattle.resource_codec.proofs.Sounds.{sound_fields, no_members, object_fits, array_fits, text_fits, more}
use Rattle.resource_codec.proofs.Shown.{encoded_fits}

metadata_fits : (version : ℕ) → Fits 1 (object_of (list_metadata version))
unfolding list_metadata
metadata_fits version = object_fits 0 (list_metadata version) (sound_fields 0 (list_metadata_fields version) [] (text_fits 0 (decimal version), tt) (no_members 0))

module _ (items : List Json) (version : ℕ) (well : items_are_well (items_data items) ≡ true) where
  object_list_fits : (k : Kind) → items_depth (items_data items) ≤ 40 → Fits 42 (object_of (object_list k items version))
  unfolding object_list
  object_list_fits k deep = object_fits 41 (object_list k items version) (sound_fields 41 (object_list_fields k items version) [] (
    text_fits 41 api_version,
    (array_fits 40 items well deep, (text_fits 41 (kind_word k ++ codes "List"), (more 1 41 (Some (object_of (list_metadata version))) (omega arith) (metadata_fits version), tt))),
  ) (no_members 41))

  table_list_fits : items_depth (items_data items) ≤ 40 → Fits 42 (object_of (table_list items version))
  unfolding table_list
  table_list_fits deep = object_fits 41 (table_list items version) (sound_fields 41 (table_list_fields items version) [] (
    array_fits 40 items well deep,
    (text_fits 41 (codes "TableList"), (text_fits 41 (decimal version), tt)),
  ) (no_members 41))

  chosen : (b : Bool) (k : Kind) → items_depth (items_data items) ≤ 40 → Fits 42 (object_of (if b then table_list items version else object_list k items version))
  chosen true k deep = table_list_fits deep
  chosen false k deep = object_list_fits k deep

  pub list_fits : (k : Kind) → items_depth (items_data items) ≤ 40 → Fits 42 (object_of (list_members k items version))
  list_fits k deep = chosen (same_kind k kind.Table) k deep

  pub poll_fits : items_depth (items_data items) ≤ 41 → Fits 43 (object_of (poll_members items version))
  unfolding poll_members
  poll_fits deep = object_fits 42 (poll_members items version) (sound_fields 42 (poll_fields items version) [] (
    array_fits 41 items well deep,
    (text_fits 42 (codes "Poll"), (text_fits 42 (decimal version), tt)),
  ) (no_members 42))

pub put_event_fits : (o : Object) (made : Bool) → IsWellObject o → Fits 41 (object_of (put_event o made))
unfolding put_event
put_event_fits o made w = object_fits 40 (put_event o made) (sound_fields 40 (put_event_fields o made) [] (encoded_fits o w, (text_fits 40 (put_type made), tt)) (no_members 40))

pub removal_fits : (key : Key) (version : ℕ) → Fits 1 (object_of (removal_event key version))
unfolding removal_event
removal_fits key version = object_fits 0 (removal_event key version) (sound_fields 0 (removal_event_fields key version) [] (
  text_fits 0 key.name.name,
  (text_fits 0 (removal_namespace key), (text_fits 0 (decimal version), (text_fits 0 (codes "DELETED"), tt))),
) (no_members 0))
