-- What is shown of a journal: what changed in it, and what stands.
use Rattle.std.specs.Prelude.{◌≡◌, ◌+◌, ◌&&◌, ℕ, Bool, true, false, not, List, Option, Some, None, is_some, map, option_map, unwrap_or, take, drop, length, slice_get, bytes_eq, ◌==◌}
use Rattle.std.specs.List.{All, filter, enumerate_from}
use Rattle.std.specs.Option.{ForSome}
use Rattle.json_tree.specs.declared.value.Json.{Json}
use Rattle.version_store.specs.declared.write.Entry.{Entry}
use Rattle.version_store.specs.Journal as journal
use Rattle.resource_types.specs.declared.names.Kind.{Kind}
use Rattle.resource_types.specs.declared.names.Key.{Key}
use Rattle.resource_types.specs.declared.names.Name.{Name}
use Rattle.resource_types.specs.declared.names.Actor.{Actor}
use Rattle.resource_types.specs.declared.objects.Object.{Object}
use Rattle.resource_types.specs.contracts.names.KeyOrd.TheImpl as key_order
use Rattle.resource_types.specs.contracts.item.ObjectItem.TheImpl as object_item
use Rattle.resource_types.specs.Objects.{same_kind, kind_of_body}
use Rattle.resource_types.specs.Lookups.{Journal, state, find, of_kind}
use Rattle.resource_codec.specs.Written.{object_of}
use Rattle.resource_codec.specs.Objects.{encoded, IsWellObject}
use Rattle.resource_codec.specs.Lists.{put_event, removal_event, poll_members, list_members}

-- an entry of a journal, with how many entries stand before it
abbrev pub Place : Type 0
Place = ℕ × Entry Object Kind Key Name Actor

-- whether a namespace is the one that is asked for; all are where none is given
abbrev pub is_within : Option (List ℕ) → List ℕ → Bool
is_within None space = true
is_within (Some asked) space = bytes_eq asked space

-- whether a key is of the kind, and of the namespace if one is given
abbrev pub is_asked : Kind → Option (List ℕ) → Key → Bool
is_asked kind space key = same_kind key.kind kind && is_within space key.name.space

-- ---- what changed

-- the entries after a position on keys that are asked for
abbrev pub changes_after : Journal → Kind → Option (List ℕ) → ℕ → List Place
changes_after journal kind space after = filter (λ p. is_asked kind space p.1.key) (enumerate_from after (drop after journal))

-- whether an object of the key stood after the first n entries
abbrev pub stood_at : Journal → ℕ → Key → Bool
stood_at journal n key = is_some (find key (state (take n journal)))

-- the event of an entry on a key, by its version and whether it made what it put
abbrev pub event_json : Key → ℕ → Bool → Option Object → Json
event_json key version made None = object_of (removal_event key version)
event_json key version made (Some o) = object_of (put_event o made)

-- the event of an entry: it made what it put where the key did not stand before
abbrev pub event_of : Journal → Place → Json
event_of journal p = event_json p.1.key (p.0 + 1) (not (stood_at journal p.0 p.1.key)) p.1.object

-- how many events a poll has at most
abbrev pub most_events : ℕ
most_events = 256

-- the version up to which a poll tells: that of its last event where it has the most, and else the journal's length
abbrev pub told_version : Journal → List Place → ℕ
told_version journal changes = unwrap_or (option_map (λ p. p.0 + 1) (slice_get changes 255)) (length journal)

-- the poll of a kind after a position: the first events, in order of the journal
abbrev pub poll_of : Journal → Kind → Option (List ℕ) → ℕ → Json
poll_of journal kind space after =
    let changes = changes_after journal kind space after in
    object_of (poll_members (map (event_of journal) (take most_events changes)) (told_version journal changes))

-- ---- what stands

-- the objects of the kind that stand, and in the namespace if one is given, in order of name
abbrev pub objects_asked : Journal → Kind → Option (List ℕ) → List Object
objects_asked journal kind space = filter (λ o. is_within space o.key.name.space) (of_kind kind (state journal))

-- the list of a kind
abbrev pub list_of : Journal → Kind → Option (List ℕ) → Json
list_of journal kind space = object_of (list_members kind (map encoded (objects_asked journal kind space)) (length journal))

-- ---- what can be shown

-- an object of one kind, by its key and its body, that is written well
pub record IsShown (o : Object) : Type 0 where
  pub kind : kind_of_body o.body ≡ o.key.kind
  pub well : IsWellObject o

-- what an entry puts, if anything, can be shown
abbrev pub ShowsWell : Entry Object Kind Key Name Actor → Type 0
ShowsWell entry = ForSome entry.object IsShown

-- each object of the journal can be shown
abbrev pub AreShown : Journal → Type 0
AreShown journal = All ShowsWell journal

-- ---- what an object's stamp tells

-- whether the stamp says that the entry of the version made the object
abbrev pub is_born : ℕ → Option Object → Bool
is_born version None = false
is_born version (Some o) = o.meta.stamp.uid == version

-- each entry puts an object of its key, with the stamp that is due to it
abbrev pub AreStamped : Journal → Type 0
AreStamped entries = journal.AreStamped object_item.ghosts key_order.ghosts.cmp entries
