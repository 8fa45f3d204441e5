-- What a poll of Tables tells: what its events do, and the version up to which it tells. Nothing is read of what isn't such a
-- poll, nor of one with a Table that breaks a rule. Members that aren't named here are dropped.
use Rattle.std.specs.Prelude.{ℕ, ◌||◌, List, [], ◌∷◌, codes, Option, Some, None, if◌then◌else◌}
use Rattle.std.specs.Str.{bytes_eq}
use Rattle.json_tree.specs.declared.value.Json.{Json}
use Rattle.json_tree.specs.declared.value.Json.TheViews.{out-Json}
use Rattle.resource_types.specs.declared.names.Name.{Name}
use Rattle.resource_types.specs.declared.specification.Row.{Row}
use Rattle.resource_codec.specs.Reading.{Member, under}
use Rattle.gateway_pick.specs.declared.tables.Published.{Published}
use Rattle.gateway_pick.specs.declared.tables.Change.{Change}
use Rattle.gateway_pick.specs.declared.tables.Change.TheVariants.{Put, Remove}
use Rattle.gateway_pick.specs.Reading.{◌>>=◌, when, object, items, word, word_or, number, uid, version}
use Rattle.gateway_pick.specs.Rules.{are_rows}

-- go on where the text is the one that must stand
abbrev pub must_be : List ℕ → List ℕ → Option (Unit {0})
must_be text due = when (bytes_eq text due) tt

-- a row
unfoldable pub row_in : Json → Option Row
row_in json = do
  members ← object (out-Json json)
  host ← word (under (codes "host") members)
  percent ← number (under (codes "percent") members)
  revision ← word (under (codes "revisionName") members)
  uid ← uid (under (codes "revisionUid") members)
  tag ← word_or [] (under (codes "tag") members)
  Some (record { tag = tag; host = host; revision = revision; uid = uid; percent = percent })

-- the rows, each of which must be one
abbrev pub rows_in : List Json → Option (List Row)
rows_in [] = Some []
rows_in (json ∷ jsons) = do
  row ← row_in json
  rows ← rows_in jsons
  Some (row ∷ rows)

-- a name; a namespace that is absent is `default`
unfoldable pub name_in : List Member → Option Name
name_in members = do
  name ← word (under (codes "name") members)
  space ← word_or (codes "default") (under (codes "namespace") members)
  Some (record { space = space; name = name })

-- a Table
unfoldable pub table_in : List Member → Option Published
table_in members = do
  kind ← word (under (codes "kind") members)
  is_table ← must_be kind (codes "Table")
  jsons ← items (under (codes "rows") members)
  name ← name_in members
  rows ← rows_in jsons
  when (are_rows rows) (record { name = name; rows = rows })

-- an event that puts a Table
abbrev pub put_in : List Member → Option Change
put_in members = do
  table ← object (under (codes "object") members)
  table ← table_in table
  Some (Put table)

-- an event that removes one
abbrev pub removal_in : List Member → Option Change
removal_in members = do
  name ← name_in members
  Some (Remove name)

-- what an event does, by its type
abbrev pub change_of : List ℕ → List Member → Option Change
change_of type members =
    if bytes_eq type (codes "ADDED") || bytes_eq type (codes "MODIFIED") then put_in members
    else if bytes_eq type (codes "DELETED") then removal_in members
    else None

-- what an event does
unfoldable pub change_in : Json → Option Change
change_in json = do
  members ← object (out-Json json)
  type ← word (under (codes "type") members)
  change_of type members

-- what the events do, in their order
abbrev pub changes_in : List Json → Option (List Change)
changes_in [] = Some []
changes_in (json ∷ jsons) = do
  change ← change_in json
  changes ← changes_in jsons
  Some (change ∷ changes)

-- what the events of a poll do, and its version
unfoldable pub poll_in : Json → Option (List Change × ℕ)
poll_in json = do
  members ← object (out-Json json)
  kind ← word (under (codes "kind") members)
  is_poll ← must_be kind (codes "Poll")
  version ← version (under (codes "resourceVersion") members)
  events ← items (under (codes "events") members)
  changes ← changes_in events
  Some (changes, version)
