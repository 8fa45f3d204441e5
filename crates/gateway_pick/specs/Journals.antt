-- The Tables of a journal, as a gateway that follows its polls knows them.
use Rattle.std.specs.Prelude.{◌≡◌, ◌≢◌, ℕ, ◌<◌, ◌^◌, List, [], length, map, None}
use Rattle.std.specs.List.{All}
use Rattle.std.specs.Option.{IfSome}
use Rattle.json_tree.specs.Answers.{IsReading}
use Rattle.json_tree.specs.Tree.{data_of}
use Rattle.resource_types.specs.declared.names.Kind.TheVariants as kind
use Rattle.resource_types.specs.declared.specification.Row.{Row}
use Rattle.resource_types.specs.declared.objects.Body.{Body}
use Rattle.resource_types.specs.declared.objects.Body.TheVariants as body
use Rattle.resource_types.specs.declared.objects.Object.{Object}
use Rattle.resource_types.specs.Objects.{kind_of_body}
use Rattle.resource_types.specs.Lookups.{Journal, State, of_kind}
use Rattle.resource_types.specs.Journal.{Entry, state_at}
use Rattle.resource_codec.specs.Views.{changes_after, told_version, poll_of}
use Rattle.gateway_pick.specs.declared.tables.Published.{Published}
use Rattle.gateway_pick.specs.Gateway.{View}

-- the rows of a Table's body, and none of another
abbrev pub rows_in : Body → List Row
rows_in (body.Table route rows targets) = rows
rows_in _ = []

-- the name and the rows of a Table
abbrev pub published : Object → Published
published o = record { name = o.key.name; rows = rows_in o.body }

-- the names and the rows of the Tables that stand, in order of name
abbrev pub tables_in : State → List Published
tables_in st = map published (of_kind kind.Table st)

-- the same after the first n entries of a journal
abbrev pub tables_at : Journal → ℕ → List Published
tables_at journal n = tables_in (state_at journal n)

-- what an object has that an entry puts: the entry's key, a body of the key's kind, and uids of 64 bits
pub record IsPutBy (entry : Entry) (o : Object) : Type 0 where
  pub key : o.key ≡ entry.key
  pub kind : kind_of_body o.body ≡ o.key.kind
  pub uids : All (λ row. row.uid < 2 ^ 64) (rows_in o.body)

-- an entry as a store keeps it, whose Table, if it is one of a Table, doesn't lie in the empty namespace
pub record IsTold (entry : Entry) : Type 0 where
  pub puts : IfSome entry.object (IsPutBy entry)
  pub space : entry.key.kind ≡ kind.Table → entry.key.name.space ≢ []

-- a journal of such entries, of which each has a version of 64 bits
pub record IsWhole (journal : Journal) : Type 0 where
  pub told : All IsTold journal
  pub few : length journal < 2 ^ 64

-- the gateway knows the Tables that stood after the first n entries, and is at that version
pub record Knows (view : View) (journal : Journal) (n : ℕ) : Type 0 where
  pub tables : view.tables ≡ tables_at journal n
  pub version : view.version ≡ n

-- the body is a text of the poll of all Tables after the first n entries
abbrev pub IsPollAfter : List ℕ → Journal → ℕ → Type 0
IsPollAfter body journal n = IsReading body (data_of (poll_of journal kind.Table None n))

-- the version up to which that poll tells
abbrev pub told_to : Journal → ℕ → ℕ
told_to journal n = told_version journal (changes_after journal kind.Table None n)
