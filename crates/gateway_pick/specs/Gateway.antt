-- A gateway, and what following a body makes of it.
use Rattle.std.specs.Prelude.{◌≡◌, ℕ, ◌≤◌, List, nat_le, Option, Some, IsTrue}
use Rattle.json_tree.specs.Answers.{IsReading}
use Rattle.json_tree.specs.Tree.{data_of, is_well_formed, depth_of}
use Rattle.json_tree.specs.declared.value.Json.{Json}
use Rattle.gateway_pick.specs.declared.tables.Published.{Published}
use Rattle.gateway_pick.specs.declared.tables.Change.{Change}
use Rattle.gateway_pick.specs.Reading.{◌>>=◌, when}
use Rattle.gateway_pick.specs.Tables.{all_changed}
use Rattle.gateway_pick.specs.Polls.{poll_in}

-- what a gateway is seen as: the Tables that it knows, in order of name, and the version up to which it was told
pub record View : Type 0 where
  pub tables : List Published
  pub version : ℕ

-- the bytes are a text that is read as the value
pub record IsJson (bytes : List ℕ) (json : Json) : Type 0 where
  pub reading : IsReading bytes (data_of json)
  pub well : IsTrue (is_well_formed json)
  pub deep : depth_of json ≤ 32

-- what a body tells a gateway at a version, which a poll goes on from
unfoldable pub told_in : Json → ℕ → Option (List Change × ℕ)
told_in json least = do
  poll ← poll_in json
  when (nat_le least poll.1) poll

-- The gateway after a body: each event's Table is put or removed, in their order, and the version is that of the poll. There is
-- none where the body is no poll of Tables, a Table in it breaks a rule, or its version is less than the gateway's.
unfoldable pub follow_of : Json → View → Option View
follow_of json view = do
  poll ← told_in json view.version
  Some (record { tables = all_changed poll.0 view.tables; version = poll.1 })

-- the body is followed, and makes this of the gateway
pub record Follows (body : List ℕ) (old new : View) : Type 0 where
  pub json : Json
  pub read : IsJson body json
  pub followed : follow_of json old ≡ Some new
