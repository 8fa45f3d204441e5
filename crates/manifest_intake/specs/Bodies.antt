-- The body of a request: a value, or bytes that are no readable JSON.
use Rattle.std.specs.Prelude.{◌≢◌, ℕ, ◌≤◌, List, Option, Some, None, IsTrue}
use Rattle.json_tree.specs.Answers.{IsReading, IsRefusedFor}
use Rattle.json_tree.specs.Tree.{data_of, is_well_formed, depth_of}
use Rattle.json_tree.specs.declared.value.Json.{Json}
use Rattle.json_tree.specs.declared.read.JsonError.{JsonError}
use Rattle.json_tree.specs.declared.read.JsonError.TheVariants.{Memory}

-- what the bytes of a body are: the value that they are the text of, or nothing where there is a reason to refuse them
abbrev pub IsBody : List ℕ → Option Json → Type 0
IsBody bytes None = (error : JsonError) × (error ≢ Memory) × IsRefusedFor bytes error
IsBody bytes (Some json) = IsReading bytes (data_of json) × IsTrue (is_well_formed json) × (depth_of json ≤ 32)

-- a value as a body may have it: well formed, and at most 32 deep
pub record IsReadable (json : Json) : Type 0 where
  pub well : IsTrue (is_well_formed json)
  pub deep : depth_of json ≤ 32
