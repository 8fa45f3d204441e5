-- When each answer of a read comes.
use Rattle.std.specs.Prelude.{◌≡◌, ℕ, ◌<◌, List, IsTrue, IsFalse, Some, IsUtf8}
use Rattle.serde_json.specs.Data.{Data, depth}
use Rattle.serde_json.specs.Read.{read}
use Rattle.serde_json.specs.Written.{has_float}
use Rattle.json_tree.specs.declared.read.JsonError.{JsonError}
use Rattle.json_tree.specs.declared.read.JsonError.TheVariants.{Malformed, FloatNumber, TooDeep, Memory}

-- the bytes are a text that `serde_json` reads as the data
abbrev pub IsReading : List ℕ → Data → Type 0
IsReading bytes d = IsUtf8 bytes × (read bytes ≡ Some d)

-- Why the bytes are refused: they have no reading; or they have one with a number that is no whole number of 64 bits; or they have one
-- with whole numbers alone that is more than 32 deep. Out of memory is free.
abbrev pub IsRefusedFor : List ℕ → JsonError → Type 0
IsRefusedFor bytes Malformed = (d : Data) → ¬ IsReading bytes d
IsRefusedFor bytes FloatNumber = (d : Data) × IsReading bytes d × IsTrue (has_float d)
IsRefusedFor bytes TooDeep = (d : Data) × IsReading bytes d × IsFalse (has_float d) × (32 < depth d)
IsRefusedFor bytes Memory = Unit {0}
