-- The options of a server, and what their texts say.
use Rattle.std.specs.Prelude.{◌&&◌, List, ◌∷◌, codes, length, nat_le, Option, Some, None, if◌then◌else◌, unwrap_or}
use Rattle.command_words.specs.Options.{Word}
use Rattle.command_words.specs.Settings.{◌>>=◌, count_between, options_of, names, IsGiven}
use Rattle.command_words.specs.declared.serving.Serving.{Serving}

-- the text itself, where it has 1 to 255 bytes
abbrev pub sized : Word → Option Word
sized text = if nat_le 1 (length text) && nat_le (length text) 255 then Some text else None

-- A server by the values that are given, where each says something: its address is given, the number of its sessions is the greatest unless it is given,
-- and 30 automatic steps follow each request unless another number is given.
unfoldable pub serving_of : (Word → Option Word) → Option Serving
serving_of value = do
  text ← value (codes "listen")
  address ← sized text
  sessions ← count_between 1 4294967295 (unwrap_or (value (codes "sessions")) (codes "4294967295"))
  options ← options_of (codes "30") value
  Some (record { options = options; address = address; sessions = sessions })

-- the names of these options
abbrev pub serve_names : List Word
serve_names = codes "listen" ∷ codes "sessions" ∷ names

-- the words are those of `serve` with these options
abbrev pub IsServe : List Word → Serving → Type 0
IsServe words serving = IsGiven serve_names serving_of words serving
