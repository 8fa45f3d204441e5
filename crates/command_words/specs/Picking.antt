-- The options of a gateway, and the number behind a command.
use Rattle.std.specs.Prelude.{◌≡◌, ℕ, List, ◌∷◌, [], codes, Option, Some}
use Rattle.command_words.specs.Options.{Word}
use Rattle.command_words.specs.Settings.{◌>>=◌, count_between, IsGiven}
use Rattle.command_words.specs.Serving.{sized}
use Rattle.command_words.specs.declared.picking.Picking.{Picking}

-- what is picked, by the values that are given: all three are
unfoldable pub picking_of : (Word → Option Word) → Option Picking
picking_of value = do
  text ← value (codes "host")
  host ← sized text
  from ← value (codes "first")
  first ← count_between 0 4294967295 from
  many ← value (codes "count")
  count ← count_between 1 100000 many
  Some (record { host = host; first = first; count = count })

-- the names of these options
abbrev pub pick_names : List Word
pick_names = codes "host" ∷ codes "first" ∷ codes "count" ∷ []

-- the words are those of `pick` with these options
abbrev pub IsPick : List Word → Picking → Type 0
IsPick words picking = IsGiven pick_names picking_of words picking

-- the words are one number from 1 to 500
abbrev pub IsNumber : List Word → ℕ → Type 0
IsNumber words number = (text : Word) × (words ≡ text ∷ []) × (count_between 1 500 text ≡ Some number)
