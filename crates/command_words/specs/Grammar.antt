-- The grammar of the command line's words.
use Rattle.std.specs.Prelude.{◌≡◌, ◌<◌, ◌≤◌, List, [], ◌∷◌, length, codes, ⊤}
use Rattle.command_words.specs.Settings.{IsReplay}
use Rattle.command_words.specs.Serving.{IsServe}
use Rattle.command_words.specs.Picking.{IsPick, IsNumber}
use Rattle.command_words.specs.declared.command.Command.{Command}
use Rattle.command_words.specs.declared.command.Command.TheVariants.{Replay, Serve, Check, Generate, Drill, Pick, Export}
pub use Rattle.command_words.specs.Options.{Word}

-- the words are this command: its name, and behind it the words of its options, or its number
abbrev pub IsCommand : List Word → Command → Type 0
IsCommand [] command = ⊥
IsCommand (name ∷ rest) (Replay options) = (name ≡ codes "replay") × IsReplay rest options
IsCommand (name ∷ rest) (Serve serving) = (name ≡ codes "serve") × IsServe rest serving
IsCommand (name ∷ rest) Check = (name ≡ codes "check") × (rest ≡ [])
IsCommand (name ∷ rest) (Generate count) = (name ≡ codes "gen") × IsNumber rest count
IsCommand (name ∷ rest) (Drill count) = (name ≡ codes "drill") × IsNumber rest count
IsCommand (name ∷ rest) (Pick picking) = (name ≡ codes "pick") × IsPick rest picking
IsCommand (name ∷ rest) Export = (name ≡ codes "export") × (rest ≡ [])

-- the words are outside the grammar
abbrev pub IsOutside : List Word → Type 0
IsOutside words = (command : Command) → ¬ (IsCommand words command)

-- what a command carries is within the limits of the grammar
abbrev pub IsWithin : Command → Type 0
IsWithin (Replay options) = ⊤
IsWithin (Serve serving) = (0 < length serving.address) × (length serving.address ≤ 255)
IsWithin Check = ⊤
IsWithin (Generate count) = count ≤ 500
IsWithin (Drill count) = count ≤ 500
IsWithin (Pick picking) = (picking.first ≤ 4294967295) × (picking.count ≤ 100000)
IsWithin Export = ⊤
