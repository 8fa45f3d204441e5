-- The command that clap is given.
use Rattle.std.specs.Prelude.{List, map, codes, true, Some}
use Rattle.clap.specs.Simple.{App, new_app, new_rule}
use Rattle.clap.specs.Walk.{Rule}
use Rattle.command_words.specs.Options.{Word}

-- an option of this name, which takes one value
abbrev pub option_rule : Word → Rule
option_rule name = record (new_rule name) { long = Some name }

-- the command with an option of each of the names
abbrev pub app_with : List Word → App
app_with names =
    let a = new_app (codes "fullkewa") in
    record a { top = record a.top { rules = map option_rule names; disable_help_flag = true } }
