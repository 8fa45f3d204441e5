use Rattle.std.proofs.Common.{◌≡◌, take}
use Rattle.clap.specs.Words.{app_of}
use Rattle.command_words.specs.Apps.{app_with}
use Rattle.command_words.specs.Options.{texts_of}
use Rattle.command_words.proofs.options.command_with.Given as goal

abbrev pub invariant-loop-name : goal.invariant-loop-name
invariant-loop-name l = app_of l.command ≡ app_with (texts_of (take l.name-index l.names))
