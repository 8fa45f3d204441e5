-- Words that are no command.
use Rattle.std.proofs.Common.{◌≡◌, ◌∙◌, ℕ, List, [], ◌∷◌, Some, codes, drop, ap, sym, arith}
use Rattle.std.specs.Prelude.{slice_get}
use Rattle.command_words.specs.Grammar.{IsCommand, IsOutside}
use Rattle.command_words.specs.Options.{Word}
use Rattle.command_words.specs.Settings.{IsReplay}
use Rattle.command_words.specs.Serving.{IsServe}
use Rattle.command_words.specs.Picking.{IsNumber, IsPick}
use Rattle.command_words.specs.declared.command.Command.{Command}
use Rattle.command_words.specs.declared.command.Command.TheVariants.{Replay, Serve, Check, Generate, Drill, Pick, Export}
use Rattle.command_words.specs.declared.settings.Options.{Options}
use Rattle.command_words.specs.declared.serving.Serving.{Serving}
use Rattle.command_words.specs.declared.picking.Picking.{Picking}

-- the name of a command
abbrev name_of : Command → Word
name_of (Replay options) = codes "replay"
name_of (Serve serving) = codes "serve"
name_of Check = codes "check"
name_of (Generate count) = codes "gen"
name_of (Drill count) = codes "drill"
name_of (Pick picking) = codes "pick"
name_of Export = codes "export"

named : (word : Word) (words : List Word) (command : Command) → IsCommand (word ∷ words) command → word ≡ name_of command
named word words (Replay options) is = is.0
named word words (Serve serving) is = is.0
named word words Check is = is.0
named word words (Generate count) is = is.0
named word words (Drill count) is = is.0
named word words (Pick picking) is = is.0
named word words Export is = is.0

-- two words with different first letters aren't one
apart : (a b : ℕ) → (a ≡ b → ⊥) → Some a ≡ Some b → ⊥
apart a b other same = other cc

module _ (words : List Word) (first : Word) (head : slice_get words 0 ≡ Some first) where
  name_is : (command : Command) → IsCommand words command → first ≡ name_of command
  name_is command is = go words head is
    where
      go : (ws : List Word) → slice_get ws 0 ≡ Some first → IsCommand ws command → first ≡ name_of command
      go [] h i = absurd i
      go (w ∷ ws) h i = let same : w ≡ first = cc in sym same ∙ named w ws command i

  -- `replay` with words behind it that are no options of it
  pub no_replay : first ≡ codes "replay" → ((options : Options) → ¬ (IsReplay (drop 1 words) options)) → IsOutside words
  no_replay name none = λ command is. go command is (sym name ∙ name_is command is)
    where
      behind : (ws : List Word) (options : Options) → IsCommand ws (Replay options) → IsReplay (drop 1 ws) options
      behind [] options i = absurd i
      behind (w ∷ ws) options i = i.1

      go : (command : Command) → IsCommand words command → codes "replay" ≡ name_of command → ⊥
      go (Replay options) is same = none options (behind words options is)
      go (Serve serving) is same = cc
      go Check is same = cc
      go (Generate count) is same = cc
      go (Drill count) is same = cc
      go (Pick picking) is same = cc
      go Export is same = apart 114 101 (λ e. omega (arith, e)) (ap (λ w. slice_get w 0) same)

  pub no_serve : first ≡ codes "serve" → ((serving : Serving) → ¬ (IsServe (drop 1 words) serving)) → IsOutside words
  no_serve name none = λ command is. go command is (sym name ∙ name_is command is)
    where
      behind : (ws : List Word) (serving : Serving) → IsCommand ws (Serve serving) → IsServe (drop 1 ws) serving
      behind [] serving i = absurd i
      behind (w ∷ ws) serving i = i.1

      go : (command : Command) → IsCommand words command → codes "serve" ≡ name_of command → ⊥
      go (Replay options) is same = cc
      go (Serve serving) is same = none serving (behind words serving is)
      go Check is same = apart 115 99 (λ e. omega (arith, e)) (ap (λ w. slice_get w 0) same)
      go (Generate count) is same = cc
      go (Drill count) is same = apart 115 100 (λ e. omega (arith, e)) (ap (λ w. slice_get w 0) same)
      go (Pick picking) is same = cc
      go Export is same = cc

  pub no_gen : first ≡ codes "gen" → ((number : ℕ) → ¬ (IsNumber (drop 1 words) number)) → IsOutside words
  no_gen name none = λ command is. go command is (sym name ∙ name_is command is)
    where
      behind : (ws : List Word) (count : ℕ) → IsCommand ws (Generate count) → IsNumber (drop 1 ws) count
      behind [] count i = absurd i
      behind (w ∷ ws) count i = i.1

      go : (command : Command) → IsCommand words command → codes "gen" ≡ name_of command → ⊥
      go (Replay options) is same = cc
      go (Serve serving) is same = cc
      go Check is same = cc
      go (Generate count) is same = none count (behind words count is)
      go (Drill count) is same = cc
      go (Pick picking) is same = cc
      go Export is same = cc

  pub no_drill : first ≡ codes "drill" → ((number : ℕ) → ¬ (IsNumber (drop 1 words) number)) → IsOutside words
  no_drill name none = λ command is. go command is (sym name ∙ name_is command is)
    where
      behind : (ws : List Word) (count : ℕ) → IsCommand ws (Drill count) → IsNumber (drop 1 ws) count
      behind [] count i = absurd i
      behind (w ∷ ws) count i = i.1

      go : (command : Command) → IsCommand words command → codes "drill" ≡ name_of command → ⊥
      go (Replay options) is same = cc
      go (Serve serving) is same = apart 100 115 (λ e. omega (arith, e)) (ap (λ w. slice_get w 0) same)
      go Check is same = apart 100 99 (λ e. omega (arith, e)) (ap (λ w. slice_get w 0) same)
      go (Generate count) is same = cc
      go (Drill count) is same = none count (behind words count is)
      go (Pick picking) is same = cc
      go Export is same = cc

  pub no_pick : first ≡ codes "pick" → ((picking : Picking) → ¬ (IsPick (drop 1 words) picking)) → IsOutside words
  no_pick name none = λ command is. go command is (sym name ∙ name_is command is)
    where
      behind : (ws : List Word) (picking : Picking) → IsCommand ws (Pick picking) → IsPick (drop 1 ws) picking
      behind [] picking i = absurd i
      behind (w ∷ ws) picking i = i.1

      go : (command : Command) → IsCommand words command → codes "pick" ≡ name_of command → ⊥
      go (Replay options) is same = cc
      go (Serve serving) is same = cc
      go Check is same = cc
      go (Generate count) is same = cc
      go (Drill count) is same = cc
      go (Pick picking) is same = none picking (behind words picking is)
      go Export is same = cc

  pub no_check : first ≡ codes "check" → ¬ (drop 1 words ≡ []) → IsOutside words
  no_check name none = λ command is. go command is (sym name ∙ name_is command is)
    where
      behind : (ws : List Word) → IsCommand ws Check → drop 1 ws ≡ []
      behind [] i = absurd i
      behind (w ∷ ws) i = i.1

      go : (command : Command) → IsCommand words command → codes "check" ≡ name_of command → ⊥
      go (Replay options) is same = cc
      go (Serve serving) is same = apart 99 115 (λ e. omega (arith, e)) (ap (λ w. slice_get w 0) same)
      go Check is same = none (behind words is)
      go (Generate count) is same = cc
      go (Drill count) is same = apart 99 100 (λ e. omega (arith, e)) (ap (λ w. slice_get w 0) same)
      go (Pick picking) is same = cc
      go Export is same = cc

  pub no_export : first ≡ codes "export" → ¬ (drop 1 words ≡ []) → IsOutside words
  no_export name none = λ command is. go command is (sym name ∙ name_is command is)
    where
      behind : (ws : List Word) → IsCommand ws Export → drop 1 ws ≡ []
      behind [] i = absurd i
      behind (w ∷ ws) i = i.1

      go : (command : Command) → IsCommand words command → codes "export" ≡ name_of command → ⊥
      go (Replay options) is same = apart 101 114 (λ e. omega (arith, e)) (ap (λ w. slice_get w 0) same)
      go (Serve serving) is same = cc
      go Check is same = cc
      go (Generate count) is same = cc
      go (Drill count) is same = cc
      go (Pick picking) is same = cc
      go Export is same = none (behind words is)
