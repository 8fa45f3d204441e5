use Rattle.std.proofs.Common.{rules, ◌≡◌, [], drop, subst, sym, IsErrAnd}
use Rattle.command_words.specs.Options.{Gives, GivesNone, texts_of}
use Rattle.command_words.specs.declared.command.WordsError.TheVariants.{Usage}
use Rattle.command_words.proofs.OptionWords.{no_options, nothing_given}
use Rattle.command_words.proofs.options.read_bare.Goals as goal

pub returns-in_err-_matches-clause-usage : goal.returns-in_err-_matches-clause-usage
returns-in_err-_matches-clause-usage c =
    let names : texts_of c.as_slice.result.now ≡ [] = search rules in
    let words = drop 1 (texts_of c.args.words.now) in
    let usage : IsErrAnd c.from_residual.result (λ e. e ≡ Usage) → GivesNone (texts_of c.as_slice.result.now) words = search rules in
    λ is none. usage is [] (subst (λ ns. Gives ns words []) (sym names) (nothing_given words none))

pub returns-clause-none : goal.returns-clause-none
returns-clause-none c =
    let names : texts_of c.as_slice.result.now ≡ [] = search rules in
    let words = drop 1 (texts_of c.args.words.now) in
    let read = c.in_ok-_matches.ensures.values in
    no_options words read.0 (subst (λ ns. Gives ns words read.0) names read.1)
