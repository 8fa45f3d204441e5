use Rattle.std.proofs.Common.{rules, ◌≡◌, IsErrAnd, drop, codes, refl, subst, sym}
use Rattle.std.proofs.lemmas.Result.{IfOk-weaker}
use Rattle.clap.specs.Words.{first_value, found_of}
use Rattle.command_words.specs.Options.{Gives, GivesNone, GivesValues, texts_of}
use Rattle.command_words.specs.Settings.{names, options_of}
use Rattle.command_words.specs.declared.command.WordsError.TheVariants.{Usage}
use Rattle.command_words.proofs.Given.{given_read, given_refused}
use Rattle.command_words.proofs.settings.read_replay.Goals as goal

pub returns-in_err-matches-clause-usage : goal.returns-in_err-matches-clause-usage
returns-in_err-matches-clause-usage c =
    let words = drop 1 (texts_of c.args.words.now) in
    let names_are : texts_of c.as_slice.result.now ≡ names = search rules in
    let usage : IsErrAnd c.from_residual.result (λ e. e ≡ Usage) → GivesNone (texts_of c.as_slice.result.now) words = search rules in
    λ is options replay. usage is replay.0 (subst (λ ns. Gives ns words replay.0) (sym names_are) replay.1)

pub returns : goal.returns
returns c =
    let words = drop 1 (texts_of c.args.words.now) in
    let value = first_value (found_of c.in_ok-matches.matches) in
    let names_are : texts_of c.as_slice.result.now ≡ names = search rules in
    let read = subst (λ ns. GivesValues ns words value) names_are c.in_ok-matches.ensures.values in
    record {
      replay = IfOk-weaker c.options_in.result _ _ (given_read names refl (options_of (codes "0")) words value read) c.options_in.ensures.options;
      usage = λ is. given_refused names refl (options_of (codes "0")) words value read (c.options_in.ensures.usage is);
    }
