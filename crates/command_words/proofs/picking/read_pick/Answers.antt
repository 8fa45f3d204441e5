use Rattle.std.proofs.Common.{rules, ◌≡◌, IsErrAnd, drop, refl, subst, sym}
use Rattle.std.proofs.lemmas.Result.{IfOk-weaker}
use Rattle.clap.specs.Words.{first_value, found_of}
use Rattle.command_words.specs.Options.{Gives, GivesNone, GivesValues, texts_of}
use Rattle.command_words.specs.Picking.{pick_names, picking_of}
use Rattle.command_words.specs.declared.command.WordsError.TheVariants.{Usage}
use Rattle.command_words.proofs.Given.{given_read, given_refused}
use Rattle.command_words.proofs.picking.read_pick.Goals as goal

pub returns-in_err-matches-clause-usage : goal.returns-in_err-matches-clause-usage
returns-in_err-matches-clause-usage c =
    let words = drop 1 (texts_of c.args.words.now) in
    let names_are : texts_of c.as_slice.result.now ≡ pick_names = search rules in
    let usage : IsErrAnd c.from_residual.result (λ e. e ≡ Usage) → GivesNone (texts_of c.as_slice.result.now) words = search rules in
    λ is a given. usage is given.0 (subst (λ ns. Gives ns words given.0) (sym names_are) given.1)

pub returns : goal.returns
returns c =
    let words = drop 1 (texts_of c.args.words.now) in
    let value = first_value (found_of c.in_ok-matches.matches) in
    let names_are : texts_of c.as_slice.result.now ≡ pick_names = search rules in
    let read = subst (λ ns. GivesValues ns words value) names_are c.in_ok-matches.ensures.values in
    record {
      pick = IfOk-weaker c.picking_in.result _ _ (given_read pick_names refl picking_of words value read) c.picking_in.ensures.picking;
      usage = λ is. given_refused pick_names refl picking_of words value read (c.picking_in.ensures.usage is);
    }
