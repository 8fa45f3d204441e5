use Rattle.std.proofs.Common.{rules, ◌≡◌, ℕ, List, [], Some, IsErrAnd, codes, drop, subst}
use Rattle.std.specs.Prelude.{slice_get}
use Rattle.command_words.specs.Options.{Word, texts_of}
use Rattle.command_words.specs.Settings.{IsReplay}
use Rattle.command_words.specs.Serving.{IsServe}
use Rattle.command_words.specs.Picking.{IsNumber, IsPick}
use Rattle.command_words.specs.declared.command.WordsError.TheVariants.{Usage}
use Rattle.command_words.specs.declared.settings.Options.{Options}
use Rattle.command_words.specs.declared.serving.Serving.{Serving}
use Rattle.command_words.specs.declared.picking.Picking.{Picking}
use Rattle.command_words.proofs.Commands.{no_replay, no_serve, no_check, no_gen, no_drill, no_pick, no_export}
use Rattle.command_words.proofs.command.command_of.Goals as goal

pub returns-in_err-read_replay-in-replay-clause-usage : goal.returns-in_err-read_replay-in-replay-clause-usage
returns-in_err-read_replay-in-replay-clause-usage c =
    let words = c.args.words.now in
    let head : slice_get words 0 ≡ Some c.in-Some.first.now = search rules in
    let name : c.in-Some.first.now ≡ codes "replay" = search rules in
    let texts : texts_of c.as_slice.result.now ≡ words = search rules in
    let reason : IsErrAnd c.from_residual-in_err-read_replay-in-replay.result (λ e. e ≡ Usage) → c.in_err-read_replay-in-replay.field-0.0 ≡ Usage = search rules in
    λ is. no_replay words c.in-Some.first.now head name
    (subst (λ (ws : List Word). (options : Options) → ¬ (IsReplay (drop 1 ws) options)) texts (c.in_err-read_replay-in-replay.ensures.usage (reason is)))

pub returns-in_err-read_serve-in-serve-clause-usage : goal.returns-in_err-read_serve-in-serve-clause-usage
returns-in_err-read_serve-in-serve-clause-usage c =
    let words = c.args.words.now in
    let head : slice_get words 0 ≡ Some c.in-Some.first.now = search rules in
    let name : c.in-Some.first.now ≡ codes "serve" = search rules in
    let texts : texts_of c.as_slice-in-serve.result.now ≡ words = search rules in
    let reason : IsErrAnd c.from_residual-in_err-read_serve-in-serve.result (λ e. e ≡ Usage) → c.in_err-read_serve-in-serve.field-0.0 ≡ Usage = search rules in
    λ is. no_serve words c.in-Some.first.now head name
    (subst (λ (ws : List Word). (serving : Serving) → ¬ (IsServe (drop 1 ws) serving)) texts (c.in_err-read_serve-in-serve.ensures.usage (reason is)))

pub returns-in_err-read_number-in-gen-clause-usage : goal.returns-in_err-read_number-in-gen-clause-usage
returns-in_err-read_number-in-gen-clause-usage c =
    let words = c.args.words.now in
    let head : slice_get words 0 ≡ Some c.in-Some.first.now = search rules in
    let name : c.in-Some.first.now ≡ codes "gen" = search rules in
    let texts : texts_of c.as_slice-in-gen.result.now ≡ words = search rules in
    let reason : IsErrAnd c.from_residual-in_err-read_number-in-gen.result (λ e. e ≡ Usage) → c.in_err-read_number-in-gen.field-0.0 ≡ Usage = search rules in
    λ is. no_gen words c.in-Some.first.now head name
    (subst (λ (ws : List Word). (number : ℕ) → ¬ (IsNumber (drop 1 ws) number)) texts (c.in_err-read_number-in-gen.ensures.usage (reason is)))

pub returns-in_err-read_number-in-drill-clause-usage : goal.returns-in_err-read_number-in-drill-clause-usage
returns-in_err-read_number-in-drill-clause-usage c =
    let words = c.args.words.now in
    let head : slice_get words 0 ≡ Some c.in-Some.first.now = search rules in
    let name : c.in-Some.first.now ≡ codes "drill" = search rules in
    let texts : texts_of c.as_slice-in-drill.result.now ≡ words = search rules in
    let reason : IsErrAnd c.from_residual-in_err-read_number-in-drill.result (λ e. e ≡ Usage) → c.in_err-read_number-in-drill.field-0.0 ≡ Usage = search rules in
    λ is. no_drill words c.in-Some.first.now head name
    (subst (λ (ws : List Word). (number : ℕ) → ¬ (IsNumber (drop 1 ws) number)) texts (c.in_err-read_number-in-drill.ensures.usage (reason is)))

pub returns-in_err-read_pick-in-pick-clause-usage : goal.returns-in_err-read_pick-in-pick-clause-usage
returns-in_err-read_pick-in-pick-clause-usage c =
    let words = c.args.words.now in
    let head : slice_get words 0 ≡ Some c.in-Some.first.now = search rules in
    let name : c.in-Some.first.now ≡ codes "pick" = search rules in
    let texts : texts_of c.as_slice-in-pick.result.now ≡ words = search rules in
    let reason : IsErrAnd c.from_residual-in_err-read_pick-in-pick.result (λ e. e ≡ Usage) → c.in_err-read_pick-in-pick.field-0.0 ≡ Usage = search rules in
    λ is. no_pick words c.in-Some.first.now head name
    (subst (λ (ws : List Word). (picking : Picking) → ¬ (IsPick (drop 1 ws) picking)) texts (c.in_err-read_pick-in-pick.ensures.usage (reason is)))

pub returns-in_err-read_bare-in-check-clause-usage : goal.returns-in_err-read_bare-in-check-clause-usage
returns-in_err-read_bare-in-check-clause-usage c =
    let words = c.args.words.now in
    let head : slice_get words 0 ≡ Some c.in-Some.first.now = search rules in
    let name : c.in-Some.first.now ≡ codes "check" = search rules in
    let texts : texts_of c.as_slice-in-check.result.now ≡ words = search rules in
    let reason : IsErrAnd c.from_residual-in_err-read_bare-in-check.result (λ e. e ≡ Usage) → c.in_err-read_bare-in-check.field-0.0 ≡ Usage = search rules in
    λ is. no_check words c.in-Some.first.now head name
    (subst (λ (ws : List Word). ¬ (drop 1 ws ≡ [])) texts (c.in_err-read_bare-in-check.ensures.usage (reason is)))

pub returns-in_err-read_bare-in-export-clause-usage : goal.returns-in_err-read_bare-in-export-clause-usage
returns-in_err-read_bare-in-export-clause-usage c =
    let words = c.args.words.now in
    let head : slice_get words 0 ≡ Some c.in-Some.first.now = search rules in
    let name : c.in-Some.first.now ≡ codes "export" = search rules in
    let texts : texts_of c.as_slice-in-export.result.now ≡ words = search rules in
    let reason : IsErrAnd c.from_residual-in_err-read_bare-in-export.result (λ e. e ≡ Usage) → c.in_err-read_bare-in-export.field-0.0 ≡ Usage = search rules in
    λ is. no_export words c.in-Some.first.now head name
    (subst (λ (ws : List Word). ¬ (drop 1 ws ≡ [])) texts (c.in_err-read_bare-in-export.ensures.usage (reason is)))
