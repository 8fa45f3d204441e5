use Rattle.std.proofs.Common.{rules, ◌≡◌, ◌∙◌, ◌++◌, ◌%◌}
use Rattle.std.proofs.lemmas.Result.{IfOk-weaker}
use Rattle.jiff.specs.Words.{date_text}
use Rattle.serve_names.specs.Moments.{clock_text}
use Rattle.serve_names.proofs.DayLemmas.{moment_is}
use Rattle.serve_names.proofs.moments.moment_text.Goals as goal

pub returns-clause-civil : goal.returns-clause-civil
returns-clause-civil c =
    let bytes : c.as_str.result.now ≡ date_text c.date_after.result ++ clock_text (c.args.moment % 86400) = search rules in
    IfOk-weaker c.new.result _ _ (λ t e. (c.date_after.result, c.date_after.ensures, e ∙ bytes)) c.new.ensures

pub returns-clause-text : goal.returns-clause-text
returns-clause-text c =
    let bytes : c.as_str.result.now ≡ date_text c.date_after.result ++ clock_text (c.args.moment % 86400) = search rules in
    IfOk-weaker c.new.result _ _ (λ t e. moment_is c.args.moment t c.requires (c.date_after.result, c.date_after.ensures, e ∙ bytes)) c.new.ensures
