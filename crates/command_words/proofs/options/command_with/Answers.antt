use Rattle.std.proofs.Common.{rules, ◌∙◌, ◌<◌, List, ℕ, [], Some, length, get_or, ap, ap₂}
use Rattle.std.specs.Borrow.{Bor}
use Rattle.clap.specs.Words.{Rule, rule_of, with_rule}
use Rattle.command_words.proofs.OptionRules.{app_more}
use Rattle.command_words.proofs.options.command_with.Goals as goal

pub loop-name-preserved : goal.loop-name-preserved
loop-name-preserved c =
    let names = c.args.names.now in
    let i = c.loop-name.name-index in
    let none : Bor (List ℕ) = record { ref_ptr = (0, 0); now = [] } in
    let rule = ap rule_of c.long.ensures ∙ ap (λ (r : Rule). record r { long = Some (get_or names i none).now }) c.new-in-loop-name.ensures.rule in
    let within : i < length names = search rules in
    c.in_ok-command.ensures.shape (search rules) ∙ ap₂ with_rule c.loop-name.invariant rule ∙ app_more names i none within
