use Rattle.std.proofs.Common.{rules, ◌≡◌, ◌∙◌, false, true, None, Some, ap, sym, IsErrAnd, unwrap_or, codes}
use Rattle.clap.specs.Words.{first_value, found_of}
use Rattle.serve_names.specs.Labels.{is_domain_of}
use Rattle.command_words.specs.Settings.{count_between, gc_in}
use Rattle.command_words.specs.declared.command.WordsError.TheVariants.{Usage}
use Rattle.command_words.proofs.PlaneOptions.{all_read, domain_text, no_domain, no_gc, no_steps, steps_text}
use Rattle.command_words.proofs.settings.options_in.Goals as goal

pub returns-in_default-clause-usage : goal.returns-in_default-clause-usage
returns-in_default-clause-usage c =
    let steps = c.args.steps.now in
    let value = first_value (found_of c.args.matches.now) in
    let text : c.value_or.result.now ≡ steps_text steps value = search rules in
    let none : c.count_between.result ≡ None = search rules in
    λ _. no_steps steps value (ap (count_between 0 10000) (sym text) ∙ sym c.count_between.ensures ∙ none)

pub returns-then-not-is_domain-clause-usage : goal.returns-then-not-is_domain-clause-usage
returns-then-not-is_domain-clause-usage c =
    let steps = c.args.steps.now in
    let value = first_value (found_of c.args.matches.now) in
    let text : c.value_or-domain.result.now ≡ domain_text steps value = search rules in
    let bytes : c.as_bytes.result.now ≡ c.value_or-domain.result.now = search rules in
    let none : c.is_domain.result ≡ false = search rules in
    λ _. no_domain steps value (ap is_domain_of (sym (bytes ∙ text)) ∙ sym c.is_domain.ensures ∙ none)

pub returns-in_err-gc-clause-usage : goal.returns-in_err-gc-clause-usage
returns-in_err-gc-clause-usage c =
    let steps = c.args.steps.now in
    let value = first_value (found_of c.args.matches.now) in
    let create : c.value_or-create.result.now ≡ unwrap_or (value (codes "retain-since-create-time")) (codes "48h") = search rules in
    let active : c.value_or-active.result.now ≡ unwrap_or (value (codes "retain-since-last-active-time")) (codes "15h") = search rules in
    let least : c.value_or-least.result.now ≡ unwrap_or (value (codes "min-non-active-revisions")) (codes "20") = search rules in
    let most : c.value_or-most.result.now ≡ unwrap_or (value (codes "max-non-active-revisions")) (codes "1000") = search rules in
    let usage : IsErrAnd c.from_residual.result (λ e. e ≡ Usage)
    → gc_in c.value_or-create.result.now c.value_or-active.result.now c.value_or-least.result.now c.value_or-most.result.now ≡ None = search rules in
    λ is. no_gc steps value (sym (λ i. gc_in (create i) (active i) (least i) (most i)) ∙ usage is)

pub returns : goal.returns
returns c =
    let steps = c.args.steps.now in
    let value = first_value (found_of c.args.matches.now) in
    let auto_text : c.value_or.result.now ≡ steps_text steps value = search rules in
    let text : c.value_or-domain.result.now ≡ domain_text steps value = search rules in
    let bytes : c.as_bytes.result.now ≡ c.value_or-domain.result.now = search rules in
    let create : c.value_or-create.result.now ≡ unwrap_or (value (codes "retain-since-create-time")) (codes "48h") = search rules in
    let active : c.value_or-active.result.now ≡ unwrap_or (value (codes "retain-since-last-active-time")) (codes "15h") = search rules in
    let least : c.value_or-least.result.now ≡ unwrap_or (value (codes "min-non-active-revisions")) (codes "20") = search rules in
    let most : c.value_or-most.result.now ≡ unwrap_or (value (codes "max-non-active-revisions")) (codes "1000") = search rules in
    let auto : c.count_between.result ≡ Some c.in-Some.auto = search rules in
    let is_domain : c.is_domain.result ≡ true = search rules in
    let domain : c.in_ok-domain.domain ≡ c.value_or-domain.result.now = search rules in
    let all = all_read steps value c.in-Some.auto c.in_ok-gc.gc (ap (count_between 0 10000) (sym auto_text) ∙ sym c.count_between.ensures ∙ auto)
    (ap is_domain_of (sym (bytes ∙ text)) ∙ sym c.is_domain.ensures ∙ is_domain)
    (sym (λ i. gc_in (create i) (active i) (least i) (most i)) ∙ c.in_ok-gc.ensures.gc) in
    record {
      options = all ∙ ap (λ d. Some (record { auto = c.in-Some.auto; settings = record { domain = d; gc = c.in_ok-gc.gc } })) (sym (domain ∙ text));
      usage = λ bad. absurd bad;
    }
