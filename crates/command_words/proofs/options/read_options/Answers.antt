use Rattle.std.proofs.Common.{rules, ◌≡◌, ◌∙◌, drop, sym, subst, true, false, true≢false, ap, inl, inr}
use Rattle.std.specs.List.{list_all, list_any}
use Rattle.clap.specs.Words.{IsAmong, app_of, fault_of, first_of, found_of, is_simple, is_simple_and_free, matches_of}
use Rattle.clap.proofs.WalkLemmas.{first_value-rows}
use Rattle.command_words.specs.Apps.{app_with}
use Rattle.command_words.specs.Options.{is_name, texts_of}
use Rattle.command_words.specs.Stray.{is_stray}
use Rattle.command_words.proofs.OptionRules.{simple, simple_and_free}
use Rattle.command_words.proofs.OptionWords.{no_stray, stray_texts, values_are, words_give, words_taken}
use Rattle.command_words.proofs.options.read_options.Goals as goal

pub returns-then-has_stray-clause-usage : goal.returns-then-has_stray-clause-usage
returns-then-has_stray-clause-usage c = λ _ given gives.
    let some : list_any (λ word. is_stray word.now) (drop 1 c.args.words.now) ≡ true = search rules in
    let plain : list_all is_name (texts_of c.args.names.now) ≡ true = search rules in
    true≢false (sym some ∙ stray_texts c.args.words.now ∙ ap (list_any is_stray) gives.written ∙ no_stray _ plain given gives.options)

pub returns-in-Ok-clause-values : goal.returns-in-Ok-clause-values
returns-in-Ok-clause-values c =
    let names = texts_of c.args.names.now in
    let words = texts_of c.args.words.now in
    let none : list_any (λ word. is_stray word.now) (drop 1 c.args.words.now) ≡ false = search rules in
    let plain : list_all is_name names ≡ true = search rules in
    let app : app_of c.in_ok-command.command ≡ app_with names = c.in_ok-command.ensures in
    let passed = c.in-Ok.ensures.kinds (ap is_simple_and_free app ∙ simple_and_free names) in
    let read = words_give names words (sym (stray_texts c.args.words.now) ∙ none) (sym (ap (λ a. fault_of a words) app) ∙ passed) in
    let rows = (c.in-Ok.ensures.matches (ap is_simple app ∙ simple names)).0 in (
      read.0,
      read.1,
      λ name. first_value-rows (found_of c.in-Ok.matches) name ∙ ap (first_of name) (rows ∙ ap (λ a. matches_of a words) app)
          ∙ values_are names words plain read.0 read.1 name,
    )

pub returns : goal.returns
returns c = record {
  values = tt;
  usage = λ _ given gives.
      let names = texts_of c.args.names.now in
      let words = texts_of c.args.words.now in
      let plain : list_all is_name names ≡ true = search rules in
      let app : app_of c.in_ok-command.command ≡ app_with names = c.in_ok-command.ensures in
      let kind = c.in-Err.ensures.kinds (ap is_simple_and_free app ∙ simple_and_free names) in
      elim kind [
        | inl memory ↦ c.in_default.not-OutOfMemory (c.kind.ensures ∙ memory)
        | inr among ↦ subst (IsAmong c.in-Err.error.kind) (ap (λ a. fault_of a words) app ∙ words_taken names words plain given gives) among
      ];
}
