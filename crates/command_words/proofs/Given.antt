-- The words of options, and what their values say.
use Rattle.std.proofs.Common.{◌≡◌, ◌∙◌, true, List, Option, Some, None, sym, ap}
use Rattle.std.specs.List.{list_all}
use Rattle.command_words.specs.Options.{GivesValues, Word, value_of, is_name}
use Rattle.command_words.specs.Settings.{IsGiven}
use Rattle.command_words.proofs.OptionWords.{one_value}

module _ {A : Type 0} (names : List Word) (are : list_all is_name names ≡ true) (of : (Word → Option Word) → Option A) (words : List Word)
    (value : Word → Option Word) (read : GivesValues names words value) where
  same_values : value ≡ (λ name. value_of name read.0)
  same_values = λ i name. read.2 name i

  pub given_read : (a : A) → of value ≡ Some a → IsGiven names of words a
  given_read a is = (read.0, read.1, sym (ap of same_values) ∙ is)

  -- the words give a name one value at most, so that no other reading says more
  pub given_refused : of value ≡ None → (a : A) → ¬ (IsGiven names of words a)
  given_refused none a given =
      let others : ◌≡◌ {A = Word → Option Word} (λ name. value_of name read.0) (λ name. value_of name given.0) =
      λ i name. one_value names words are read.0 given.0 read.1 given.1 name i in
      let bad : None ≡ Some a = sym none ∙ ap of same_values ∙ ap of others ∙ given.2 in
      cc
