-- What clap makes of words for a command with options.
use Rattle.std.proofs.Common.{◌≡◌, ◌∙◌, ◌++◌, Bool, true, false, cond, refl, sym, ap, subst, arith, List, [], ◌∷◌, map, drop, Some, true≢false}
use Rattle.std.specs.Prelude.{option_and_then, slice_get, find}
use Rattle.std.specs.List.{list_all, list_any}
use Rattle.std.specs.Str.{bytes_eq}
use Rattle.std.specs.Borrow.{Bor}
use Rattle.clap.specs.Kinds.{check_kinds}
use Rattle.clap.specs.Faults.{fault_of}
use Rattle.clap.specs.Walk.{rows_after, Row, nothing_held, walk_from, first_of}
use Rattle.clap.specs.Simple.{names_of, matches_of}
use Rattle.clap.proofs.WalkLemmas.{list_any-map}
use Rattle.command_words.specs.Apps.{app_with}
use Rattle.command_words.specs.Options.{texts_of, AreOptions, Given, Gives, Word, all_words, begins_with_hyphen, is_name, value_of}
use Rattle.command_words.specs.Stray.{is_stray}
use Rattle.command_words.proofs.OptionTexts.{both_false, nil_both, nil_from}
use Rattle.command_words.proofs.OptionRules.{built_is, fault_is, row_of, AreNew, no_defaults, finished_is, none_required}
use Rattle.command_words.proofs.OptionWalk.{Passes, plain_name, given_passes, words_read}

all_new : (given : List Given) → AreNew [] given
all_new [] = tt
all_new (g ∷ given) = (refl, all_new given)

first_is : (given : List Given) (name : Word) → first_of name (map row_of given) ≡ value_of name given
unfolding value_of
first_is [] name = refl
first_is (g ∷ given) name = go (bytes_eq g.name name) (first_is given name)
  where
    go : (b : Bool) → first_of name (map row_of given) ≡ value_of name given
        → option_and_then (λ (r : Row). slice_get r.values 0) (cond b (Some (row_of g)) (find (λ r. bytes_eq r.id name) (map row_of given)))
        ≡ cond b (Some g.value) (value_of name given)
    go true rest = refl
    go false rest = rest

-- words that clap takes are those of options
pub words_give : (names words : List Word) → list_any is_stray (drop 1 words) ≡ false → fault_of (app_with names) words ≡ []
    → (given : List Given) × Gives names (drop 1 words) given
words_give names words clean e =
    let level = nil_both _ _ (sym (fault_is names words) ∙ e) in
    let end = nil_both _ _ level.1 in
    let read = (words_read names (drop 1 words) clean).0 nothing_held (level.0, end.0) in
    (read.1, record { options = read.3; written = read.2 })

module _ (names words : List Word) (plain : list_all is_name names ≡ true) (given : List Given) (gives : Gives names (drop 1 words) given) where
  end_is : Passes names (walk_from nothing_held) (drop 1 words) (map row_of given)
  end_is = subst (λ ws. Passes names (walk_from nothing_held) ws (map row_of given)) (sym gives.written)
      (given_passes names plain given nothing_held refl gives.options (all_new given))

  -- clap takes the words of options
  pub words_taken : fault_of (app_with names) words ≡ []
  words_taken = fault_is names words ∙ nil_from _ _ end_is.0 (nil_from _ _ end_is.1 (nil_from _ _ (no_defaults _ names)
      (ap (check_kinds false false) (none_required _ names))))

  -- and gives each name the value that is given to it
  pub values_are : (name : Word) → first_of name (matches_of (app_with names) words) ≡ value_of name given
  values_are name = ap (first_of name)
      (ap (λ b. rows_after b.top.rules (names_of b) (drop 1 words)) (built_is names) ∙ finished_is _ names ∙ end_is.2) ∙ first_is given name

-- no word of options is stray
pub no_stray : (names : List Word) → list_all is_name names ≡ true → (given : List Given) → AreOptions names given → list_any is_stray (all_words given) ≡ false
unfolding all_words AreOptions
no_stray names plain [] options = refl
no_stray names plain (g ∷ given) options = go g.is_joined refl g.name (plain_name names plain g.name options.0.known) (no_stray names plain given options.1)
  where
    of_value : (value : Word) → begins_with_hyphen value ≡ false → is_stray value ≡ false
    of_value [] e = refl
    of_value (x ∷ xs) e = rw e refl

    go : (b : Bool) → g.is_joined ≡ b → (name : Word) → is_name name ≡ true → list_any is_stray (all_words given) ≡ false
        → list_any is_stray (cond b ((45 ∷ 45 ∷ name ++ 61 ∷ g.value) ∷ []) ((45 ∷ 45 ∷ name) ∷ g.value ∷ []) ++ all_words given) ≡ false
    go b is [] plain rest = absurd (true≢false (sym plain))
    go true is (x ∷ xs) plain rest = rest
    go false is (x ∷ xs) plain rest = both_false _ _ (of_value g.value (options.0.separate is)) rest

-- words give each name one value at most
pub one_value : (names words : List Word) → list_all is_name names ≡ true → (given others : List Given) → Gives names words given → Gives names words others
    → (name : Word) → value_of name given ≡ value_of name others
one_value names words plain given others gives also name =
    sym (values_are names ([] ∷ words) plain given gives name) ∙ values_are names ([] ∷ words) plain others also name

-- ---- no names at all

pub no_options : (words : List Word) (given : List Given) → Gives [] words given → words ≡ []
unfolding AreOptions all_words
no_options words [] gives = gives.written
no_options words (g ∷ given) gives = absurd (omega (arith, gives.options.0.known.1))

pub nothing_given : (words : List Word) → words ≡ [] → Gives [] words []
unfolding AreOptions all_words
nothing_given words none = record { options = tt; written = none }

-- ---- the words as references

pub stray_texts : (words : List (Bor Word)) → list_any (λ word. is_stray word.now) (drop 1 words) ≡ list_any is_stray (drop 1 (texts_of words))
stray_texts [] = refl
stray_texts (first ∷ words) = list_any-map is_stray (λ (t : Bor Word). t.now) words
