-- A command with options, as clap builds it, and its rows.
use Rattle.std.proofs.Common.{◌≡◌, ◌∙◌, ◌⊎◌, ◌<◌, ◌+◌, take, get_or, ℕ, ◌||◌, ◌&&◌, ◌++◌, Bool, true, false, not, cond, refl, sym, ap, ap₂, arith, List, [], ◌∷◌, length, map, drop, codes, zero, suc, Some, None, true≢false, inl, inr, append-nil}
use Rattle.std.specs.List.{Contains, fold, list_all, list_any, slice_index_or}
use Rattle.std.specs.Str.{bytes_eq}
use Rattle.std.proofs.lemmas.List.{map-append, take_more}
use Rattle.std.specs.Borrow.{Bor}
use Rattle.std.proofs.lemmas.List.Folds.{list_any-append}
use Rattle.std.proofs.lemmas.Slice.Eq.{bytes_eq-Decides}
use Rattle.clap.specs.Kinds.{Kinds}
use Rattle.clap.specs.Takes.{is_given}
use Rattle.clap.specs.Faults.{has_free_rules, fault_of, is_simple_and_free, level_fault, defaults_fault}
use Rattle.clap.specs.Walk.{is_early_multiple, Row, Rule, nothing_held, arg_by_id, arg_by_index, arg_by_long, at_row, has_row, reading_by, used, with_default, more_values}
use Rattle.clap.specs.Simple.{with_rule, is_ready, is_simple, App, Shape, built, filled_from, new_rule, new_shape}
use Rattle.clap.specs.declared.builder.action.ArgAction.TheVariants.{Set}
use Rattle.clap.specs.declared.builder.value_parser.ValueParser.TheVariants as vp
use Rattle.clap.specs.declared.parser.matches.ValueSource.TheVariants.{CommandLine}
use Rattle.clap.proofs.FaultLemmas.{leaf_fault}
use Rattle.command_words.specs.Apps.{app_with, option_rule}
use Rattle.command_words.specs.Options.{texts_of, Given, Word, value_of}
use Rattle.command_words.proofs.OptionTexts.{either_false, both_false, nil_from, same_text, not_equal_back}

-- ---- the command as clap builds it

abbrev pub filled_option : Word → Rule
filled_option name = record (new_rule name) {
  long = Some name;
  action = Some Set;
  range = Some (record { start_inclusive = 1; end_inclusive = 1 });
  parser = Some vp.String;
}

pub filled_is : (names : List Word) (i : ℕ) → filled_from i (map option_rule names) ≡ map filled_option names
filled_is [] i = refl
filled_is (name ∷ names) i = ap (λ rest. filled_option name ∷ rest) (filled_is names i)

abbrev pub shape_with : List Rule → Shape
shape_with rules = record (new_shape (codes "fullkewa")) {
  rules = rules;
  is_built = true;
  disable_help_flag = true;
  disable_help_subcommand = true;
}

abbrev pub built_with : List Rule → App
built_with rules = record { top = shape_with rules; subs = [] }

pub built_is : (names : List Word) → built (app_with names) ≡ built_with (map filled_option names)
built_is names = ap built_with (filled_is names 1)

pub fault_is : (names words : List Word) → fault_of (app_with names) words ≡ level_fault (shape_with (map filled_option names)) [] nothing_held (drop 1 words) false []
fault_is names words = leaf_fault (built (app_with names)) nothing_held (drop 1 words) refl
    ∙ ap (λ rules. level_fault (shape_with rules) [] nothing_held (drop 1 words) false []) (filled_is names 1)

-- ---- look-ups

pub by_long : (names : List Word) (name : Word) (k : ℕ) → k < length names → slice_index_or names k name ≡ name
    → arg_by_long (map filled_option names) name ≡ Some (filled_option name)
by_long [] name k lt at = absurd (omega arith)
by_long (first ∷ names) name k lt at = go (bytes_eq first name) refl k lt at (λ j. by_long names name j)
  where
    go : (b : Bool) → bytes_eq first name ≡ b → (k : ℕ) → k < length (first ∷ names) → slice_index_or (first ∷ names) k name ≡ name
        → ((j : ℕ) → j < length names → slice_index_or names j name ≡ name → arg_by_long (map filled_option names) name ≡ Some (filled_option name))
        → cond (b || false) (Some (filled_option first)) (arg_by_long (map filled_option names) name) ≡ Some (filled_option name)
    go true e k lt at rest = ap (λ n. Some (filled_option n)) (same_text first name e)
    go false e zero lt at rest = absurd (true≢false (sym ((bytes_eq-Decides first name).1 at) ∙ e))
    go false e (suc k) lt at rest = rest k (omega arith) at

pub by_id : (names : List Word) (name : Word) (k : ℕ) → k < length names → slice_index_or names k name ≡ name
    → arg_by_id (map filled_option names) name ≡ Some (filled_option name)
by_id [] name k lt at = absurd (omega arith)
by_id (first ∷ names) name k lt at = go (bytes_eq first name) refl k lt at (λ j. by_id names name j)
  where
    go : (b : Bool) → bytes_eq first name ≡ b → (k : ℕ) → k < length (first ∷ names) → slice_index_or (first ∷ names) k name ≡ name
        → ((j : ℕ) → j < length names → slice_index_or names j name ≡ name → arg_by_id (map filled_option names) name ≡ Some (filled_option name))
        → cond b (Some (filled_option first)) (arg_by_id (map filled_option names) name) ≡ Some (filled_option name)
    go true e k lt at rest = ap (λ n. Some (filled_option n)) (same_text first name e)
    go false e zero lt at rest = absurd (true≢false (sym ((bytes_eq-Decides first name).1 at) ∙ e))
    go false e (suc k) lt at rest = rest k (omega arith) at

pub known_or_not : (names : List Word) (name : Word) → Contains names name ⊎ (arg_by_long (map filled_option names) name ≡ None)
known_or_not [] name = inr refl
known_or_not (first ∷ names) name = go (bytes_eq first name) refl (known_or_not names name)
  where
    go : (b : Bool) → bytes_eq first name ≡ b → Contains names name ⊎ (arg_by_long (map filled_option names) name ≡ None)
        → Contains (first ∷ names) name ⊎ (cond (b || false) (Some (filled_option first)) (arg_by_long (map filled_option names) name) ≡ None)
    go true e known = inl (0, omega arith, same_text first name e)
    go false e (inl known) = inl (suc known.0, omega arith, known.2)
    go false e (inr none) = inr none

pub no_positional : (names : List Word) (i : ℕ) → arg_by_index (map filled_option names) i ≡ None
no_positional [] i = refl
no_positional (name ∷ names) i = no_positional names i

-- ---- rows

abbrev pub row_of : Given → Row
row_of g = record {
  id = g.name;
  values = g.value ∷ [];
  count = None;
  source = Some CommandLine;
  reading = reading_by (filled_option g.name);
}

pub new_row : (id : Word) (change : Row → List Row) (missing rows : List Row) → has_row id rows ≡ false → at_row id change missing rows ≡ rows ++ missing
new_row id change missing [] none = refl
new_row id change missing (r ∷ rows) none =
    let parts = either_false (bytes_eq r.id id) (has_row id rows) none in
    rw parts.0 (ap (λ rest. r ∷ rest) (new_row id change missing rows parts.1))

pub used_is : (g : Given) (rows : List Row) → has_row g.name rows ≡ false → used (filled_option g.name) (g.value ∷ []) rows ≡ rows ++ row_of g ∷ []
used_is g rows none =
    ap (at_row g.name (more_values CommandLine (g.value ∷ [])) (row_of g ∷ [])) (new_row g.name (λ _. []) [] rows none ∙ append-nil rows)
    ∙ new_row g.name (more_values CommandLine (g.value ∷ [])) (row_of g ∷ []) rows none

-- the names of the options have no row yet
abbrev pub AreNew : List Row → List Given → Type 0
AreNew rows [] = Unit {0}
AreNew rows (g ∷ rest) = (has_row g.name rows ≡ false) × AreNew rows rest

pub new_after : (rows : List Row) (g : Given) (given : List Given) → AreNew rows given → value_of g.name given ≡ None → AreNew (rows ++ row_of g ∷ []) given
unfolding value_of
new_after rows g [] new once = tt
new_after rows g (next ∷ given) new once = go (bytes_eq next.name g.name) refl once (new_after rows g given new.1)
  where
    go : (b : Bool) → bytes_eq next.name g.name ≡ b → cond b (Some next.value) (value_of g.name given) ≡ None
        → (value_of g.name given ≡ None → AreNew (rows ++ row_of g ∷ []) given) → AreNew (rows ++ row_of g ∷ []) (next ∷ given)
    go true e once rest = cc
    go false e once rest = (
      list_any-append (λ r. bytes_eq r.id next.name) rows (row_of g ∷ [])
          ∙ both_false _ _ new.0 (both_false _ _ (not_equal_back next.name g.name e) refl),
      rest once,
    )

pub new_before : (rows : List Row) (g : Given) (given : List Given) → AreNew (rows ++ row_of g ∷ []) given → AreNew rows given × (value_of g.name given ≡ None)
unfolding value_of
new_before rows g [] new = (tt, refl)
new_before rows g (next ∷ given) new =
    let rest = new_before rows g given new.1 in
    let parts = either_false _ _ (sym (list_any-append (λ r. bytes_eq r.id next.name) rows (row_of g ∷ [])) ∙ new.0) in
    let differs = not_equal_back g.name next.name (either_false _ _ parts.1).0 in
    ((parts.0, rest.0), ap (λ b. cond b (Some next.value) (value_of g.name given)) differs ∙ rest.1)

-- ---- what comes after the words

pub no_defaults : (rows : List Row) (names : List Word) → defaults_fault rows (map filled_option names) ≡ []
unfolding defaults_fault
no_defaults rows [] = refl
no_defaults rows (name ∷ names) = nil_from _ _ (none (has_row name rows)) (no_defaults (with_default rows (filled_option name)) names)
  where
    none : (b : Bool) → ◌≡◌ {A = Kinds} (cond (b || true) [] []) []
    none true = refl
    none false = refl

pub finished_is : (rows : List Row) (names : List Word) → fold with_default rows (map filled_option names) ≡ rows
finished_is rows [] = refl
finished_is rows (name ∷ names) = ap (λ r. fold with_default r (map filled_option names)) (same (has_row name rows)) ∙ finished_is rows names
  where
    same : (b : Bool) → cond b rows rows ≡ rows
    same true = refl
    same false = refl

pub none_required : (rows : List Row) (names : List Word) → list_any (λ a. a.required && not (is_given a.id rows)) (map filled_option names) ≡ false
none_required rows [] = refl
none_required rows (name ∷ names) = none_required rows names

-- ---- what clap asks of the command

pub both_true : (a b : Bool) → a ≡ true → b ≡ true → (a && b) ≡ true
both_true a b x y = ap₂ ◌&&◌ x y

pub simple_rules : (names : List Word) → list_all (λ a. a.is_simple) (map option_rule names) ≡ true
simple_rules [] = refl
simple_rules (name ∷ names) = simple_rules names

pub simple_filled : (names : List Word) → list_all (λ a. a.is_simple) (map filled_option names) ≡ true
simple_filled [] = refl
simple_filled (name ∷ names) = simple_filled names

pub free_filled : (names : List Word) → list_all (λ a. a.is_free) (map filled_option names) ≡ true
free_filled [] = refl
free_filled (name ∷ names) = free_filled names

pub none_early : (n : ℕ) (names : List Word) → list_any (is_early_multiple n) (map filled_option names) ≡ false
none_early n [] = refl
none_early n (name ∷ names) = none_early n names

pub simple : (names : List Word) → is_simple (app_with names) ≡ true
simple names = both_true _ _ (both_true _ _ (simple_rules names) refl) (both_true _ _ (ap (λ b. is_ready b.top) (built_is names)
    ∙ both_true _ _ (simple_filled names) (ap not (none_early _ names))) refl)

pub simple_and_free : (names : List Word) → is_simple_and_free (app_with names) ≡ true
simple_and_free names = both_true _ _ (simple names) (both_true _ _ (ap (λ b. has_free_rules b.top) (built_is names) ∙ free_filled names) refl)

-- one more option joins the command
pub app_more : (names : List (Bor Word)) (i : ℕ) (d : Bor Word) → i < length names
    → with_rule (app_with (texts_of (take i names))) (option_rule (get_or names i d).now) ≡ app_with (texts_of (take (i + 1) names))
app_more names i d lt =
    let name = get_or names i d in
    let now = sym (map-append (λ (t : Bor Word). t.now) (take i names) (name ∷ [])) ∙ ap texts_of (sym (take_more names i d lt)) in
    ap (λ rules. record (app_with []) { top = record (app_with []).top { rules = rules } }) (sym (map-append option_rule (texts_of (take i names)) (name.now ∷ [])))
    ∙ ap app_with now
