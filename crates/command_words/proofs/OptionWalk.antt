-- The walk of clap over the words of options.
use Rattle.std.proofs.Common.{◌≡◌, ◌∙◌, ◌⊎◌, ℕ, ◌==◌, ◌&&◌, ◌++◌, Bool, true, false, cond, refl, sym, ap, ap₂, subst, List, [], ◌∷◌, map, Option, Some, None, true≢false, inl, inr, append_assoc, append-nil}
use Rattle.std.specs.List.{Contains, fold, list_all, list_any, before_first, after_first}
use Rattle.std.specs.Option.{option_map_or}
use Rattle.std.proofs.lemmas.List.Sums.{AllPass-from_list_all}
use Rattle.clap.specs.Lexer.{has_byte, name_and_value}
use Rattle.clap.specs.Kinds.{Kinds, or_else}
use Rattle.clap.specs.Faults.{turn_fault, walk_fault, flag_word_fault, long_fault, step_fault, settle_fault, use_fault, bundle_fault, positional_fault, stray_fault}
use Rattle.clap.specs.Walk.{Held, Row, Rule, Text, Waiting, Walk, idle, option, trailing, walk_from, walked, after_step, after_flag, long_met, long_or_other, short_or_plain, arg_by_id, arg_by_long, has_row, reacted, settled, used, used_by_id}
use Rattle.clap.specs.Simple.{Shape}
use Rattle.clap.specs.declared.error.kind.ErrorKind.TheVariants.{ArgumentConflict}
use Rattle.clap.proofs.CutLemmas.{Lacks}
use Rattle.clap.proofs.LexerLemmas.{name_and_value-at, name_and_value-without}
use Rattle.command_words.specs.Options.{AreOptions, Given, Word, all_words, begins_with_hyphen, is_name, value_of}
use Rattle.command_words.specs.Stray.{is_stray}
use Rattle.command_words.proofs.OptionTexts.{either_false, nil_both, nil_from, equal_to_itself, Lacks-from, cut, not_dashes, not_long, not_short, Lacks_equals, long_or_plain}
use Rattle.command_words.proofs.OptionRules.{filled_option, shape_with, by_long, by_id, known_or_not, no_positional, row_of, used_is, AreNew, new_after, new_before}

-- ---- one turn of the walk

module _ (names : List Word) where
  abbrev pub rules : List Rule
  rules = map filled_option names

  abbrev pub shape : Shape
  shape = shape_with rules

  -- the walk where the next word is the value of the option
  abbrev pub at_value : Word → Held → Walk
  at_value name h = record (walk_from h) { waiting = option name }

  -- the turn at `--name` or `--name=value`, by what the look-up of the name finds
  abbrev pub long_turn : Waiting → Word → Option Rule → Option Word → Held → Kinds
  long_turn waiting word found value h =
      let met = after_flag rules waiting word (long_met rules found value h).0 (long_met rules found value h).1 in
      or_else (long_fault rules false found value h) (step_fault shape 1 met.0 met.1)

  abbrev pub after_long : Walk → Word → Option Rule → Option Word → Walk
  after_long w word found value =
      let met = after_flag rules w.waiting word (long_met rules found value w.held).0 (long_met rules found value w.held).1 in
      after_step rules word w met.0 met.1

  module _ (x : ℕ) (xs : List ℕ) (name : Word) (value : Option Word) (found : Option Rule)
      (parts : name_and_value (x ∷ xs) ≡ (name, value)) (is : arg_by_long rules name ≡ found) where
    abbrev word : Word
    word = 45 ∷ 45 ∷ x ∷ xs

    turn_at_idle : (h : Held) → turn_fault shape [] (walk_from h) word ≡ long_turn idle word found value h
    turn_at_idle h = ap (λ (p : Text × Option Text). long_turn idle word (arg_by_long rules p.0) p.1 h) parts ∙ ap (λ f. long_turn idle word f value h) is

    walked_at_idle : (h : Held) → walked rules [] (walk_from h) word ≡ after_long (walk_from h) word found value
    unfolding walked
    walked_at_idle h = ap (λ (p : Text × Option Text). after_long (walk_from h) word (arg_by_long rules p.0) p.1) parts ∙ ap (λ f. after_long (walk_from h) word f value) is

    turn_at_value : (h : Held) (waits : Word) → turn_fault shape [] (at_value waits h) word ≡ long_turn (option waits) word found value h
    turn_at_value h waits = ap (λ (p : Text × Option Text). long_turn (option waits) word (arg_by_long rules p.0) p.1 h) parts ∙ ap (λ f. long_turn (option waits) word f value h) is

  -- a word that does not begin with a hyphen is no flag
  module _ (h : Held) (word : Word) where
    abbrev plain_turn : Waiting → Option Word → Kinds
    plain_turn waiting flags =
        let met = short_or_plain rules waiting word flags h in
        or_else (option_map_or (λ f. bundle_fault rules false f h) flags []) (step_fault shape 1 met.0 met.1)

    abbrev after_plain : Walk → Option Word → Walk
    after_plain w flags =
        let met = short_or_plain rules w.waiting word flags h in
        after_step rules word w met.0 met.1

    abbrev turn_by : Waiting → Bool → Option (Text × Option Text) → Kinds
    turn_by waiting dashes long =
        let met = cond dashes (h, trailing 1) (long_or_other rules waiting word long h) in
        or_else (cond dashes [] (flag_word_fault rules false long word h)) (step_fault shape 1 met.0 met.1)

    abbrev after_by : Walk → Bool → Option (Text × Option Text) → Walk
    after_by w dashes long =
        let met = cond dashes (h, trailing 1) (long_or_other rules w.waiting word long h) in
        after_step rules word w met.0 met.1

  pub plain_at_idle : (h : Held) (word : Word) → begins_with_hyphen word ≡ false → turn_fault shape [] (walk_from h) word ≡ plain_turn h word idle None
  plain_at_idle h word plain =
      ap₂ (turn_by h word idle) (not_dashes word plain) (not_long word plain) ∙ ap (plain_turn h word idle) (not_short word plain)

  pub plain_at_value : (h : Held) (word waits : Word) → begins_with_hyphen word ≡ false → turn_fault shape [] (at_value waits h) word ≡ plain_turn h word (option waits) None
  plain_at_value h word waits plain =
      ap₂ (turn_by h word (option waits)) (not_dashes word plain) (not_long word plain) ∙ ap (plain_turn h word (option waits)) (not_short word plain)

  pub walked_plain : (h : Held) (word waits : Word) → begins_with_hyphen word ≡ false → walked rules [] (at_value waits h) word ≡ after_plain h word (at_value waits h) None
  unfolding walked
  walked_plain h word waits plain =
      ap₂ (after_by h word (at_value waits h)) (not_dashes word plain) (not_long word plain) ∙ ap (after_plain h word (at_value waits h)) (not_short word plain)

  -- ---- the turns of options that are known

  abbrev pub rows_before : Held → List Row
  rows_before h = (settled rules h).rows

  -- after `--name`, and after its value
  abbrev pub with_name : Word → Held → Held
  with_name name h = record (settled rules h) { pending = Some (name, []) }

  abbrev pub with_value : Word → Word → Held → Held
  with_value name value h = record (settled rules h) { pending = Some (name, value ∷ []) }

  abbrev pub use_of : Word → Word → List Row → Kinds
  use_of name value = use_fault false (filled_option name) (value ∷ [])

  pub new_use : (name value : Word) (rows : List Row) → has_row name rows ≡ false → use_of name value rows ≡ []
  new_use name value rows none = rw none refl

  pub first_use : (name value : Word) (rows : List Row) → use_of name value rows ≡ [] → has_row name rows ≡ false
  first_use name value rows e = go (has_row name rows) e
    where
      go : (b : Bool) → or_else (cond (b && true) (ArgumentConflict ∷ []) []) [] ≡ [] → b ≡ false
      go false e = refl
      go true e = cc

  module _ (name value : Word) (known : Contains names name) where
    long_is : arg_by_long rules name ≡ Some (filled_option name)
    long_is = by_long names name known.0 known.1 known.2

    id_is : arg_by_id rules name ≡ Some (filled_option name)
    id_is = by_id names name known.0 known.1 known.2

    joined_turn : (h : Held) (x : ℕ) (xs : List ℕ) → name_and_value (x ∷ xs) ≡ (name, Some value)
        → turn_fault shape [] (walk_from h) (45 ∷ 45 ∷ x ∷ xs) ≡ or_else (or_else (settle_fault rules false h) (use_of name value (rows_before h))) []
    joined_turn h x xs parts = turn_at_idle x xs name (Some value) (Some (filled_option name)) parts long_is h

    joined_walked : (h : Held) (x : ℕ) (xs : List ℕ) → name_and_value (x ∷ xs) ≡ (name, Some value)
        → walked rules [] (walk_from h) (45 ∷ 45 ∷ x ∷ xs) ≡ walk_from (reacted rules (filled_option name) (value ∷ []) h)
    joined_walked h x xs parts = walked_at_idle x xs name (Some value) (Some (filled_option name)) parts long_is h

    name_turn : (h : Held) (x : ℕ) (xs : List ℕ) → name_and_value (x ∷ xs) ≡ (name, None)
        → turn_fault shape [] (walk_from h) (45 ∷ 45 ∷ x ∷ xs) ≡ or_else (settle_fault rules false h) []
    name_turn h x xs parts = turn_at_idle x xs name None (Some (filled_option name)) parts long_is h

    name_walked : (h : Held) (x : ℕ) (xs : List ℕ) → name_and_value (x ∷ xs) ≡ (name, None)
        → walked rules [] (walk_from h) (45 ∷ 45 ∷ x ∷ xs) ≡ at_value name (with_name name h)
    name_walked h x xs parts = walked_at_idle x xs name None (Some (filled_option name)) parts long_is h

    value_turn : (h : Held) → begins_with_hyphen value ≡ false → turn_fault shape [] (at_value name (with_name name h)) value ≡ []
    value_turn h plain = plain_at_value (with_name name h) value name plain

    value_walked : (h : Held) → begins_with_hyphen value ≡ false → walked rules [] (at_value name (with_name name h)) value ≡ walk_from (with_value name value h)
    value_walked h plain = walked_plain (with_name name h) value name plain ∙ after_value
      where
        after_value : after_plain (with_name name h) value (at_value name (with_name name h)) None ≡ walk_from (with_value name value h)
        after_value = rw (id_is, equal_to_itself name) refl

    value_settles : (h : Held) → settle_fault rules false (with_value name value h) ≡ use_of name value (rows_before h)
    value_settles h = ap (λ o. option_map_or (λ a. use_fault false a (value ∷ []) (rows_before h)) o []) id_is

    value_rows : (h : Held) → rows_before (with_value name value h) ≡ used (filled_option name) (value ∷ []) (rows_before h)
    value_rows h = ap (λ o. used_by_id o (value ∷ []) (rows_before h)) id_is

  -- ---- the walk over all words

  -- the walk passes to its end, where these rows are held
  abbrev pub Passes : Walk → List Word → List Row → Type 0
  Passes w words rows = (walk_fault shape [] w words ≡ []) × (settle_fault rules false (fold (walked rules []) w words).held ≡ [])
      × (rows_before (fold (walked rules []) w words).held ≡ rows)

  pub step_over : (w next : Walk) (first : Word) (rest : List Word) (rows : List Row) → turn_fault shape [] w first ≡ [] → walked rules [] w first ≡ next
      → Passes next rest rows → Passes w (first ∷ rest) rows
  unfolding walk_fault
  step_over w next first rest rows turn is passes =
      let there = subst (λ (v : Walk). Passes v rest rows) (sym is) passes in
      (nil_from _ _ turn there.0, there.1, there.2)

  module _ (g : Given) (given : List Given) (h : Held) (plain : is_name g.name ≡ true) (known : Contains names g.name)
      (settles : settle_fault rules false h ≡ []) (new : has_row g.name (rows_before h) ≡ false) (others : AreNew (rows_before h) given)
      (once : value_of g.name given ≡ None)
      (next : (k : Held) → settle_fault rules false k ≡ [] → AreNew (rows_before k) given → Passes (walk_from k) (all_words given) (rows_before k ++ map row_of given)) where
    abbrev rows_with : List Row
    rows_with = rows_before h ++ row_of g ∷ []

    -- the words after the option, from where its value is held
    next_from : (k : Held) → settle_fault rules false k ≡ [] → rows_before k ≡ rows_with → Passes (walk_from k) (all_words given) (rows_before h ++ row_of g ∷ map row_of given)
    next_from k none is =
        subst (Passes (walk_from k) (all_words given)) (ap (λ rows. rows ++ map row_of given) is ∙ append_assoc (rows_before h) (row_of g ∷ []) (map row_of given))
        (next k none (subst (λ rows. AreNew rows given) (sym is) (new_after (rows_before h) g given others once)))

    joined_passes : (name : Word) → g.name ≡ name → Passes (walk_from h) ((45 ∷ 45 ∷ name ++ 61 ∷ g.value) ∷ all_words given) (rows_before h ++ row_of g ∷ map row_of given)
    joined_passes [] is = absurd (true≢false (sym plain ∙ ap is_name is))
    joined_passes (x ∷ xs) is =
        let parts : name_and_value (x ∷ xs ++ 61 ∷ g.value) ≡ (g.name, Some g.value) =
        name_and_value-at (x ∷ xs) g.value (subst (Lacks 61) is (Lacks_equals g.name plain)) ∙ ap (λ n. (n, Some g.value)) (sym is) in
        step_over _ _ _ _ _
        (joined_turn g.name g.value known h x (xs ++ 61 ∷ g.value) parts ∙ nil_from _ _ (nil_from _ _ settles (new_use g.name g.value (rows_before h) new)) refl)
        (joined_walked g.name g.value known h x (xs ++ 61 ∷ g.value) parts)
        (next_from (reacted rules (filled_option g.name) (g.value ∷ []) h) refl (used_is g (rows_before h) new))

    separate_passes : begins_with_hyphen g.value ≡ false → (name : Word) → g.name ≡ name
        → Passes (walk_from h) ((45 ∷ 45 ∷ name) ∷ g.value ∷ all_words given) (rows_before h ++ row_of g ∷ map row_of given)
    separate_passes value [] is = absurd (true≢false (sym plain ∙ ap is_name is))
    separate_passes value (x ∷ xs) is =
        let parts : name_and_value (x ∷ xs) ≡ (g.name, None) =
        name_and_value-without (x ∷ xs) (subst (Lacks 61) is (Lacks_equals g.name plain)) ∙ ap (λ n. (n, None)) (sym is) in
        step_over _ _ _ _ _ (name_turn g.name g.value known h x xs parts ∙ nil_from _ _ settles refl) (name_walked g.name g.value known h x xs parts)
        (step_over _ _ _ _ _ (value_turn g.name g.value known h value) (value_walked g.name g.value known h value)
        (next_from (with_value g.name g.value h) (value_settles g.name g.value known h ∙ new_use g.name g.value (rows_before h) new)
        (value_rows g.name g.value known h ∙ used_is g (rows_before h) new)))

  abbrev pub ArePlain : Type 0
  ArePlain = list_all is_name names ≡ true

  pub plain_name : ArePlain → (name : Word) → Contains names name → is_name name ≡ true
  plain_name plain name known = subst (λ n. is_name n ≡ true) known.2 (AllPass-from_list_all is_name names plain known.0 name known.1)

  pub given_passes : ArePlain → (given : List Given) (h : Held) → settle_fault rules false h ≡ [] → AreOptions names given → AreNew (rows_before h) given
      → Passes (walk_from h) (all_words given) (rows_before h ++ map row_of given)
  unfolding all_words AreOptions walk_fault
  given_passes plain [] h settles options new = (refl, settles, sym (append-nil (rows_before h)))
  given_passes plain (g ∷ given) h settles options new =
      go g.is_joined refl (λ k settled fresh. given_passes plain given k settled options.1 fresh)
    where
      go : (b : Bool) → g.is_joined ≡ b → ((k : Held) → settle_fault rules false k ≡ [] → AreNew (rows_before k) given → Passes (walk_from k) (all_words given) (rows_before k ++ map row_of given))
          → Passes (walk_from h) (cond b ((45 ∷ 45 ∷ g.name ++ 61 ∷ g.value) ∷ []) ((45 ∷ 45 ∷ g.name) ∷ g.value ∷ []) ++ all_words given) (rows_before h ++ row_of g ∷ map row_of given)
      go true is next = joined_passes g given h (plain_name plain g.name options.0.known) options.0.known settles new.0 new.1 options.0.once next g.name refl
      go false is next = separate_passes g given h (plain_name plain g.name options.0.known) options.0.known settles new.0 new.1 options.0.once next (options.0.separate is) g.name refl

  -- ---- what words that pass are

  -- the words from where h is held are those of options
  abbrev pub Reads : Held → List Word → Type 0
  Reads h words = (settle_fault rules false h ≡ []) × (given : List Given) × (words ≡ all_words given) × AreOptions names given × AreNew (rows_before h) given

  -- the words behind `--name` are its value and those of options
  abbrev pub ReadsValue : Word → Held → List Word → Type 0
  ReadsValue name h words = (value : Word) × (rest : List Word) × (words ≡ value ∷ rest) × (begins_with_hyphen value ≡ false) × Reads (with_value name value h) rest

  abbrev pub Ends : Walk → List Word → Type 0
  Ends w words = (walk_fault shape [] w words ≡ []) × (settle_fault rules false (fold (walked rules []) w words).held ≡ [])

  -- what holds of the words where an option may come, and where a value has to
  abbrev pub Read : List Word → Type 0
  Read words = ((h : Held) → Ends (walk_from h) words → Reads h words)
      × ((name : Word) (h : Held) → Contains names name → Ends (at_value name (with_name name h)) words → ReadsValue name h words)

  pub after_turn : (w : Walk) (first : Word) (rest : List Word) → Ends w (first ∷ rest) → (turn_fault shape [] w first ≡ []) × Ends (walked rules [] w first) rest
  unfolding walk_fault
  after_turn w first rest ends =
      let parts = nil_both _ _ ends.0 in
      (parts.0, (parts.1, ends.1))

  pub no_value : (name : Word) (h : Held) → Contains names name → settle_fault rules false (with_name name h) ≡ [] → ⊥
  no_value name h known e =
      let bad = sym (ap (λ o. option_map_or (λ a. use_fault false a [] (rows_before h)) o []) (by_id names name known.0 known.1 known.2)) ∙ e in
      cc

  pub plain_refused : (h : Held) (first : Word) → begins_with_hyphen first ≡ false → turn_fault shape [] (walk_from h) first ≡ [] → ⊥
  plain_refused h first plain e =
      let stray = ap (λ o. option_map_or (λ a. positional_fault rules false a h) o (stray_fault shape)) (no_positional names 1) in
      let bad = sym (plain_at_idle h first plain ∙ stray) ∙ e in
      cc

  pub joined_reads : (x : ℕ) (xs : List ℕ) (name value : Word) → name_and_value (x ∷ xs) ≡ (name, Some value) → x ∷ xs ≡ name ++ 61 ∷ value → Contains names name
      → (h : Held) (rest : List Word) → Read rest → Ends (walk_from h) ((45 ∷ 45 ∷ x ∷ xs) ∷ rest) → Reads h ((45 ∷ 45 ∷ x ∷ xs) ∷ rest)
  unfolding all_words AreOptions
  joined_reads x xs name value parts whole known h rest next ends =
      let g : Given = record { name = name; value = value; is_joined = true } in
      let turn = after_turn _ _ rest ends in
      let faults = nil_both _ _ (nil_both _ _ (sym (joined_turn name value known h x xs parts) ∙ turn.0)).0 in
      let new = first_use name value (rows_before h) faults.1 in
      let there = next.0 (reacted rules (filled_option name) (value ∷ []) h) (subst (λ (w : Walk). Ends w rest) (joined_walked name value known h x xs parts) turn.1) in
      let others = new_before (rows_before h) g there.1 (subst (λ rows. AreNew rows there.1) (used_is g (rows_before h) new) there.4) in (
        faults.0,
        g ∷ there.1,
        ap₂ (λ (t : Word) (words : List Word). (45 ∷ 45 ∷ t) ∷ words) whole there.2,
        (record { known = known; once = others.1; separate = λ e. absurd (true≢false e) }, there.3),
        (new, others.0),
      )

  pub name_reads : (x : ℕ) (xs : List ℕ) (name : Word) → name_and_value (x ∷ xs) ≡ (name, None) → x ∷ xs ≡ name → Contains names name
      → (h : Held) (rest : List Word) → Read rest → Ends (walk_from h) ((45 ∷ 45 ∷ x ∷ xs) ∷ rest) → Reads h ((45 ∷ 45 ∷ x ∷ xs) ∷ rest)
  unfolding all_words AreOptions
  name_reads x xs name parts whole known h rest next ends =
      let turn = after_turn _ _ rest ends in
      let fault = nil_both _ _ (sym (name_turn name [] known h x xs parts) ∙ turn.0) in
      let read = next.1 name h known (subst (λ (w : Walk). Ends w rest) (name_walked name [] known h x xs parts) turn.1) in
      let value = read.0 in
      let g : Given = record { name = name; value = value; is_joined = false } in
      let there = read.4 in
      let new = first_use name value (rows_before h) (sym (value_settles name value known h) ∙ there.0) in
      let others = new_before (rows_before h) g there.1 (subst (λ rows. AreNew rows there.1) (value_rows name value known h ∙ used_is g (rows_before h) new) there.4) in (
        fault.0,
        g ∷ there.1,
        ap₂ (λ (t : Word) (words : List Word). (45 ∷ 45 ∷ t) ∷ words) whole (read.2 ∙ ap (λ words. value ∷ words) there.2),
        (record { known = known; once = others.1; separate = λ _. read.3 }, there.3),
        (new, others.0),
      )

  pub unknown_refused : (x : ℕ) (xs : List ℕ) (name : Word) (value : Option Word) → name_and_value (x ∷ xs) ≡ (name, value) → arg_by_long rules name ≡ None
      → (h : Held) → turn_fault shape [] (walk_from h) (45 ∷ 45 ∷ x ∷ xs) ≡ [] → ⊥
  unknown_refused x xs name value parts none h e =
      let bad = sym (turn_at_idle x xs name value None parts none h) ∙ e in
      cc

  pub long_reads : (x : ℕ) (xs : List ℕ) (h : Held) (rest : List Word) → Read rest → Ends (walk_from h) ((45 ∷ 45 ∷ x ∷ xs) ∷ rest) → Reads h ((45 ∷ 45 ∷ x ∷ xs) ∷ rest)
  long_reads x xs h rest next ends = go (has_byte 61 (x ∷ xs)) refl
    where
      with_equals : (name value : Word) → name_and_value (x ∷ xs) ≡ (name, Some value) → x ∷ xs ≡ name ++ 61 ∷ value → Contains names name ⊎ (arg_by_long rules name ≡ None)
          → Reads h ((45 ∷ 45 ∷ x ∷ xs) ∷ rest)
      with_equals name value parts whole (inl known) = joined_reads x xs name value parts whole known h rest next ends
      with_equals name value parts whole (inr none) = absurd (unknown_refused x xs name (Some value) parts none h (after_turn _ _ rest ends).0)

      without_equals : Contains names (x ∷ xs) ⊎ (arg_by_long rules (x ∷ xs) ≡ None) → name_and_value (x ∷ xs) ≡ (x ∷ xs, None) → Reads h ((45 ∷ 45 ∷ x ∷ xs) ∷ rest)
      without_equals (inl known) parts = name_reads x xs (x ∷ xs) parts refl known h rest next ends
      without_equals (inr none) parts = absurd (unknown_refused x xs (x ∷ xs) None parts none h (after_turn _ _ rest ends).0)

      go : (b : Bool) → has_byte 61 (x ∷ xs) ≡ b → Reads h ((45 ∷ 45 ∷ x ∷ xs) ∷ rest)
      go true has = with_equals (before_first (λ y. y == 61) (x ∷ xs)) (after_first (λ y. y == 61) (x ∷ xs))
          (ap (λ b. (before_first (λ y. y == 61) (x ∷ xs), cond b (Some (after_first (λ y. y == 61) (x ∷ xs))) None)) has) (cut (x ∷ xs) has) (known_or_not names _)
      go false has = without_equals (known_or_not names (x ∷ xs)) (name_and_value-without (x ∷ xs) (Lacks-from (x ∷ xs) has))

  pub value_refused : (x : ℕ) (xs : List ℕ) (waits : Word) (h : Held) → Contains names waits → turn_fault shape [] (at_value waits (with_name waits h)) (45 ∷ 45 ∷ x ∷ xs) ≡ [] → ⊥
  value_refused x xs waits h known e =
      go (arg_by_long rules (name_and_value (x ∷ xs)).0) refl (known_or_not names (name_and_value (x ∷ xs)).0) (name_and_value (x ∷ xs)).1 refl
    where
      go : (found : Option Rule) → arg_by_long rules (name_and_value (x ∷ xs)).0 ≡ found → Contains names (name_and_value (x ∷ xs)).0 ⊎ (arg_by_long rules (name_and_value (x ∷ xs)).0 ≡ None)
          → (value : Option Word) → (name_and_value (x ∷ xs)).1 ≡ value → ⊥
      go found is (inr none) value same =
          let bad = sym (turn_at_value x xs _ _ None refl none (with_name waits h) waits) ∙ e in
          cc
      go found is (inl other) None same =
          let turn = turn_at_value x xs (name_and_value (x ∷ xs)).0 None _ (ap (λ v. ((name_and_value (x ∷ xs)).0, v)) same) (by_long names _ other.0 other.1 other.2) (with_name waits h) waits in
          no_value waits h known (nil_both _ _ (sym turn ∙ e)).0
      go found is (inl other) (Some value) same =
          let turn = turn_at_value x xs (name_and_value (x ∷ xs)).0 (Some value) _ (ap (λ v. ((name_and_value (x ∷ xs)).0, v)) same) (by_long names _ other.0 other.1 other.2) (with_name waits h) waits in
          no_value waits h known (nil_both _ _ (nil_both _ _ (sym turn ∙ e)).0).0

  pub words_read : (words : List Word) → list_any is_stray words ≡ false → Read words
  unfolding all_words AreOptions walk_fault
  words_read [] clean = (λ h ends. (ends.1, [], refl, tt, tt), λ name h known ends. absurd (no_value name h known ends.1))
  words_read (first ∷ rest) clean =
      let parts = either_false (is_stray first) (list_any is_stray rest) clean in
      go (long_or_plain first parts.0) (words_read rest parts.1)
    where
      go : (begins_with_hyphen first ≡ false) ⊎ ((x : ℕ) × (xs : List ℕ) × (45 ∷ 45 ∷ x ∷ xs ≡ first)) → Read rest → Read (first ∷ rest)
      go (inl plain) next = (
        λ h ends. absurd (plain_refused h first plain (after_turn _ _ rest ends).0),
        λ name h known ends. (
          first,
          rest,
          refl,
          plain,
          next.0 (with_value name first h) (subst (λ (w : Walk). Ends w rest) (value_walked name first known h plain) (after_turn _ _ rest ends).1),
        ),
      )
      go (inr long) next = (
        λ h. subst (λ (word : Word). Ends (walk_from h) (word ∷ rest) → Reads h (word ∷ rest)) long.2 (long_reads long.0 long.1 h rest next),
        λ name h known ends. absurd (value_refused long.0 long.1 name h known
            (subst (λ (word : Word). turn_fault shape [] (at_value name (with_name name h)) word ≡ []) (sym long.2) (after_turn _ _ rest ends).0)),
      )
