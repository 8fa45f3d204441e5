-- Words of options, and the tests on them.
use Rattle.std.proofs.Common.{◌≡◌, ◌∙◌, ◌⊎◌, ◌<◌, ◌≤◌, ℕ, ◌==◌, ◌||◌, ◌&&◌, ◌++◌, Bool, true, false, not, cond, refl, sym, ap, ap₂, subst, arith, List, [], ◌∷◌, length, Some, None, true≢false, inl, inr}
use Rattle.std.specs.Prelude.{nat_lt, option_and_then}
use Rattle.std.specs.List.{before_first, after_first, position_or_len}
use Rattle.std.specs.Str.{bytes_eq}
use Rattle.std.proofs.lemmas.Bool.Decides.{Decides-eqb, Decides-ltb, nat_tests}
use Rattle.std.proofs.lemmas.List.Folds.{list_any_at, list_any_none}
use Rattle.std.proofs.lemmas.List.Sums.{fails_before_first, passes_at_first, split_at_first}
use Rattle.std.proofs.lemmas.Slice.Eq.{bytes_eq-Decides}
use Rattle.clap.specs.Lexer.{has_byte, long_of, long_of_rest, short_of, short_of_rest, strip_byte}
use Rattle.clap.specs.Kinds.{Kinds, or_else}
use Rattle.clap.proofs.CutLemmas.{Lacks}
use Rattle.command_words.specs.Options.{Word, begins_with_hyphen, is_name}
use Rattle.command_words.specs.Stray.{is_stray}

-- ---- tests

pub either_false : (a b : Bool) → (a || b) ≡ false → (a ≡ false) × (b ≡ false)
either_false false b e = (refl, e)
either_false true b e = absurd (true≢false e)

pub both_false : (a b : Bool) → a ≡ false → b ≡ false → (a || b) ≡ false
both_false a b x y = ap₂ ◌||◌ x y

pub both : (a b : Bool) → (a && b) ≡ true → (a ≡ true) × (b ≡ true)
both true b e = (refl, e)
both false b e = absurd (true≢false (sym e))

pub nil_both : (a b : Kinds) → or_else a b ≡ [] → (a ≡ []) × (b ≡ [])
nil_both [] b e = (refl, e)
nil_both (k ∷ ks) b e = cc

pub nil_from : (a b : Kinds) → a ≡ [] → b ≡ [] → or_else a b ≡ []
nil_from a b x y = ap₂ or_else x y

pub same_text : (a b : Word) → bytes_eq a b ≡ true → a ≡ b
same_text a b = (bytes_eq-Decides a b).0

pub equal_to_itself : (a : Word) → bytes_eq a a ≡ true
equal_to_itself a = (bytes_eq-Decides a a).1 refl

pub not_equal_back : (a b : Word) → bytes_eq a b ≡ false → bytes_eq b a ≡ false
not_equal_back a b e = go (bytes_eq b a) refl
  where
    go : (t : Bool) → bytes_eq b a ≡ t → t ≡ false
    go false is = refl
    go true is = absurd (true≢false (sym (subst (λ (c : Word). bytes_eq a c ≡ true) (sym (same_text b a is)) (equal_to_itself a)) ∙ e))

-- ---- an option's word

-- what stands before the first `=`, and what stands after it

pub Lacks-from : (text : Word) → has_byte 61 text ≡ false → Lacks 61 text
Lacks-from text none i lt at =
    true≢false (sym (list_any_at (λ x. x == 61) text i 0 lt (ap (λ x. x == 61) at)) ∙ none)

pub first_within : (text : Word) → has_byte 61 text ≡ true → position_or_len (λ x. x == 61) text < length text
first_within text has = go (nat_lt (position_or_len (λ x. x == 61) text) (length text)) refl
  where
    go : (b : Bool) → nat_lt (position_or_len (λ x. x == 61) text) (length text) ≡ b → position_or_len (λ x. x == 61) text < length text
    go true is = (Decides-ltb _ _).0 is
    go false is =
        let past : length text ≤ position_or_len (λ x. x == 61) text = grind (arith, nat_tests) in
        let none = list_any_none (λ x. x == 61) text (λ k d lt. fails_before_first (λ x. x == 61) text k d (omega arith)) in
        absurd (true≢false (sym has ∙ none))

pub cut : (text : Word) → has_byte 61 text ≡ true → text ≡ before_first (λ x. x == 61) text ++ 61 ∷ after_first (λ x. x == 61) text
cut text has =
    let within = first_within text has in
    let at = (Decides-eqb _ 61).0 (passes_at_first (λ x. x == 61) text 0 within) in
    split_at_first (λ x. x == 61) text 0 within ∙ ap (λ x. before_first (λ x. x == 61) text ++ x ∷ after_first (λ x. x == 61) text) at

-- ---- a word that does not begin with a hyphen

pub not_dashes : (word : Word) → begins_with_hyphen word ≡ false → bytes_eq word (45 ∷ 45 ∷ []) ≡ false
not_dashes [] plain = refl
not_dashes (x ∷ xs) plain = rw plain refl

pub not_long : (word : Word) → begins_with_hyphen word ≡ false → long_of word ≡ None
not_long [] plain = refl
not_long (x ∷ xs) plain = ap (λ b. option_and_then long_of_rest (option_and_then (strip_byte 45) (cond b (Some xs) None))) plain

pub not_short : (word : Word) → begins_with_hyphen word ≡ false → short_of word ≡ None
not_short [] plain = refl
not_short (x ∷ xs) plain = ap (λ b. option_and_then short_of_rest (cond b (Some xs) None)) plain

pub Lacks_equals : (name : Word) → is_name name ≡ true → Lacks 61 name
Lacks_equals name plain = Lacks-from name (go (has_byte 61 name) (both _ _ plain).1)
  where
    go : (b : Bool) → not b ≡ true → b ≡ false
    go false e = refl
    go true e = absurd (true≢false (sym e))

-- a word that is not stray is plain, or begins with two hyphens and more
pub long_or_plain : (first : Word) → is_stray first ≡ false → (begins_with_hyphen first ≡ false) ⊎ ((x : ℕ) × (xs : List ℕ) × (45 ∷ 45 ∷ x ∷ xs ≡ first))
long_or_plain [] clean = inl refl
long_or_plain (x ∷ xs) clean = go (x == 45) refl xs clean
  where
    second : (y : ℕ) → (x == 45) ≡ true → (x == 45 && not (y == 45)) ≡ false → y ≡ 45
    second y is clean = at (y == 45) refl (ap (λ b. b && not (y == 45)) (sym is) ∙ clean)
      where
        at : (t : Bool) → (y == 45) ≡ t → not (y == 45) ≡ false → y ≡ 45
        at true it clean = (Decides-eqb y 45).0 it
        at false it clean = absurd (true≢false (rw it at clean))

    go : (t : Bool) → (x == 45) ≡ t → (ys : List ℕ) → is_stray (x ∷ ys) ≡ false → (begins_with_hyphen (x ∷ ys) ≡ false) ⊎ ((z : ℕ) × (zs : List ℕ) × (45 ∷ 45 ∷ z ∷ zs ≡ x ∷ ys))
    go false is ys clean = inl is
    go true is [] clean = absurd (true≢false (rw is at clean))
    go true is (y ∷ []) clean = absurd (true≢false (rw is at clean))
    go true is (y ∷ z ∷ zs) clean =
        inr (z, zs, sym (ap₂ (λ (a b : ℕ). a ∷ b ∷ z ∷ zs) ((Decides-eqb x 45).0 is) (second y is clean)))
