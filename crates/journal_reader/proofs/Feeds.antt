-- The text of a value has no line feed, so the line of a text goes on to its first.
use Rattle.std.proofs.Common.{◌≡◌, ℕ, zero, suc, pos, negsuc, ◌^◌, ◌<◌, Bool, true, false, List, [], ◌∷◌, ◌++◌, decimal, codes, inl, inr, refl, ap, ◌∙◌, arith, append_assoc}
use Rattle.std.specs.Prelude.{◌&&◌, ◌==◌, not}
use Rattle.std.specs.List.{list_all}
use Rattle.std.specs.Str.Parse.{AllDigits}
use Rattle.std.specs.Char.{digit_value}
use Rattle.std.proofs.lemmas.Bool.{and_parts, and_from, cases_lt, cases_eq, ltb-true, leb-true, ne_eqb}
use Rattle.std.proofs.lemmas.Fmt.{decimal_is_IsNumeral}
use Rattle.json.specs.Print.{escape_byte, escape, quoted}
use Rattle.json.proofs.Printed.Strings.{escape_byte_plain}
use Rattle.serde_json.specs.Data.{Num, unsigned, negative, float, Data, null, boolean, number, string, array, object, Items, no_items, item, Members, no_members, member}
use Rattle.serde_json.specs.Written.{number_text, comma_if, compact_text, items_text, members_text}
use Rattle.json_tree.specs.Tree.{data_of}
use Rattle.resource_codec.specs.Reading.{Member}
use Rattle.resource_codec.specs.Written.{object_of}
use Rattle.journal_text.specs.Texts.{line_bytes}
use Rattle.journal_text.specs.Reads.{is_short, are_short, are_short_in_items, are_short_in_members, line_text, HasShortNumbers, next_line}

abbrev is_no_feed : ℕ → Bool
is_no_feed byte = not (byte == 10)

-- no byte is a line feed
abbrev pub lacks_feed : List ℕ → Bool
lacks_feed bytes = list_all is_no_feed bytes

both : (xs ys : List ℕ) → lacks_feed xs ≡ true → lacks_feed ys ≡ true → lacks_feed (xs ++ ys) ≡ true
both [] ys h k = k
both (x ∷ xs) ys h k = let p = and_parts _ _ h in and_from _ _ p.0 (both xs ys p.1 k)

other : (x : ℕ) → (x ≡ 10 → ⊥) → is_no_feed x ≡ true
other x h = ap not (ne_eqb x 10 h)

-- ---- texts

escapes_below : ℕ → Bool
escapes_below zero = true
escapes_below (suc n) = lacks_feed (escape_byte n) && escapes_below n

escape_below : (n : ℕ) → escapes_below n ≡ true → (x : ℕ) → x < n → lacks_feed (escape_byte x) ≡ true
unfolding escapes_below
escape_below zero e x h = absurd (omega arith)
escape_below (suc n) e x h =
    let p = and_parts _ _ e in
    elim (cases_eq x n) [ inl same ↦ rw same p.0 | inr apart ↦ escape_below n p.1 x (omega arith) ]

low : escapes_below 128 ≡ true
unfolding escapes_below escape_byte
low = refl

escaped : (x : ℕ) → lacks_feed (escape_byte x) ≡ true
escaped x = elim (cases_lt x 128) [
  | inl small ↦ escape_below 128 low x small
  | inr big ↦
      ap lacks_feed (escape_byte_plain x (λ e. omega arith) (λ e. omega arith) (omega arith)) ∙ and_from _ _ (other x (λ e. omega arith)) refl
]

all_escaped : (s : List ℕ) → lacks_feed (escape s) ≡ true
all_escaped [] = refl
all_escaped (x ∷ xs) = both (escape_byte x) (escape xs) (escaped x) (all_escaped xs)

quoted_lacks : (s : List ℕ) → lacks_feed (quoted s) ≡ true
quoted_lacks s = both (escape s) (34 ∷ []) (all_escaped s) refl

-- ---- numbers

digits_lack : (ds : List ℕ) → AllDigits 10 ds → lacks_feed ds ≡ true
digits_lack [] h = refl
digits_lack (d ∷ ds) h =
    let digit : digit_value d < 10 = h.0 in
    and_from _ _ (other d (λ e. grind arith)) (digits_lack ds h.1)

decimal_lacks : (n : ℕ) → n < 2 ^ 64 → lacks_feed (decimal n) ≡ true
decimal_lacks n h = digits_lack (decimal n) (decimal_is_IsNumeral n h).0.1

number_lacks : (n : Num) → is_short n ≡ true → lacks_feed (number_text n) ≡ true
number_lacks (unsigned n) s = decimal_lacks n (ltb-true _ _ s)
number_lacks (negative (pos n)) s = decimal_lacks n (let l = leb-true _ _ s in omega arith)
number_lacks (negative (negsuc n)) s = decimal_lacks (suc n) (let l = leb-true _ _ s in omega arith)
number_lacks (float x) s = refl

-- ---- values

comma_lacks : (later : Bool) → lacks_feed (comma_if later) ≡ true
comma_lacks true = refl
comma_lacks false = refl

mutual
  text_lacks : (d : Data) → are_short d ≡ true → lacks_feed (compact_text d) ≡ true
  text_lacks null s = refl
  text_lacks (boolean true) s = refl
  text_lacks (boolean false) s = refl
  text_lacks (number n) s = number_lacks n s
  text_lacks (string t) s = quoted_lacks t
  text_lacks (array ds) s = items_lack false ds s
  text_lacks (object ms) s = members_lack false ms s

  items_lack : (later : Bool) (ds : Items) → are_short_in_items ds ≡ true → lacks_feed (items_text later ds) ≡ true
  items_lack later no_items s = refl
  items_lack later (item d ds) s =
      let p = and_parts _ _ s in
      both (comma_if later) _ (comma_lacks later) (both (compact_text d) _ (text_lacks d p.0) (items_lack true ds p.1))

  members_lack : (later : Bool) (ms : Members) → are_short_in_members ms ≡ true → lacks_feed (members_text later ms) ≡ true
  members_lack later no_members s = refl
  members_lack later (member k d ms) s =
      let p = and_parts _ _ s in
      both (comma_if later) _ (comma_lacks later) (both (quoted k) _ (quoted_lacks k) (both (compact_text d) _ (text_lacks d p.0) (members_lack true ms p.1)))

-- ---- lines

pub line_lacks : (ms : List Member) → HasShortNumbers ms → lacks_feed (line_text ms) ≡ true
line_lacks ms s = text_lacks (data_of (object_of ms)) s

no_feed : (b : Bool) → not b ≡ true → b ≡ false
no_feed true h = absurd cc
no_feed false h = refl

pub next_of_lacking : (xs rest : List ℕ) → lacks_feed xs ≡ true → next_line (xs ++ 10 ∷ rest) ≡ xs ++ 10 ∷ []
unfolding next_line
next_of_lacking [] rest h = refl
next_of_lacking (x ∷ xs) rest h = let p = and_parts _ _ h in rw (no_feed (x == 10) p.0) (ap (λ ys. x ∷ ys) (next_of_lacking xs rest p.1))

-- a text that begins with a line has it as its first
pub next_of_line : (ms : List Member) (rest : List ℕ) → HasShortNumbers ms → next_line (line_bytes ms ++ rest) ≡ line_bytes ms
unfolding line_bytes
next_of_line ms rest s = ap next_line (append_assoc (line_text ms) (codes "\n") rest) ∙ next_of_lacking (line_text ms) rest (line_lacks ms s)
