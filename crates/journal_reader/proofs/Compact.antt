-- What is read of the compact text of a value is the value.
use Rattle.std.proofs.Common.{◌≡◌, ℕ, suc, pos, negsuc, ◌^◌, ◌<◌, ◌≤◌, true, false, List, [], ◌∷◌, Option, Some, option_map, option_and_then, nat_cmp, Greater, decimal, refl, sym, ap, ◌∙◌, arith, append-nil}
use Rattle.std.specs.Prelude.{◌==◌, cond, drop, get_or}
use Rattle.std.specs.Fmt.{signed_decimal}
use Rattle.std.specs.Cmp.Lexicographic.{slice_cmp}
use Rattle.std.specs.Ordering.{is_lt, ordering_reverse}
use Rattle.std.proofs.lemmas.Bool.{and_parts, or_parts, ltb-true, leb-true, ne_eqb}
use Rattle.std.proofs.lemmas.Fmt.{first_decimal}
use Rattle.std.proofs.lemmas.Cmp.{nat_list_cmp_total}
use Rattle.json.specs.Token.{Token}
use Rattle.json.specs.Lex.{tokens}
use Rattle.json.specs.Print.{IsNumber}
use Rattle.json.specs.Json as json
use Rattle.json.specs.Tree as tree
use Rattle.json.specs.Tree.{json_tokens, HasNumbers, ItemsHaveNumbers, MembersHaveNumbers}
use Rattle.json.specs.Word.{head, after_whole, after_fraction, after_exponent, after_number}
use Rattle.json.proofs.Printed.Trees.{value-json_tokens, ArePrintable-json_tokens}
use Rattle.json.proofs.Printed.Tokens.{tokens-print}
use Rattle.json.proofs.Printed.Decimals.{IsNumber-decimal}
use Rattle.serde_json.specs.Data.{Num, unsigned, negative, float, Data, null, boolean, number, string, array, object, Items, no_items, item, Members, no_members, member, put, depth, items_depth, members_depth}
use Rattle.serde_json.specs.Find.{is_float}
use Rattle.serde_json.specs.Read.{number_of, of_json, of_items, of_members, max_depth, read}
use Rattle.serde_json.specs.Written.{number_text, outline, items_outline, members_outline, has_float, items_have_float, members_have_float, compact_text}
use Rattle.serde_json.proofs.Numbers.{number_of-decimal, number_of-negative}
use Rattle.serde_json.proofs.Texts.{print-outline}
use Rattle.json_tree.specs.Tree.{is_proper, is_well, items_are_well, values_are_well, rises, member_names, is_before_all}
use Rattle.json_tree.proofs.Facts.{less_of}
use Rattle.journal_text.specs.Reads.{is_short, are_short, are_short_in_items, are_short_in_members}

-- ---- numbers

no_sign : (ds : List ℕ) → 48 < get_or ds 0 0 → (head ds == 45) ≡ false
no_sign [] h = absurd (omega arith)
no_sign (d ∷ ds) h = ne_eqb d 45 (λ e. omega arith)

negative_number : (n : ℕ) → n < 2 ^ 63 → IsNumber (signed_decimal (negsuc n))
unfolding after_number
negative_number n h =
    let ds = decimal (suc n) in
    let small : suc n < 2 ^ 64 = omega arith in
    let first = no_sign ds (first_decimal (suc n) (omega arith) small) in
    ap (λ b. option_and_then after_exponent (option_and_then after_fraction (after_whole (cond b (drop 1 ds) ds)))) (sym first) ∙ IsNumber-decimal (suc n) small

number_is : (n : Num) → is_proper n ≡ true → is_short n ≡ true → is_float n ≡ false → IsNumber (number_text n)
number_is (unsigned n) w s f = IsNumber-decimal n (ltb-true _ _ s)
number_is (negative (pos n)) w s f = absurd (grind arith)
number_is (negative (negsuc n)) w s f = negative_number n (let l = leb-true _ _ s in omega arith)
number_is (float x) w s f = absurd cc

number_again : (n : Num) → is_proper n ≡ true → is_short n ≡ true → is_float n ≡ false → number_of (number_text n) ≡ Some n
number_again (unsigned n) w s f = number_of-decimal n (ltb-true _ _ s)
number_again (negative (pos n)) w s f = absurd (grind arith)
number_again (negative (negsuc n)) w s f = number_of-negative n (let l = leb-true _ _ s in omega arith)
number_again (float x) w s f = absurd cc

-- ---- members, put one behind the other

-- the members of both, in their order
abbrev joined : Members → Members → Members
joined no_members ms = ms
joined (member k d found) ms = member k d (joined found ms)

joined-none : (found : Members) → joined found no_members ≡ found
joined-none no_members = refl
joined-none (member k d found) = ap (member k d) (joined-none found)

joined-more : (found : Members) (k : List ℕ) (d : Data) (ms : Members) → joined (joined found (member k d no_members)) ms ≡ joined found (member k d ms)
joined-more no_members k d ms = refl
joined-more (member l e found) k d ms = ap (member l e) (joined-more found k d ms)

before_middle : (a : List ℕ) (found : Members) (k : List ℕ) (d : Data) (ms : Members) → is_before_all a (member_names (joined found (member k d ms))) ≡ true
    → is_lt (slice_cmp nat_cmp a k) ≡ true
before_middle a no_members k d ms h = (and_parts _ _ h).0
before_middle a (member l e found) k d ms h = before_middle a found k d ms (and_parts _ _ h).1

-- a name that comes after those before it goes behind them
put_behind : (found : Members) (k : List ℕ) (d : Data) (ms : Members) → rises (joined found (member k d ms)) ≡ true → put k d found ≡ joined found (member k d no_members)
put_behind no_members k d ms h = refl
put_behind (member l e found) k d ms h =
    let p = and_parts _ _ h in
    let above : slice_cmp nat_cmp k l ≡ Greater = nat_list_cmp_total.antisymm k l ∙ ap ordering_reverse (less_of _ (before_middle l found k d ms p.0)) in
    rw above (ap (member l e) (put_behind found k d ms p.1))

-- ---- values

mutual
  again : (d : Data) → is_well d ≡ true → are_short d ≡ true → has_float d ≡ false → of_json (outline d) ≡ Some d
  again null w s f = refl
  again (boolean b) w s f = refl
  again (number n) w s f = ap (option_map number) (number_again n w s f)
  again (string t) w s f = refl
  again (array ds) w s f = ap (option_map array) (items_again ds w s f)
  again (object ms) w s f = let p = and_parts _ _ w in ap (option_map object) (members_again ms no_members p.0 p.1 s f)

  items_again : (ds : Items) → items_are_well ds ≡ true → are_short_in_items ds ≡ true → items_have_float ds ≡ false → of_items (items_outline ds) ≡ Some ds
  items_again no_items w s f = refl
  items_again (item d ds) w s f =
      let p = and_parts _ _ w in
      let q = and_parts _ _ s in
      let r = or_parts (has_float d) _ f in
      rw (again d p.0 q.0 r.0, items_again ds p.1 q.1 r.1) refl

  members_again : (ms found : Members) → rises (joined found ms) ≡ true → values_are_well ms ≡ true → are_short_in_members ms ≡ true → members_have_float ms ≡ false
      → of_members (members_outline ms) found ≡ Some (joined found ms)
  members_again no_members found h w s f = ap Some (sym (joined-none found))
  members_again (member k d ms) found h w s f =
      let p = and_parts _ _ w in
      let q = and_parts _ _ s in
      let r = or_parts (has_float d) _ f in
      let next = joined found (member k d no_members) in
      let same : joined next ms ≡ joined found (member k d ms) = joined-more found k d ms in
      ap (option_and_then (λ e. of_members (members_outline ms) (put k e found))) (again d p.0 q.0 r.0)
      ∙ ap (of_members (members_outline ms)) (put_behind found k d ms h)
      ∙ members_again ms next (ap rises same ∙ h) p.1 q.1 r.1
      ∙ ap Some same

mutual
  numbers_in : (d : Data) → is_well d ≡ true → are_short d ≡ true → has_float d ≡ false → HasNumbers (outline d)
  numbers_in null w s f = tt
  numbers_in (boolean b) w s f = tt
  numbers_in (number n) w s f = number_is n w s f
  numbers_in (string t) w s f = tt
  numbers_in (array ds) w s f = numbers_in_items ds w s f
  numbers_in (object ms) w s f = numbers_in_members ms (and_parts _ _ w).1 s f

  numbers_in_items : (ds : Items) → items_are_well ds ≡ true → are_short_in_items ds ≡ true → items_have_float ds ≡ false → ItemsHaveNumbers (items_outline ds)
  numbers_in_items no_items w s f = tt
  numbers_in_items (item d ds) w s f =
      let p = and_parts _ _ w in
      let q = and_parts _ _ s in
      let r = or_parts (has_float d) _ f in
      (numbers_in d p.0 q.0 r.0, numbers_in_items ds p.1 q.1 r.1)

  numbers_in_members : (ms : Members) → values_are_well ms ≡ true → are_short_in_members ms ≡ true → members_have_float ms ≡ false → MembersHaveNumbers (members_outline ms)
  numbers_in_members no_members w s f = tt
  numbers_in_members (member k d ms) w s f =
      let p = and_parts _ _ w in
      let q = and_parts _ _ s in
      let r = or_parts (has_float d) _ f in
      (numbers_in d p.0 q.0 r.0, numbers_in_members ms p.1 q.1 r.1)

mutual
  same_depth : (d : Data) → tree.depth (outline d) ≡ depth d
  same_depth null = refl
  same_depth (boolean b) = refl
  same_depth (number n) = refl
  same_depth (string t) = refl
  same_depth (array ds) = ap suc (same_items_depth ds)
  same_depth (object ms) = ap suc (same_members_depth ms)

  same_items_depth : (ds : Items) → tree.items_depth (items_outline ds) ≡ items_depth ds
  same_items_depth no_items = refl
  same_items_depth (item d ds) = rw (same_depth d, same_items_depth ds) refl

  same_members_depth : (ms : Members) → tree.members_depth (members_outline ms) ≡ members_depth ms
  same_members_depth no_members = refl
  same_members_depth (member k d ms) = rw (same_depth d, same_members_depth ms) refl

-- ---- texts

abbrev whole : Option (json.Json × List Token) → Option Data
whole o = option_and_then of_json (option_and_then (λ p. json.if_last p.0 p.1) o)

-- a well-formed value with whole numbers of 64 bits alone is read again from its compact text
pub read_compact : (d : Data) → is_well d ≡ true → are_short d ≡ true → has_float d ≡ false → depth d ≤ max_depth → read (compact_text d) ≡ Some d
read_compact d w s f shallow =
    let ts = json_tokens (outline d) in
    let same : tokens (compact_text d) ≡ ts = ap tokens (sym (print-outline d)) ∙ tokens-print ts (ArePrintable-json_tokens (outline d) (numbers_in d w s f)) in
    ap whole (ap (json.value max_depth) (same ∙ sym (append-nil ts)) ∙ value-json_tokens (outline d) max_depth [] (omega (arith, same_depth d, shallow)))
    ∙ again d w s f
