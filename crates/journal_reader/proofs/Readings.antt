-- Each whole number in a value that is read is one of 64 bits.
use Rattle.std.proofs.Common.{◌≡◌, ℕ, zero, suc, ◌^◌, Bool, true, false, cond, List, Option, Some, None, option_map, option_and_then, Ordering, Less, Equal, Greater, nat_cmp, refl, ap, subst, ◌∙◌}
use Rattle.std.specs.Prelude.{◌&&◌, IfSome, nat_lt, nat_le, nat_abs, drop}
use Rattle.std.specs.Cmp.Lexicographic.{slice_cmp}
use Rattle.std.specs.Ordering.{match_ordering}
use Rattle.std.proofs.lemmas.Bool.{and_parts, and_from}
use Rattle.fast_float.specs.Text.{Parts, scan, digits_of, with_sign}
use Rattle.json.specs.Lex.{tokens}
use Rattle.json.specs.Json as json
use Rattle.serde_json.specs.Data.{Num, unsigned, negative, Data, number, array, object, Items, item, Members, no_members, member, put}
use Rattle.serde_json.specs.Read.{number_of, number_from, float_of, is_integer, of_json, of_items, of_members, max_depth, read}
use Rattle.journal_text.specs.Reads.{is_short, are_short, are_short_in_items, are_short_in_members}

-- ---- options

map_some : {A B : Type 0} (P : A → Type 0) (Q : B → Type 0) (f : A → B) (o : Option A) → ((x : A) → P x → Q (f x)) → IfSome o P → IfSome (option_map f o) Q
map_some P Q f None h p = tt
map_some P Q f (Some x) h p = h x p

then_some : {A B : Type 0} (P : A → Type 0) (Q : B → Type 0) (f : A → Option B) (o : Option A) → ((x : A) → P x → IfSome (f x) Q) → IfSome o P → IfSome (option_and_then f o) Q
then_some P Q f None h p = tt
then_some P Q f (Some x) h p = h x p

some_is : {A : Type 0} (P : A → Type 0) (o : Option A) (x : A) → o ≡ Some x → IfSome o P → P x
some_is P o x e h = subst (λ v. IfSome v P) e h

-- ---- numbers

abbrev IsShort : Num → Type 0
IsShort n = is_short n ≡ true

short_if : (b : Bool) (n : Num) → IsShort n → IfSome (cond b (Some n) None) IsShort
short_if true n h = h
short_if false n h = tt

unsigned_if : (i l : Bool) (n : ℕ) (o : Option Num) → nat_lt n (2 ^ 64) ≡ l → IfSome o IsShort → IfSome (cond (i && l) (Some (unsigned n)) o) IsShort
unsigned_if true true n o e h = e
unsigned_if true false n o e h = h
unsigned_if false l n o e h = h

size_of : (n : ℕ) → nat_abs (with_sign true n) ≡ n
size_of zero = refl
size_of (suc n) = refl

negative_if : (i s l : Bool) (n : ℕ) (o : Option Num) → nat_le n (2 ^ 63) ≡ l → IfSome o IsShort → IfSome (cond (i && s && l) (Some (negative (with_sign true n))) o) IsShort
negative_if true true true n o e h = ap (λ x. nat_le x (2 ^ 63)) (size_of n) ∙ e
negative_if true true false n o e h = h
negative_if true false l n o e h = h
negative_if false s l n o e h = h

from_short : (sign : Bool) (p : Parts) → IfSome (number_from sign p) IsShort
from_short false p = unsigned_if (is_integer p) _ (digits_of p) (float_of false p) refl (short_if _ _ refl)
from_short true p = negative_if (is_integer p) _ _ (digits_of p) (float_of true p) refl (short_if _ _ refl)

either : (b : Bool) (x y : Option Num) → IfSome x IsShort → IfSome y IsShort → IfSome (cond b x y) IsShort
either true x y h k = h
either false x y h k = k

number_short : (s : List ℕ) → IfSome (number_of s) IsShort
unfolding number_of
number_short s = either _ _ _ (from_short true (scan (drop 1 s))) (from_short false (scan s))

-- ---- values

abbrev AreShort : Data → Type 0
AreShort d = are_short d ≡ true

abbrev AreShortInItems : Items → Type 0
AreShortInItems ds = are_short_in_items ds ≡ true

abbrev AreShortInMembers : Members → Type 0
AreShortInMembers ms = are_short_in_members ms ≡ true

put_at : (o : Ordering) (k l : List ℕ) (d e : Data) (ms : Members) → AreShort d → AreShortInMembers (member l e ms) → AreShortInMembers (put k d ms)
    → AreShortInMembers (match_ordering o (member k d (member l e ms)) (member l d ms) (member l e (put k d ms)))
put_at Less k l d e ms h all rest = and_from _ _ h all
put_at Equal k l d e ms h all rest = and_from _ _ h (and_parts _ _ all).1
put_at Greater k l d e ms h all rest = and_from _ _ (and_parts _ _ all).0 rest

put_short : (k : List ℕ) (d : Data) (ms : Members) → AreShort d → AreShortInMembers ms → AreShortInMembers (put k d ms)
put_short k d no_members h all = and_from _ _ h refl
put_short k d (member l e ms) h all = put_at (slice_cmp nat_cmp k l) k l d e ms h all (put_short k d ms h (and_parts _ _ all).1)

mutual
  json_short : (j : json.Json) → IfSome (of_json j) AreShort
  json_short json.null = refl
  json_short (json.boolean b) = refl
  json_short (json.number s) = map_some IsShort AreShort number (number_of s) (λ n h. h) (number_short s)
  json_short (json.string s) = refl
  json_short (json.array js) = map_some AreShortInItems AreShort array (of_items js) (λ ds h. h) (items_short js)
  json_short (json.object ms) = map_some AreShortInMembers AreShort object (of_members ms no_members) (λ ds h. h) (members_short ms no_members refl)

  items_short : (js : json.Items) → IfSome (of_items js) AreShortInItems
  items_short json.no_items = refl
  items_short (json.item j js) =
      then_some AreShort AreShortInItems (λ d. option_map (item d) (of_items js)) (of_json j)
      (λ d h. map_some AreShortInItems AreShortInItems (item d) (of_items js) (λ ds k. and_from _ _ h k) (items_short js)) (json_short j)

  members_short : (ms : json.Members) (found : Members) → AreShortInMembers found → IfSome (of_members ms found) AreShortInMembers
  members_short json.no_members found all = all
  members_short (json.member k j ms) found all =
      then_some AreShort AreShortInMembers (λ d. of_members ms (put k d found)) (of_json j) (λ d h. members_short ms (put k d found) (put_short k d found h all)) (json_short j)

data_short : (o : Option json.Json) → IfSome (option_and_then of_json o) AreShort
data_short None = tt
data_short (Some j) = json_short j

-- what is read has no other whole numbers
pub read_short : (text : List ℕ) (d : Data) → read text ≡ Some d → are_short d ≡ true
read_short text d e = some_is AreShort (read text) d e (data_short (option_and_then (λ p. json.if_last p.0 p.1) (json.value max_depth (tokens text))))
