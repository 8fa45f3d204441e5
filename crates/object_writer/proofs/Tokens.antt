-- What is written of objects and arrays, and of fields whose names rise.
use Rattle.std.proofs.Common.{◌≡◌, ℕ, true, Option, Some, None, List, [], ◌∷◌, ◌++◌, refl, sym, ap, ◌∙◌, drop, map, get_or, length, ◌+◌, ◌<◌, ◌≤◌, ◌≢◌, append_assoc, append-nil}
use Rattle.std.specs.Prelude.{slice_get}
use Rattle.std.proofs.lemmas.List.{drop_more, drop_all}
use Rattle.json.specs.Token.{Token, key, begin_object, end_object, begin_array, end_array}
use Rattle.json.specs.Tree.{json_tokens, items_tokens, members_tokens}
use Rattle.json.specs.Print.{print}
use Rattle.serde_json.specs.Written.{outline, items_outline, members_outline, compact_text}
use Rattle.serde_json.proofs.Texts.{print-outline}
use Rattle.json_tree.specs.Tree.{data_of, items_data, table_data, names_rise, names_of}
use Rattle.json_tree.specs.declared.value.Json.{Json, Arr}
use Rattle.json_tree.proofs.Laws.{data_of-Arr, data_of-object}
use Rattle.resource_types.proofs.Lists.{drop_at}
use Rattle.resource_codec.specs.Reading.{Member}
use Rattle.resource_codec.specs.Written.{Field, add_field, put_fields, object_of, array_field, object_field}
use Rattle.resource_codec.proofs.InOrder.{add_fields, in_order}
use Rattle.object_writer.specs.Tokens.{value_tokens, with_value, with_field, with_fields, with_values, with_members}

-- ---- members

-- the tokens of a member
abbrev member_tokens : Member → List Token
member_tokens e = key e.0 ∷ value_tokens e.1

-- the tokens of members, without the closing brace
abbrev all_tokens : List Member → List Token
all_tokens [] = []
all_tokens (e ∷ es) = member_tokens e ++ all_tokens es

all_more : (es : List Member) (k : List ℕ) (j : Json) → all_tokens (es ++ (k, j) ∷ []) ≡ all_tokens es ++ key k ∷ value_tokens j
all_more [] k j = append-nil (key k ∷ value_tokens j)
all_more (e ∷ es) k j = ap (λ ts. member_tokens e ++ ts) (all_more es k j) ∙ sym (append_assoc (member_tokens e) (all_tokens es) (key k ∷ value_tokens j))

closed : (es : List Member) → members_tokens (members_outline (table_data es)) ≡ all_tokens es ++ end_object ∷ []
unfolding value_tokens
closed [] = refl
closed (e ∷ es) = ap (λ ts. member_tokens e ++ ts) (closed es) ∙ sym (append_assoc (member_tokens e) (all_tokens es) (end_object ∷ []))

object_tokens : (es : List Member) → value_tokens (object_of es) ≡ begin_object ∷ (all_tokens es ++ end_object ∷ [])
unfolding value_tokens
object_tokens es = ap (λ d. json_tokens (outline d)) (data_of-object (record { entries = es })) ∙ ap (λ ts. begin_object ∷ ts) (closed es)

-- ---- fields

one_field : (ts : List Token) (es : List Member) (k : List ℕ) (o : Option Json) → with_field k o (ts ++ all_tokens es) ≡ ts ++ all_tokens (add_field k o es)
unfolding with_field add_field
one_field ts es k None = refl
one_field ts es k (Some j) = append_assoc ts (all_tokens es) (key k ∷ value_tokens j) ∙ ap (λ more. ts ++ more) (sym (all_more es k j))

fields_added : (fs : List Field) (ts : List Token) (es : List Member) → with_fields fs (ts ++ all_tokens es) ≡ ts ++ all_tokens (add_fields fs es)
fields_added [] ts es = refl
fields_added (f ∷ fs) ts es = ap (with_fields fs) (one_field ts es f.0 f.1) ∙ fields_added fs ts (add_field f.0 f.1 es)

-- members between braces are their object
pub in_braces : (es : List Member) (ts : List Token) → ((ts ++ begin_object ∷ []) ++ all_tokens es) ++ end_object ∷ [] ≡ with_value (object_of es) ts
unfolding with_value
in_braces es ts =
    append_assoc (ts ++ begin_object ∷ []) (all_tokens es) (end_object ∷ [])
    ∙ append_assoc ts (begin_object ∷ []) (all_tokens es ++ end_object ∷ [])
    ∙ ap (λ more. ts ++ more) (sym (object_tokens es))

-- fields whose names rise, between braces, are the object that they make
pub object_written : (fs : List Field) (ts : List Token) → names_rise (names_of fs) ≡ true
    → with_fields fs (ts ++ begin_object ∷ []) ++ end_object ∷ [] ≡ with_value (object_of (put_fields fs [])) ts
object_written fs ts rise =
    ap (λ all. all ++ end_object ∷ []) (ap (with_fields fs) (sym (append-nil (ts ++ begin_object ∷ []))) ∙ fields_added fs (ts ++ begin_object ∷ []) [])
    ∙ in_braces (add_fields fs []) ts
    ∙ ap (λ es. with_value (object_of es) ts) (in_order fs rise)

-- a value behind its name is a field
pub field_written : (k : List ℕ) (j : Json) (ts : List Token) → with_value j (ts ++ key k ∷ []) ≡ with_field k (Some j) ts
unfolding with_value with_field
field_written k j ts = append_assoc ts (key k ∷ []) (value_tokens j)

members_added : (es : List Member) (ts : List Token) → with_members es ts ≡ ts ++ all_tokens es
unfolding with_field
members_added [] ts = sym (append-nil ts)
members_added (e ∷ es) ts = members_added es (with_field e.0 (Some e.1) ts) ∙ append_assoc ts (member_tokens e) (all_tokens es)

-- members between braces are their object
pub members_written : (es : List Member) (ts : List Token) → with_members es (ts ++ begin_object ∷ []) ++ end_object ∷ [] ≡ with_value (object_of es) ts
members_written es ts = ap (λ all. all ++ end_object ∷ []) (members_added es (ts ++ begin_object ∷ [])) ∙ in_braces es ts

some_object : (k : List ℕ) (es : List Member) (ts : List Token) → es ≢ [] → with_field k (Some (object_of es)) ts ≡ with_field k (object_field es) ts
unfolding object_field
some_object k [] ts some = absurd (some refl)
some_object k (e ∷ es) ts some = refl

-- an object that isn't empty is written behind its name
pub object_behind : (k : List ℕ) (es : List Member) (ts : List Token) → es ≢ [] → with_value (object_of es) (ts ++ key k ∷ []) ≡ with_field k (object_field es) ts
object_behind k es ts some = field_written k (object_of es) ts ∙ some_object k es ts some

-- ---- items

abbrev all_items : List Json → List Token
all_items [] = []
all_items (j ∷ js) = value_tokens j ++ all_items js

items_closed : (js : List Json) → items_tokens (items_outline (items_data js)) ≡ all_items js ++ end_array ∷ []
unfolding value_tokens
items_closed [] = refl
items_closed (j ∷ js) = ap (λ ts. value_tokens j ++ ts) (items_closed js) ∙ sym (append_assoc (value_tokens j) (all_items js) (end_array ∷ []))

items_added : (js : List Json) (ts : List Token) → with_values js ts ≡ ts ++ all_items js
unfolding with_value
items_added [] ts = sym (append-nil ts)
items_added (j ∷ js) ts = items_added js (with_value j ts) ∙ append_assoc ts (value_tokens j) (all_items js)

array_tokens : (js : List Json) → value_tokens (Arr js) ≡ begin_array ∷ (all_items js ++ end_array ∷ [])
unfolding value_tokens
array_tokens js = ap (λ d. json_tokens (outline d)) (data_of-Arr js) ∙ ap (λ ts. begin_array ∷ ts) (items_closed js)

-- values between brackets are their array
pub array_written : (js : List Json) (ts : List Token) → with_values js (ts ++ begin_array ∷ []) ++ end_array ∷ [] ≡ with_value (Arr js) ts
unfolding with_value
array_written js ts =
    ap (λ all. all ++ end_array ∷ []) (items_added js (ts ++ begin_array ∷ []))
    ∙ append_assoc (ts ++ begin_array ∷ []) (all_items js) (end_array ∷ [])
    ∙ append_assoc ts (begin_array ∷ []) (all_items js ++ end_array ∷ [])
    ∙ ap (λ more. ts ++ more) (sym (array_tokens js))

some_array : (k : List ℕ) (js : List Json) (ts : List Token) → js ≢ [] → with_field k (Some (Arr js)) ts ≡ with_field k (array_field js) ts
unfolding array_field
some_array k [] ts some = absurd (some refl)
some_array k (j ∷ js) ts some = refl

-- an array that isn't empty is written behind its name
pub array_behind : (k : List ℕ) (js : List Json) (ts : List Token) → js ≢ []
    → with_values js ((ts ++ key k ∷ []) ++ begin_array ∷ []) ++ end_array ∷ [] ≡ with_field k (array_field js) ts
array_behind k js ts some = array_written js (ts ++ key k ∷ []) ∙ field_written k (Arr js) ts ∙ some_array k js ts some

-- an array behind its name stands even where it is empty
pub array_field_written : (k : List ℕ) (js : List Json) (ts : List Token)
    → with_values js ((ts ++ key k ∷ []) ++ begin_array ∷ []) ++ end_array ∷ [] ≡ with_field k (Some (Arr js)) ts
array_field_written k js ts = array_written js (ts ++ key k ∷ []) ∙ field_written k (Arr js) ts

-- values one after another, and one more
pub values_more : (js : List Json) (j : Json) (ts : List Token) → with_value j (with_values js ts) ≡ with_values (js ++ j ∷ []) ts
values_more [] j ts = refl
values_more (x ∷ js) j ts = values_more js j (with_value x ts)

-- ---- the rest of a list

left : {A : Type 0} (xs : List A) (i : ℕ) (x : A) → i < length xs → x ≡ get_or xs i x → drop i xs ≡ x ∷ drop (i + 1) xs
left xs i x within is = drop_more xs i x within ∙ ap (λ y. y ∷ drop (i + 1) xs) (sym is)

-- a value that is written is the next one of those that are left
pub next_value : (js : List Json) (i : ℕ) (j : Json) (ts : List Token) → i < length js → j ≡ get_or js i j
    → with_values (drop (i + 1) js) (with_value j ts) ≡ with_values (drop i js) ts
next_value js i j ts within is = ap (λ ys. with_values ys ts) (sym (left js i j within is))

-- behind the last one none is left
pub last_value : (js : List Json) (i : ℕ) (ts : List Token) → length js ≤ i → with_values (drop i js) ts ≡ ts
last_value js i ts end = ap (λ ys. with_values ys ts) (drop_all i js end)

-- the same of members
pub next_one : (es : List Member) (i : ℕ) (e : Member) (ts : List Token) → i < length es → e ≡ get_or es i e
    → with_members (drop (i + 1) es) (with_field e.0 (Some e.1) ts) ≡ with_members (drop i es) ts
next_one es i e ts within is = ap (λ ys. with_members ys ts) (sym (left es i e within is))

pub last_one : (es : List Member) (i : ℕ) (ts : List Token) → length es ≤ i → with_members (drop i es) ts ≡ ts
last_one es i ts end = ap (λ ys. with_members ys ts) (drop_all i es end)

-- the same of values that stand for others
module _ {A : Type 0} (f : A → Json) (xs : List A) (i : ℕ) (ts : List Token) where
  pub next_form : (x : A) → i < length xs → x ≡ get_or xs i x → with_values (map f (drop (i + 1) xs)) (with_value (f x) ts) ≡ with_values (map f (drop i xs)) ts
  next_form x within is = ap (λ ys. with_values (map f ys) ts) (sym (left xs i x within is))

  -- the next one by a look-up that finds it
  pub next_found : (x : A) → slice_get xs i ≡ Some x → with_values (map f (drop (i + 1) xs)) (with_value (f x) ts) ≡ with_values (map f (drop i xs)) ts
  next_found x at = ap (λ ys. with_values (map f ys) ts) (sym (drop_at xs i x at))

  pub last_form : length xs ≤ i → with_values (map f (drop i xs)) ts ≡ ts
  last_form end = ap (λ ys. with_values (map f ys) ts) (drop_all i xs end)

-- and of members that do
module _ {A : Type 0} (f : A → Member) (xs : List A) (i : ℕ) (ts : List Token) where
  pub next_member : (x : A) → i < length xs → x ≡ get_or xs i x
      → with_members (map f (drop (i + 1) xs)) (with_field (f x).0 (Some (f x).1) ts) ≡ with_members (map f (drop i xs)) ts
  next_member x within is = ap (λ ys. with_members (map f ys) ts) (sym (left xs i x within is))

  pub last_member : length xs ≤ i → with_members (map f (drop i xs)) ts ≡ ts
  last_member end = ap (λ ys. with_members (map f ys) ts) (drop_all i xs end)

-- ---- the text

-- the text of a value's tokens is its compact text
pub compact : (j : Json) → print (with_value j []) ≡ compact_text (data_of j)
unfolding with_value value_tokens
compact j = print-outline (data_of j)
