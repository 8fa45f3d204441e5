-- What a JSON value stands for, how deep it is, and which values are well formed.
use Rattle.std.specs.Prelude.{ℕ, Bool, true, ◌&&◌, List, [], ◌∷◌, map, pos, int_lt, Option, Some, None, if◌then◌else◌}
use Rattle.std.specs.Ordering.{nat_cmp, is_lt, match_ordering}
use Rattle.std.specs.Cmp.Lexicographic.{slice_cmp}
use Rattle.std.specs.Str.{bytes_eq}
use Rattle.serde_json.specs.Data.{Num, Data, Items, no_items, item, Members, no_members, member, null, boolean, number, unsigned, negative, float, string, array, object, depth}
use Rattle.serde_json.specs.View.{items_of}
use Rattle.json_tree.specs.declared.value.Json.{Json, fold-Json}
use Rattle.json_tree.specs.declared.value.Json.TheOpen.{Json-F}

-- ---- the data of a value, in the words of `serde_json`

-- the members of an object, in their order
abbrev pub members_data : List (List ℕ × Data) → Members
members_data [] = no_members
members_data (m ∷ ms) = member m.0 m.1 (members_data ms)

-- one level of a value, each value inside already seen as its data
abbrev pub data_step : Json-F Data → Data
data_step Json-F.Null = null
data_step (Json-F.Bool b) = boolean b
data_step (Json-F.Int z) = number (negative z)
data_step (Json-F.Nat n) = number (unsigned n)
data_step (Json-F.Str s) = string s
data_step (Json-F.Arr vs) = array (items_of vs)
data_step (Json-F.Obj m) = object (members_data m.entries)

-- the data that a value stands for
abbrev pub data_of : Json → Data
data_of = fold-Json Data data_step

-- the data of the items of an array
abbrev pub items_data : List Json → Items
items_data vs = items_of (map data_of vs)

-- the data of the members of an object
abbrev pub table_data : List (List ℕ × Json) → Members
table_data ms = members_data (map (λ e. (e.0, data_of e.1)) ms)

-- How deep arrays and objects nest: a scalar has depth 0, an array or an object one more than its deepest member, and 1 if it is empty.
abbrev pub depth_of : Json → ℕ
depth_of j = depth (data_of j)

-- ---- names

-- the names of pairs, in their order
abbrev pub names_of : {A : Type 0} → List (List ℕ × A) → List (List ℕ)
names_of [] = []
names_of (e ∷ es) = e.0 ∷ names_of es

-- the names of an object's members, in their order
abbrev pub member_names : Members → List (List ℕ)
member_names no_members = []
member_names (member k d ms) = k ∷ member_names ms

-- the name comes before each of the names, by bytes
abbrev pub is_before_all : List ℕ → List (List ℕ) → Bool
is_before_all name [] = true
is_before_all name (n ∷ ns) = is_lt (slice_cmp nat_cmp name n) && is_before_all name ns

-- the name comes after each of the names, by bytes
abbrev pub is_after_all : List ℕ → List (List ℕ) → Bool
is_after_all name [] = true
is_after_all name (n ∷ ns) = is_lt (slice_cmp nat_cmp n name) && is_after_all name ns

-- the names rise strictly, by bytes
abbrev pub names_rise : List (List ℕ) → Bool
names_rise [] = true
names_rise (n ∷ ns) = is_before_all n ns && names_rise ns

-- the names of an object's members rise strictly
abbrev pub rises : Members → Bool
rises ms = names_rise (member_names ms)

-- ---- well formed

-- a number that is written with a minus is below 0
abbrev pub is_proper : Num → Bool
is_proper (unsigned n) = true
is_proper (negative z) = int_lt z (pos 0)
is_proper (float x) = true

-- each negative number inside is below 0, and the names of each object inside rise strictly
abbrev mutual
  pub is_well : Data → Bool
  is_well null = true
  is_well (boolean b) = true
  is_well (number n) = is_proper n
  is_well (string s) = true
  is_well (array ds) = items_are_well ds
  is_well (object ms) = rises ms && values_are_well ms

  pub items_are_well : Items → Bool
  items_are_well no_items = true
  items_are_well (item d ds) = is_well d && items_are_well ds

  pub values_are_well : Members → Bool
  values_are_well no_members = true
  values_are_well (member k d ms) = is_well d && values_are_well ms

-- each `Int` in the value is negative, and the names of each object in it rise strictly by bytes
abbrev pub is_well_formed : Json → Bool
is_well_formed j = is_well (data_of j)

-- the names of the members rise strictly, and each value is well formed
abbrev pub are_well_formed : List (List ℕ × Json) → Bool
are_well_formed ms = names_rise (names_of ms) && values_are_well (table_data ms)

-- ---- look-up and change by name

-- the value of the first pair with the name
abbrev pub find : {A : Type 0} → List ℕ → List (List ℕ × A) → Option A
find name [] = None
find name (e ∷ es) = if bytes_eq e.0 name then Some e.1 else find name es

-- the pairs with the value under the name: in place of the value that is there, or before the first name that comes after it
abbrev pub put_entry : {A : Type 0} → List ℕ → A → List (List ℕ × A) → List (List ℕ × A)
put_entry k v [] = (k, v) ∷ []
put_entry k v (e ∷ es) = match_ordering (slice_cmp nat_cmp k e.0) ((k, v) ∷ e ∷ es) ((k, v) ∷ es) (e ∷ put_entry k v es)
