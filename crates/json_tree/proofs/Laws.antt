-- Laws that callers cite: the data of each form of a value, what is inside a value, and what a put does.
use Rattle.std.proofs.Common.{◌≡◌, ◌≢◌, ℕ, ◌≤◌, true, false, ◌&&◌, cond, List, [], ◌∷◌, nat_cmp, Ordering, Less, Equal, Greater, Option, Some, refl, sym, ap, subst, ◌∙◌, arith, rules}
use Rattle.std.specs.Prelude.{Bool as Test, ℤ}
use Rattle.std.specs.Str.{bytes_eq}
use Rattle.std.specs.Cmp.Lexicographic.{slice_cmp}
use Rattle.std.specs.Ordering.{match_ordering, is_eq}
use Rattle.std.proofs.lemmas.Map.Text.{is_eq-slice_cmp}
use Rattle.std.proofs.lemmas.Slice.Eq.{bytes_eq-Decides}
use Rattle.serde_json.specs.Data.{null, boolean, number, unsigned, negative, string, array, object, members_depth}
use Rattle.json_tree.specs.Tree.{data_of, items_data, table_data, depth_of, is_well_formed, are_well_formed, values_are_well, rises, names_rise, names_of, find, put_entry}
use Rattle.json_tree.specs.declared.value.Json.{Json, Null, Bool, Int, Nat, Str, Arr, Obj, the_lemmas}
use Rattle.json_tree.specs.declared.members.Table.{Table}
use Rattle.json_tree.proofs.Facts.{data_of-Obj, member_names-table_data}
use Rattle.json_tree.proofs.Rising.{rises-put_entry}

-- ---- the data of each form

pub data_of-Null : data_of Null ≡ null
data_of-Null = search (rules, the_lemmas)

pub data_of-Bool : (b : Test) → data_of (Bool b) ≡ boolean b
data_of-Bool b = search (rules, the_lemmas)

pub data_of-Int : (z : ℤ) → data_of (Int z) ≡ number (negative z)
data_of-Int z = search (rules, the_lemmas)

pub data_of-Nat : (n : ℕ) → data_of (Nat n) ≡ number (unsigned n)
data_of-Nat n = search (rules, the_lemmas)

pub data_of-Str : (t : List ℕ) → data_of (Str t) ≡ string t
data_of-Str t = search (rules, the_lemmas)

pub data_of-Arr : (vs : List Json) → data_of (Arr vs) ≡ array (items_data vs)
data_of-Arr vs = search (rules, the_lemmas)

pub data_of-object : (m : Table Json) → data_of (Obj m) ≡ object (table_data m.entries)
data_of-object m = data_of-Obj m

-- an object is well formed where its members are
pub is_well_formed-Obj : (m : Table Json) → is_well_formed (Obj m) ≡ are_well_formed m.entries
is_well_formed-Obj m = rw (data_of-Obj m, member_names-table_data m.entries) refl

-- ---- what is inside

both : (b c : Test) → (b && c) ≡ true → (b ≡ true) × (c ≡ true)
both true c h = (refl, h)
both false c h = absurd cc

-- a fact of the first value, and of each one that is found behind it, is one of the value that is found
found_at : (P : Json → Type 0) (here : Test) (e : List ℕ × Json) (j : Json) (later : Option Json) → P e.1 → (later ≡ Some j → P j) → cond here (Some e.1) later ≡ Some j → P j
found_at P true e j later first rest is = let same : e.1 ≡ j = cc in subst P same first
found_at P false e j later first rest is = rest is

-- what is found among well-formed values is well formed
pub is_well_formed-find : (name : List ℕ) (es : List (List ℕ × Json)) (j : Json) → values_are_well (table_data es) ≡ true → find name es ≡ Some j → is_well_formed j ≡ true
is_well_formed-find name [] j w is = absurd cc
is_well_formed-find name (e ∷ es) j w is =
    let parts = both (is_well_formed e.1) (values_are_well (table_data es)) w in
    found_at (λ v. is_well_formed v ≡ true) (bytes_eq e.0 name) e j (find name es) parts.0 (is_well_formed-find name es j parts.1) is

-- what is found is no deeper than the deepest member
pub depth_of-find : (name : List ℕ) (es : List (List ℕ × Json)) (j : Json) → find name es ≡ Some j → depth_of j ≤ members_depth (table_data es)
depth_of-find name [] j is = absurd cc
depth_of-find name (e ∷ es) j is =
    let all = members_depth (table_data (e ∷ es)) in
    let first : depth_of e.1 ≤ all = omega arith in
    let rest : find name es ≡ Some j → depth_of j ≤ all = λ found. (let inside = depth_of-find name es j found in omega arith) in
    found_at (λ v. depth_of v ≤ all) (bytes_eq e.0 name) e j (find name es) first rest is

-- ---- what a put does

module _ (k : List ℕ) (v : Json) where
  well_at : (o : Ordering) (e : List ℕ × Json) (es : List (List ℕ × Json)) → is_well_formed v ≡ true → values_are_well (table_data (e ∷ es)) ≡ true
      → values_are_well (table_data (put_entry k v es)) ≡ true → values_are_well (table_data (match_ordering o ((k, v) ∷ e ∷ es) ((k, v) ∷ es) (e ∷ put_entry k v es))) ≡ true
  well_at Less e es w h rest = grind arith
  well_at Equal e es w h rest = grind arith
  well_at Greater e es w h rest = grind arith

  -- values that are well formed stay so
  pub values_are_well-put_entry : (es : List (List ℕ × Json)) → is_well_formed v ≡ true → values_are_well (table_data es) ≡ true → values_are_well (table_data (put_entry k v es)) ≡ true
  values_are_well-put_entry [] w h = grind arith
  values_are_well-put_entry (e ∷ es) w h = well_at _ e es w h (values_are_well-put_entry es w (grind arith))

  deep_at : (n : ℕ) (o : Ordering) (e : List ℕ × Json) (es : List (List ℕ × Json)) → depth_of v ≤ n → members_depth (table_data (e ∷ es)) ≤ n
      → members_depth (table_data (put_entry k v es)) ≤ n → members_depth (table_data (match_ordering o ((k, v) ∷ e ∷ es) ((k, v) ∷ es) (e ∷ put_entry k v es))) ≤ n
  deep_at n Less e es d h rest = omega arith
  deep_at n Equal e es d h rest = omega arith
  deep_at n Greater e es d h rest = omega arith

  -- members are no deeper than those before and the new value
  pub members_depth-put_entry : (n : ℕ) (es : List (List ℕ × Json)) → depth_of v ≤ n → members_depth (table_data es) ≤ n → members_depth (table_data (put_entry k v es)) ≤ n
  members_depth-put_entry n [] d h = omega arith
  members_depth-put_entry n (e ∷ es) d h = deep_at n _ e es d h (members_depth-put_entry n es d (omega arith))

  -- names of an object that rise stay so
  pub rises_put : (es : List (List ℕ × Json)) → rises (table_data es) ≡ true → rises (table_data (put_entry k v es)) ≡ true
  rises_put es h =
      ap names_rise (member_names-table_data (put_entry k v es)) ∙ rises-put_entry k v es (ap names_rise (sym (member_names-table_data es)) ∙ h)

  -- members that are well formed stay so
  pub are_well_formed-put_entry : (es : List (List ℕ × Json)) → is_well_formed v ≡ true → are_well_formed es ≡ true → are_well_formed (put_entry k v es) ≡ true
  are_well_formed-put_entry es w h =
      let parts = both (names_rise (names_of es)) (values_are_well (table_data es)) h in
      rw (rises-put_entry k v es parts.0) (values_are_well-put_entry es w parts.1)

own_name : (k : List ℕ) → bytes_eq k k ≡ true
own_name k = (bytes_eq-Decides k k).1 refl

not_name : (t : Test) (k l : List ℕ) → bytes_eq k l ≡ t → k ≢ l → t ≡ false
not_name true k l is other = absurd (other ((bytes_eq-Decides k l).0 is))
not_name false k l is other = refl

other_name : (k l : List ℕ) → k ≢ l → bytes_eq k l ≡ false
other_name k l other = not_name _ k l refl other

same_of_equal : (k l : List ℕ) → slice_cmp nat_cmp k l ≡ Equal → l ≡ k
same_of_equal k l e = sym ((bytes_eq-Decides k l).0 (sym (is_eq-slice_cmp k l) ∙ ap is_eq e))

other_of_greater : (k l : List ℕ) → slice_cmp nat_cmp k l ≡ Greater → l ≢ k
other_of_greater k l g = λ same. (let wrong : true ≡ false = sym ((bytes_eq-Decides k l).1 (sym same)) ∙ sym (is_eq-slice_cmp k l) ∙ ap is_eq g in cc)

module _ {A : Type 0} (k : List ℕ) (v : A) where
  found_put_at : (o : Ordering) (e : List ℕ × A) (es : List (List ℕ × A)) → slice_cmp nat_cmp k e.0 ≡ o → find k (put_entry k v es) ≡ Some v
      → find k (match_ordering o ((k, v) ∷ e ∷ es) ((k, v) ∷ es) (e ∷ put_entry k v es)) ≡ Some v
  found_put_at Less e es is rest = rw (own_name k) refl
  found_put_at Equal e es is rest = rw (own_name k) refl
  found_put_at Greater e es is rest = rw (other_name e.0 k (other_of_greater k e.0 is)) rest

  -- what was put is found
  pub find-put_entry : (es : List (List ℕ × A)) → find k (put_entry k v es) ≡ Some v
  find-put_entry [] = rw (own_name k) refl
  find-put_entry (e ∷ es) = found_put_at _ e es refl (find-put_entry es)

  other_put_at : (q : List ℕ) (o : Ordering) (e : List ℕ × A) (es : List (List ℕ × A)) → k ≢ q → slice_cmp nat_cmp k e.0 ≡ o → find q (put_entry k v es) ≡ find q es
      → find q (match_ordering o ((k, v) ∷ e ∷ es) ((k, v) ∷ es) (e ∷ put_entry k v es)) ≡ find q (e ∷ es)
  other_put_at q Less e es other is rest = rw (other_name k q other) refl
  other_put_at q Equal e es other is rest =
      let there : e.0 ≢ q = λ same. other (sym (same_of_equal k e.0 is) ∙ same) in
      rw (other_name k q other, other_name e.0 q there) refl
  other_put_at q Greater e es other is rest = rw rest refl

  -- what other names have stays
  pub find-put_entry-other : (q : List ℕ) (es : List (List ℕ × A)) → k ≢ q → find q (put_entry k v es) ≡ find q es
  find-put_entry-other q [] other = rw (other_name k q other) refl
  find-put_entry-other q (e ∷ es) other = other_put_at q _ e es other refl (find-put_entry-other q es other)
