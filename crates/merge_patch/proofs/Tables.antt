-- Tables, and the members that they stand for.
use Rattle.std.proofs.Common.{◌≡◌, ◌+◌, ◌<◌, ◌≤◌, ℕ, zero, suc, not, length, get_or, nat_lt, arith, Bool, true, false, cond, List, [], ◌∷◌, nat_cmp, Ordering, Less, Equal, Greater, Some, None, option_map, refl, sym, ap, ◌∙◌}
use Rattle.std.proofs.lemmas.Bool.{ltb-false}
use Rattle.std.proofs.lemmas.List.Quantifiers.{position-Some}
use Rattle.std.specs.List.{remove, position, position_or_len, prefix_len}
use Rattle.std.specs.Cmp.Lexicographic.{slice_cmp}
use Rattle.std.specs.Ordering.{match_ordering}
use Rattle.std.specs.Prelude.{unwrap_or}
use Rattle.std.specs.Str.{bytes_eq}
use Rattle.serde_json.specs.Data.{member, null, put, members_depth}
use Rattle.json_tree.specs.Tree.{data_of, depth_of, is_well_formed, values_are_well, table_data, find, put_entry}
use Rattle.json_tree.specs.declared.value.Json.{Json}
use Rattle.merge_patch.specs.Merge.{lookup, without, value_or_null}
use Rattle.merge_patch.proofs.Names.{equal_name, same_name, both}

pub lookup-table_data : (name : List ℕ) (es : List (List ℕ × Json)) → lookup name (table_data es) ≡ option_map data_of (find name es)
lookup-table_data name [] = refl
lookup-table_data name (e ∷ es) = go (bytes_eq e.0 name) (lookup-table_data name es)
  where
    go : (t : Bool) → lookup name (table_data es) ≡ option_map data_of (find name es) → cond t (Some (data_of e.1)) (lookup name (table_data es)) ≡ option_map data_of (cond t (Some e.1) (find name es))
    go true rest = refl
    go false rest = rest

pub put-table_data : (k : List ℕ) (v : Json) (es : List (List ℕ × Json)) → table_data (put_entry k v es) ≡ put k (data_of v) (table_data es)
put-table_data k v [] = refl
put-table_data k v (e ∷ es) = go (slice_cmp nat_cmp k e.0) refl (put-table_data k v es)
  where
    go : (o : Ordering) → slice_cmp nat_cmp k e.0 ≡ o → table_data (put_entry k v es) ≡ put k (data_of v) (table_data es)
        → table_data (match_ordering o ((k, v) ∷ e ∷ es) ((k, v) ∷ es) (e ∷ put_entry k v es))
        ≡ match_ordering o (member k (data_of v) (member e.0 (data_of e.1) (table_data es))) (member e.0 (data_of v) (table_data es)) (member e.0 (data_of e.1) (put k (data_of v) (table_data es)))
    go Less is rest = refl
    go Equal is rest = ap (λ n. member n (data_of v) (table_data es)) (sym (same_name e.0 k (equal_name k e.0 is)))
    go Greater is rest = ap (member e.0 (data_of e.1)) rest

pub value_of_some : (name : List ℕ) (es : List (List ℕ × Json)) (j : Json) → find name es ≡ Some j → value_or_null name (table_data es) ≡ data_of j
value_of_some name es j is = ap (λ o. unwrap_or o null) (lookup-table_data name es ∙ ap (option_map data_of) is)

pub value_of_none : (name : List ℕ) (es : List (List ℕ × Json)) → find name es ≡ None → value_or_null name (table_data es) ≡ null
value_of_none name es is = ap (λ o. unwrap_or o null) (lookup-table_data name es ∙ ap (option_map data_of) is)

pub well_at : (es : List (List ℕ × Json)) (i : ℕ) (d : List ℕ × Json) → values_are_well (table_data es) ≡ true → i < length es → is_well_formed (get_or es i d).1 ≡ true
well_at [] i d w lt = absurd (omega arith)
well_at (e ∷ es) zero d w lt = (both (is_well_formed e.1) (values_are_well (table_data es)) w).0
well_at (e ∷ es) (suc i) d w lt = well_at es i d (both (is_well_formed e.1) (values_are_well (table_data es)) w).1 (omega arith)

pub depth_at : (es : List (List ℕ × Json)) (i : ℕ) (d : List ℕ × Json) → i < length es → depth_of (get_or es i d).1 ≤ members_depth (table_data es)
depth_at [] i d lt = absurd (omega arith)
depth_at (e ∷ es) zero d lt = omega arith
depth_at (e ∷ es) (suc i) d lt = let deep = depth_at es i d (omega arith) in omega arith

-- ---- taking away the first pair of the name

abbrev pub names_it : List ℕ → List ℕ × Json → Bool
names_it name e = bytes_eq e.0 name

pub record IsTaken (name : List ℕ) (es : List (List ℕ × Json)) (i : ℕ) (e : List ℕ × Json) : Type 0 where
  pub rest : table_data (remove es i) ≡ without name (table_data es)
  pub value : find name es ≡ Some e.1

first_taken : (name : List ℕ) (es : List (List ℕ × Json)) (i : ℕ) (d : List ℕ × Json) → i < length es → names_it name (get_or es i d) ≡ true
    → ((k : ℕ) → k < i → names_it name (get_or es k d) ≡ false) → IsTaken name es i (get_or es i d)
first_taken name [] i d lt is before = absurd (omega arith)
first_taken name (e ∷ es) zero d lt is before = record { rest = rw is refl; value = rw is refl }
first_taken name (e ∷ es) (suc i) d lt is before =
    let other : names_it name e ≡ false = before 0 (omega arith) in
    let later = first_taken name es i d (omega arith) is (λ k l. before (suc k) (omega arith)) in
    record { rest = rw other (ap (member e.0 (data_of e.1)) later.rest); value = rw other later.value }

pub taken : (name : List ℕ) (es : List (List ℕ × Json)) (i : ℕ) (d : List ℕ × Json) → Some i ≡ position (names_it name) es → IsTaken name es i (get_or es i d)
taken name es i d is =
    let at = position-Some (names_it name) es i d (sym is) in
    first_taken name es i d at.0 at.1 at.2

pub record IsAbsent (name : List ℕ) (es : List (List ℕ × Json)) : Type 0 where
  pub rest : without name (table_data es) ≡ table_data es
  pub value : find name es ≡ None

none_named : (name : List ℕ) (es : List (List ℕ × Json)) → length es ≤ prefix_len (λ e. not (names_it name e)) es → IsAbsent name es
none_named name [] le = record { rest = refl; value = refl }
none_named name (e ∷ es) le = go (names_it name e) refl le (none_named name es)
  where
    go : (t : Bool) → names_it name e ≡ t → suc (length es) ≤ cond (not t) (1 + prefix_len (λ x. not (names_it name x)) es) 0
        → (length es ≤ prefix_len (λ x. not (names_it name x)) es → IsAbsent name es) → IsAbsent name (e ∷ es)
    go true is le later = absurd (omega arith)
    go false is le later =
        let rest = later (omega arith) in
        record { rest = rw is (ap (member e.0 (data_of e.1)) rest.rest); value = rw is rest.value }

pub absent : (name : List ℕ) (es : List (List ℕ × Json)) → None ≡ position (names_it name) es → IsAbsent name es
absent name es is = none_named name es (go (nat_lt (position_or_len (names_it name) es) (length es)) refl is)
  where
    go : (t : Bool) → nat_lt (position_or_len (names_it name) es) (length es) ≡ t → None ≡ cond t (Some (position_or_len (names_it name) es)) None → length es ≤ position_or_len (names_it name) es
    go true e is = absurd cc
    go false e is = ltb-false _ _ e
