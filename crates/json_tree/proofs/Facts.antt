-- Facts on members that several proofs cite.
use Rattle.std.proofs.Common.{◌≡◌, ℕ, true, refl, List, [], ◌∷◌, ◌++◌, String, Global, string_bytes, string_cmp, Less, ap, rules, arith}
use Rattle.std.proofs.Common.{◌∙◌, Ordering, Equal, Greater, nat_cmp}
use Rattle.std.proofs.lemmas.Cmp.{nat_list_cmp_total}
use Rattle.std.specs.Cmp.Lexicographic.{slice_cmp}
use Rattle.std.specs.Ordering.{is_lt, ordering_reverse}
use Rattle.std.specs.List.{AllByRecursion}
use Rattle.std.specs.List.Sorted.{IsStrictlySortedBy}
use Rattle.std.specs.Map.{keys_of}
use Rattle.serde_json.specs.Data.{Data, Members, no_members, member, object, put}
use Rattle.serde_json.specs.View.{view, members_view}
use Rattle.serde_json.proofs.Views.{Entry}
use Rattle.json_tree.specs.Tree.{rises, is_before_all, member_names, names_of, table_data, data_of}
use Rattle.json_tree.specs.declared.value.Json.{Json, Obj, the_lemmas}
use Rattle.json_tree.specs.declared.members.Table.{Table}

before_all : (k : String Global) (es : List Entry) → AllByRecursion (λ y. string_cmp k y ≡ Less) (keys_of es) → is_before_all (string_bytes k) (member_names (members_view es)) ≡ true
before_all k [] h = refl
before_all k (e ∷ es) h = rw (h.0) (before_all k es h.1)

-- the names of a map rise
pub rises-sorted : (es : List Entry) → IsStrictlySortedBy string_cmp (keys_of es) → rises (members_view es) ≡ true
unfolding IsStrictlySortedBy
rises-sorted [] h = refl
rises-sorted (e ∷ es) h = rw (before_all e.0 es h.0) (rises-sorted es h.1)

-- an object's data has the names of its table
pub member_names-table_data : (es : List (List ℕ × Json)) → member_names (table_data es) ≡ names_of es
member_names-table_data [] = refl
member_names-table_data (e ∷ es) = ap (λ ns. e.0 ∷ ns) (member_names-table_data es)

-- the members with one more at the end
abbrev pub then_member : Members → List ℕ → Data → Members
then_member no_members k d = member k d no_members
then_member (member l e ms) k d = member l e (then_member ms k d)

pub table_data-push : (es : List (List ℕ × Json)) (k : List ℕ) (j : Json) → table_data (es ++ (k, j) ∷ []) ≡ then_member (table_data es) k (data_of j)
table_data-push [] k j = refl
table_data-push (e ∷ es) k j = ap (member e.0 (data_of e.1)) (table_data-push es k j)

pub members_view-push : (es : List Entry) (e : Entry) → members_view (es ++ e ∷ []) ≡ then_member (members_view es) (string_bytes e.0) (view e.1)
members_view-push [] e = refl
members_view-push (f ∷ es) e = ap (member (string_bytes f.0) (view f.1)) (members_view-push es e)

pub data_of-Obj : (m : Table Json) → data_of (Obj m) ≡ object (table_data m.entries)
data_of-Obj m = search (rules, the_lemmas)

-- ---- writing: each name goes behind those before it

before_middle : (a : List ℕ) (es : List (List ℕ × Json)) (e : List ℕ × Json) (more : List (List ℕ × Json)) → is_before_all a (member_names (table_data (es ++ e ∷ more))) ≡ true
    → is_lt (slice_cmp nat_cmp a e.0) ≡ true
before_middle a [] e more h = grind arith
before_middle a (x ∷ es) e more h = before_middle a es e more (grind arith)

pub less_of : (o : Ordering) → is_lt o ≡ true → o ≡ Less
less_of Less h = refl
less_of Equal h = cc
less_of Greater h = cc

pub put_last : (es : List (List ℕ × Json)) (e : List ℕ × Json) (more : List (List ℕ × Json)) (d : Data) → rises (table_data (es ++ e ∷ more)) ≡ true
    → put e.0 d (table_data es) ≡ then_member (table_data es) e.0 d
put_last [] e more d h = refl
put_last (x ∷ es) e more d h =
    let below : is_before_all x.0 (member_names (table_data (es ++ e ∷ more))) ≡ true = grind arith in
    let rest : rises (table_data (es ++ e ∷ more)) ≡ true = grind arith in
    let above : slice_cmp nat_cmp e.0 x.0 ≡ Greater = nat_list_cmp_total.antisymm e.0 x.0 ∙ ap ordering_reverse (less_of _ (before_middle x.0 es e more below)) in
    rw above (ap (member x.0 (data_of x.1)) (put_last es e more d rest))
