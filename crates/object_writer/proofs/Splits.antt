-- Members that are written up to a field that is put among them.
use Rattle.std.proofs.Common.{◌≡◌, ℕ, ◌+◌, ◌-◌, ◌<◌, true, false, cond, Option, Some, None, List, [], ◌∷◌, ◌++◌, take, drop, length, get_or, nat_cmp, Ordering, Less, Equal, Greater, refl, sym, ap, ◌∙◌, subst, append_assoc, arith}
use Rattle.std.proofs.lemmas.List.{take_more, drop_more, take_rest, take-append-drop}
use Rattle.std.proofs.lemmas.Cmp.{nat_list_cmp_total}
use Rattle.std.proofs.lemmas.Map.Text.{is_eq-slice_cmp}
use Rattle.std.specs.Option.{is_some}
use Rattle.std.specs.Cmp.Lexicographic.{slice_cmp}
use Rattle.std.specs.Ordering.{is_lt, is_ge, is_eq, match_ordering, ordering_reverse}
use Rattle.std.specs.Str.{bytes_eq}
use Rattle.json.specs.Token.{Token}
use Rattle.json_tree.specs.Tree.{put_entry, names_of, is_after_all}
use Rattle.json_tree.specs.declared.value.Json.{Json, Nat}
use Rattle.json_tree.proofs.Facts.{less_of}
use Rattle.json_tree.proofs.Rising.{after-push}
use Rattle.resource_codec.specs.Reading.{Member}
use Rattle.resource_codec.specs.Written.{put_field, number_field}
use Rattle.object_writer.specs.Places.{begins_before, entries_behind}
use Rattle.object_writer.specs.Tokens.{with_field, with_members, WritesUpTo}

-- ---- members one after another

pub members_joined : (w es : List Member) (ts : List Token) → with_members (w ++ es) ts ≡ with_members es (with_members w ts)
members_joined [] es ts = refl
members_joined (e ∷ w) es ts = members_joined w es (with_field e.0 (Some e.1) ts)

-- ---- one more member that comes before the name

pub before_of : (o : Ordering) → false ≡ is_ge o → is_lt o ≡ true
before_of Less e = refl
before_of Equal e = cc
before_of Greater e = cc

pub not_before_of : (o : Ordering) → true ≡ is_ge o → is_lt o ≡ false
not_before_of Less e = cc
not_before_of Equal e = refl
not_before_of Greater e = refl

module _ {A : Type 0} (es : List (List ℕ × A)) (i : ℕ) (e : List ℕ × A) (within : i < length es) (is : e ≡ get_or es i e) where
  taken : take (i + 1) es ≡ take i es ++ e ∷ []
  taken = take_more es i e within ∙ ap (λ x. take i es ++ x ∷ []) (sym is)

  pub one_before : (name : List ℕ) → is_lt (slice_cmp nat_cmp e.0 name) ≡ true → is_after_all name (names_of (take i es)) ≡ true
      → is_after_all name (names_of (take (i + 1) es)) ≡ true
  one_before name lt before = subst (λ (xs : List (List ℕ × A)). is_after_all name (names_of xs) ≡ true) (sym taken) (after-push name e.0 e.1 (take i es) before lt)

  pub first_behind : (name : List ℕ) → is_lt (slice_cmp nat_cmp e.0 name) ≡ false → begins_before name (drop i es) ≡ false
  first_behind name not = subst (λ (xs : List (List ℕ × A)). begins_before name xs ≡ false) (sym (drop_more es i e within ∙ ap (λ y. y ∷ drop (i + 1) es) (sym is))) not

-- ---- the field goes behind what comes before it

put_at : (o : Ordering) (k : List ℕ) (j : Json) (e : Member) (es : List Member) → bytes_eq e.0 k ≡ is_eq o → is_lt (ordering_reverse o) ≡ false
    → match_ordering o ((k, j) ∷ e ∷ es) ((k, j) ∷ es) (e ∷ put_entry k j es) ≡ (k, j) ∷ cond (bytes_eq e.0 k) es (e ∷ es)
put_at Less k j e es same not = ap (λ b. (k, j) ∷ cond b es (e ∷ es)) (sym same)
put_at Equal k j e es same not = ap (λ b. (k, j) ∷ cond b es (e ∷ es)) (sym same)
put_at Greater k j e es same not = absurd cc

reverse_eq : (o : Ordering) → is_eq (ordering_reverse o) ≡ is_eq o
reverse_eq Less = refl
reverse_eq Equal = refl
reverse_eq Greater = refl

put_first : (k : List ℕ) (j : Json) (es : List Member) → begins_before k es ≡ false → put_entry k j es ≡ (k, j) ∷ entries_behind k es
put_first k j [] not = refl
put_first k j (e ∷ es) not =
    let o = slice_cmp nat_cmp k e.0 in
    let back : slice_cmp nat_cmp e.0 k ≡ ordering_reverse o = nat_list_cmp_total.antisymm e.0 k in
    put_at o k j e es (sym (is_eq-slice_cmp e.0 k) ∙ ap is_eq back ∙ reverse_eq o) (sym (ap is_lt back) ∙ not)

pub put_past : (k : List ℕ) (j : Json) (w es : List Member) → is_after_all k (names_of w) ≡ true → put_entry k j (w ++ es) ≡ w ++ put_entry k j es
put_past k j [] es after = refl
put_past k j (e ∷ w) es after =
    let below : slice_cmp nat_cmp e.0 k ≡ Less = less_of _ (grind arith) in
    let above : slice_cmp nat_cmp k e.0 ≡ Greater = nat_list_cmp_total.antisymm k e.0 ∙ ap ordering_reverse below in
    rw above (ap (λ (xs : List Member). e ∷ xs) (put_past k j w es (grind arith)))

pub field_past : (k : List ℕ) (o : Option Json) (w es : List Member) → is_after_all k (names_of w) ≡ true → put_field k o (w ++ es) ≡ w ++ put_field k o es
unfolding put_field
field_past k None w es after = refl
field_past k (Some j) w es after = put_past k j w es after

after_later : (k later : List ℕ) (ns : List (List ℕ)) → is_lt (slice_cmp nat_cmp k later) ≡ true → is_after_all k ns ≡ true → is_after_all later ns ≡ true
after_later k later [] lt h = refl
after_later k later (n ∷ ns) lt h =
    let first : slice_cmp nat_cmp n k ≡ Less = less_of _ (grind arith) in
    let rest : is_after_all later ns ≡ true = after_later k later ns lt (grind arith) in
    let now : slice_cmp nat_cmp n later ≡ Less = nat_list_cmp_total.trans n k later first (less_of _ lt) in
    rw now rest

-- nothing is written where there is no field
pub nothing_put : (k : List ℕ) (es : List Member) (ts : List Token) → WritesUpTo k None es es ts ts
unfolding put_field
nothing_put k es ts = record { written = []; all = refl; tokens = refl; before = λ later lt. refl }

-- what comes before the field is written, and the field
pub put_between : (k : List ℕ) (j : Json) (w es : List Member) (ts : List Token) → is_after_all k (names_of w) ≡ true → begins_before k es ≡ false
    → WritesUpTo k (Some j) (w ++ es) (entries_behind k es) ts (with_field k (Some j) (with_members w ts))
unfolding put_field
put_between k j w es ts after not = record {
  written = w ++ (k, j) ∷ [];
  all = put_past k j w es after ∙ ap (λ xs. w ++ xs) (put_first k j es not) ∙ sym (append_assoc w ((k, j) ∷ []) (entries_behind k es));
  tokens = sym (members_joined w ((k, j) ∷ []) ts);
  before = λ later lt. after-push later k j w (after_later k later (names_of w) lt after) lt;
}

-- two fields are put one behind the other
pub both_put : (k l : List ℕ) (o p : Option Json) (es first second : List Member) (ts mid end : List Token) → is_lt (slice_cmp nat_cmp k l) ≡ true
    → WritesUpTo k o es first ts mid → WritesUpTo l p first second mid end
    → with_members second end ≡ with_members (put_field l p (put_field k o es)) ts
both_put k l o p es first second ts mid end lt u v =
    ap (with_members second) (v.tokens ∙ ap (with_members v.written) u.tokens)
    ∙ sym (members_joined v.written second (with_members u.written ts))
    ∙ sym (members_joined u.written (v.written ++ second) ts)
    ∙ ap (λ xs. with_members xs ts)
    (ap (λ xs. u.written ++ xs) (sym v.all) ∙ sym (field_past l p u.written first (u.before l lt)) ∙ ap (put_field l p) (sym u.all))

-- what is left is written behind one field
pub one_put : (k : List ℕ) (o : Option Json) (es left : List Member) (ts mid : List Token) → WritesUpTo k o es left ts mid
    → with_members left mid ≡ with_members (put_field k o es) ts
one_put k o es left ts mid u = ap (with_members left) u.tokens ∙ sym (members_joined u.written left ts) ∙ ap (λ xs. with_members xs ts) (sym u.all)

-- ---- a number among members

pub no_number : (k : List ℕ) (n : Option ℕ) (es : List Member) (ts : List Token) → is_some n ≡ false → WritesUpTo k (number_field n) es es ts ts
unfolding number_field
no_number k None es ts e = nothing_put k es ts
no_number k (Some v) es ts e = absurd cc

pub number_put : (k : List ℕ) (n : Option ℕ) (es left : List Member) (i : ℕ) (ts mid end : List Token) → is_some n ≡ true
    → mid ≡ with_members (take i es) ts → is_after_all k (names_of (take i es)) ≡ true → begins_before k (drop i es) ≡ false
    → end ≡ with_field k (number_field n) mid → left ≡ entries_behind k (take (length es - i) (drop i es))
    → WritesUpTo k (number_field n) es left ts end
unfolding number_field
number_put k None es left i ts mid end e before after not behind rest = absurd cc
number_put k (Some v) es left i ts mid end e before after not behind rest =
    subst (λ (xs : List Member). WritesUpTo k (Some (Nat v)) xs left ts end) (take-append-drop i es)
    (subst (λ (xs : List Member). WritesUpTo k (Some (Nat v)) (take i es ++ drop i es) xs ts end) (sym (rest ∙ ap (entries_behind k) (take_rest es i)))
    (subst (λ (xs : List Token). WritesUpTo k (Some (Nat v)) (take i es ++ drop i es) (entries_behind k (drop i es)) ts xs)
    (sym (behind ∙ ap (with_field k (Some (Nat v))) before)) (put_between k (Nat v) (take i es) (drop i es) ts after not)))
