-- Members that are put, taken away and looked up.
use Rattle.std.proofs.Common.{◌≡◌, ◌≤◌, ℕ, Bool, true, false, cond, List, nat_cmp, Ordering, Less, Equal, Greater, Some, None, refl, sym, ap, subst, ◌∙◌, arith, max}
use Rattle.std.specs.Cmp.Lexicographic.{slice_cmp}
use Rattle.std.specs.Ordering.{is_lt, match_ordering}
use Rattle.std.specs.Str.{bytes_eq}
use Rattle.serde_json.specs.Data.{Data, Members, no_members, member, put, depth, members_depth}
use Rattle.json_tree.specs.Tree.{is_well, values_are_well, rises, member_names, is_before_all}
use Rattle.merge_patch.specs.Merge.{lookup, without}
use Rattle.merge_patch.proofs.Names.{own_name, same_name, equal_name, less_of, less_from, less_back, greater_apart, equal_of, both, and, before_all}

-- ---- looking up

-- a name before all others is none of them
pub lookup-before : (k : List ℕ) (ms : Members) → is_before_all k (member_names ms) ≡ true → lookup k ms ≡ None
lookup-before k no_members b = refl
lookup-before k (member l d ms) b =
    let parts = both (is_lt (slice_cmp nat_cmp k l)) (is_before_all k (member_names ms)) b in
    rw (less_back k l parts.0) (lookup-before k ms parts.1)

pub lookup-without : (k : List ℕ) (ms : Members) → rises ms ≡ true → lookup k (without k ms) ≡ None
lookup-without k no_members r = refl
lookup-without k (member l d ms) r = go (bytes_eq l k) refl (lookup-without k ms parts.1)
  where
    parts : (is_before_all l (member_names ms) ≡ true) × (rises ms ≡ true)
    parts = both (is_before_all l (member_names ms)) (rises ms) r

    go : (t : Bool) → bytes_eq l k ≡ t → lookup k (without k ms) ≡ None → lookup k (cond t ms (member l d (without k ms))) ≡ None
    go true is rest = subst (λ n. lookup n ms ≡ None) (same_name l k is) (lookup-before l ms parts.0)
    go false is rest = rw is rest

pub lookup-without-other : (k q : List ℕ) (ms : Members) → bytes_eq k q ≡ false → lookup q (without k ms) ≡ lookup q ms
lookup-without-other k q no_members other = refl
lookup-without-other k q (member l d ms) other = go (bytes_eq l k) refl (lookup-without-other k q ms other)
  where
    go : (t : Bool) → bytes_eq l k ≡ t → lookup q (without k ms) ≡ lookup q ms → lookup q (cond t ms (member l d (without k ms))) ≡ lookup q (member l d ms)
    go true is rest = let no_name : bytes_eq l q ≡ false = subst (λ n. bytes_eq n q ≡ false) (sym (same_name l k is)) other in rw no_name refl
    go false is rest = ap (λ o. cond (bytes_eq l q) (Some d) o) rest

pub lookup-put : (k : List ℕ) (v : Data) (ms : Members) → lookup k (put k v ms) ≡ Some v
lookup-put k v no_members = rw (own_name k) refl
lookup-put k v (member l d ms) = go (slice_cmp nat_cmp k l) refl (lookup-put k v ms)
  where
    go : (o : Ordering) → slice_cmp nat_cmp k l ≡ o → lookup k (put k v ms) ≡ Some v
        → lookup k (match_ordering o (member k v (member l d ms)) (member l v ms) (member l d (put k v ms))) ≡ Some v
    go Less is rest = rw (own_name k) refl
    go Equal is rest = rw (equal_name k l is) refl
    go Greater is rest = rw (greater_apart k l is) rest

pub lookup-put-other : (k q : List ℕ) (v : Data) (ms : Members) → bytes_eq k q ≡ false → lookup q (put k v ms) ≡ lookup q ms
lookup-put-other k q v no_members other = rw other refl
lookup-put-other k q v (member l d ms) other = go (slice_cmp nat_cmp k l) refl (lookup-put-other k q v ms other)
  where
    go : (o : Ordering) → slice_cmp nat_cmp k l ≡ o → lookup q (put k v ms) ≡ lookup q ms
        → lookup q (match_ordering o (member k v (member l d ms)) (member l v ms) (member l d (put k v ms))) ≡ lookup q (member l d ms)
    go Less is rest = rw other refl
    go Equal is rest = let no_name : bytes_eq l q ≡ false = subst (λ n. bytes_eq n q ≡ false) (sym (same_name l k (equal_name k l is))) other in rw no_name refl
    go Greater is rest = ap (λ o. cond (bytes_eq l q) (Some d) o) rest

-- ---- what changes nothing

pub without-none : (k : List ℕ) (ms : Members) → lookup k ms ≡ None → without k ms ≡ ms
without-none k no_members none = refl
without-none k (member l d ms) none = go (bytes_eq l k) none (without-none k ms)
  where
    go : (t : Bool) → cond t (Some d) (lookup k ms) ≡ None → (lookup k ms ≡ None → without k ms ≡ ms) → cond t ms (member l d (without k ms)) ≡ member l d ms
    go true none rest = absurd cc
    go false none rest = ap (member l d) (rest none)

pub put-own : (k : List ℕ) (v : Data) (ms : Members) → rises ms ≡ true → lookup k ms ≡ Some v → put k v ms ≡ ms
put-own k v no_members r has = absurd cc
put-own k v (member l d ms) r has = go (slice_cmp nat_cmp k l) refl has (put-own k v ms parts.1)
  where
    parts : (is_before_all l (member_names ms) ≡ true) × (rises ms ≡ true)
    parts = both (is_before_all l (member_names ms)) (rises ms) r

    none : is_lt (slice_cmp nat_cmp k l) ≡ true → lookup k (member l d ms) ≡ None
    none lt = lookup-before k (member l d ms) (and _ _ lt (before_all k l (member_names ms) lt parts.0))

    go : (o : Ordering) → slice_cmp nat_cmp k l ≡ o → lookup k (member l d ms) ≡ Some v → (lookup k ms ≡ Some v → put k v ms ≡ ms)
        → match_ordering o (member k v (member l d ms)) (member l v ms) (member l d (put k v ms)) ≡ member l d ms
    go Less is has rest = let no_value = none (ap is_lt is) in absurd cc
    go Equal is has rest = let same : Some d ≡ Some v = rw (equal_name k l is) at has in let is_v : d ≡ v = cc in ap (λ x. member l x ms) (sym is_v)
    go Greater is has rest =
        let later : lookup k ms ≡ Some v = rw (greater_apart k l is) at has in
        ap (member l d) (rest later)

-- a name before all others goes first
put-first : (k : List ℕ) (v : Data) (ms : Members) → is_before_all k (member_names ms) ≡ true → put k v ms ≡ member k v ms
put-first k v no_members b = refl
put-first k v (member l d ms) b =
    let lt = less_of (slice_cmp nat_cmp k l) (both (is_lt (slice_cmp nat_cmp k l)) (is_before_all k (member_names ms)) b).0 in
    ap (λ o. match_ordering o (member k v (member l d ms)) (member l v ms) (member l d (put k v ms))) lt

-- a put takes the place of the member that was there
pub put-without : (k : List ℕ) (v : Data) (ms : Members) → rises ms ≡ true → put k v (without k ms) ≡ put k v ms
put-without k v no_members r = refl
put-without k v (member l d ms) r = at_name (bytes_eq l k) refl (put-without k v ms parts.1)
  where
    parts : (is_before_all l (member_names ms) ≡ true) × (rises ms ≡ true)
    parts = both (is_before_all l (member_names ms)) (rises ms) r

    beside : (o : Ordering) → slice_cmp nat_cmp k l ≡ o → bytes_eq l k ≡ false → put k v (without k ms) ≡ put k v ms
        → match_ordering o (member k v (member l d (without k ms))) (member l v (without k ms)) (member l d (put k v (without k ms)))
        ≡ match_ordering o (member k v (member l d ms)) (member l v ms) (member l d (put k v ms))
    beside Less is other rest =
        let none = lookup-before k ms (before_all k l (member_names ms) (ap is_lt is) parts.0) in
        ap (λ x. member k v (member l d x)) (without-none k ms none)
    beside Equal is other rest = let same = equal_name k l is in absurd cc
    beside Greater is other rest = ap (member l d) rest

    at_name : (t : Bool) → bytes_eq l k ≡ t → put k v (without k ms) ≡ put k v ms → put k v (cond t ms (member l d (without k ms))) ≡ put k v (member l d ms)
    at_name true is rest =
        let same = same_name l k is in
        put-first k v ms (subst (λ n. is_before_all n (member_names ms) ≡ true) same parts.0)
        ∙ ap (λ n. member n v ms) (sym same)
        ∙ sym (ap (λ o. match_ordering o (member k v (member l d ms)) (member l v ms) (member l d (put k v ms))) (equal_of k l is))
    at_name false is rest = beside (slice_cmp nat_cmp k l) refl is rest

-- ---- what stays

pub before-without : (a k : List ℕ) (ms : Members) → is_before_all a (member_names ms) ≡ true → is_before_all a (member_names (without k ms)) ≡ true
before-without a k no_members b = refl
before-without a k (member l d ms) b = go (bytes_eq l k) (before-without a k ms parts.1)
  where
    parts : (is_lt (slice_cmp nat_cmp a l) ≡ true) × (is_before_all a (member_names ms) ≡ true)
    parts = both (is_lt (slice_cmp nat_cmp a l)) (is_before_all a (member_names ms)) b

    go : (t : Bool) → is_before_all a (member_names (without k ms)) ≡ true → is_before_all a (member_names (cond t ms (member l d (without k ms)))) ≡ true
    go true rest = parts.1
    go false rest = and _ _ parts.0 rest

pub rises-without : (k : List ℕ) (ms : Members) → rises ms ≡ true → rises (without k ms) ≡ true
rises-without k no_members r = refl
rises-without k (member l d ms) r = go (bytes_eq l k) (rises-without k ms parts.1)
  where
    parts : (is_before_all l (member_names ms) ≡ true) × (rises ms ≡ true)
    parts = both (is_before_all l (member_names ms)) (rises ms) r

    go : (t : Bool) → rises (without k ms) ≡ true → rises (cond t ms (member l d (without k ms))) ≡ true
    go true rest = parts.1
    go false rest = and _ _ (before-without l k ms parts.0) rest

pub before-put : (a k : List ℕ) (v : Data) (ms : Members) → is_lt (slice_cmp nat_cmp a k) ≡ true → is_before_all a (member_names ms) ≡ true → is_before_all a (member_names (put k v ms)) ≡ true
before-put a k v no_members lt b = and _ _ lt refl
before-put a k v (member l d ms) lt b = go (slice_cmp nat_cmp k l) (before-put a k v ms lt parts.1)
  where
    parts : (is_lt (slice_cmp nat_cmp a l) ≡ true) × (is_before_all a (member_names ms) ≡ true)
    parts = both (is_lt (slice_cmp nat_cmp a l)) (is_before_all a (member_names ms)) b

    go : (o : Ordering) → is_before_all a (member_names (put k v ms)) ≡ true
        → is_before_all a (member_names (match_ordering o (member k v (member l d ms)) (member l v ms) (member l d (put k v ms)))) ≡ true
    go Less rest = and _ _ lt b
    go Equal rest = b
    go Greater rest = and _ _ parts.0 rest

pub rises-put : (k : List ℕ) (v : Data) (ms : Members) → rises ms ≡ true → rises (put k v ms) ≡ true
rises-put k v no_members r = refl
rises-put k v (member l d ms) r = go (slice_cmp nat_cmp k l) refl (rises-put k v ms parts.1)
  where
    parts : (is_before_all l (member_names ms) ≡ true) × (rises ms ≡ true)
    parts = both (is_before_all l (member_names ms)) (rises ms) r

    go : (o : Ordering) → slice_cmp nat_cmp k l ≡ o → rises (put k v ms) ≡ true
        → rises (match_ordering o (member k v (member l d ms)) (member l v ms) (member l d (put k v ms))) ≡ true
    go Less is rest = and _ _ (and _ _ (ap is_lt is) (before_all k l (member_names ms) (ap is_lt is) parts.0)) r
    go Equal is rest = r
    go Greater is rest = and _ _ (before-put l k v ms (less_from k l is) parts.0) rest

pub well-lookup : (k : List ℕ) (ms : Members) (d : Data) → values_are_well ms ≡ true → lookup k ms ≡ Some d → is_well d ≡ true
well-lookup k no_members d w has = absurd cc
well-lookup k (member l e ms) d w has = go (bytes_eq l k) has (well-lookup k ms d parts.1)
  where
    parts : (is_well e ≡ true) × (values_are_well ms ≡ true)
    parts = both (is_well e) (values_are_well ms) w

    go : (t : Bool) → cond t (Some e) (lookup k ms) ≡ Some d → (lookup k ms ≡ Some d → is_well d ≡ true) → is_well d ≡ true
    go true has rest = let same : e ≡ d = cc in subst (λ x. is_well x ≡ true) same parts.0
    go false has rest = rest has

pub well-without : (k : List ℕ) (ms : Members) → values_are_well ms ≡ true → values_are_well (without k ms) ≡ true
well-without k no_members w = refl
well-without k (member l d ms) w = go (bytes_eq l k) (well-without k ms parts.1)
  where
    parts : (is_well d ≡ true) × (values_are_well ms ≡ true)
    parts = both (is_well d) (values_are_well ms) w

    go : (t : Bool) → values_are_well (without k ms) ≡ true → values_are_well (cond t ms (member l d (without k ms))) ≡ true
    go true rest = parts.1
    go false rest = and _ _ parts.0 rest

pub well-put : (k : List ℕ) (v : Data) (ms : Members) → is_well v ≡ true → values_are_well ms ≡ true → values_are_well (put k v ms) ≡ true
well-put k v no_members h w = and _ _ h refl
well-put k v (member l d ms) h w = go (slice_cmp nat_cmp k l) (well-put k v ms h parts.1)
  where
    parts : (is_well d ≡ true) × (values_are_well ms ≡ true)
    parts = both (is_well d) (values_are_well ms) w

    go : (o : Ordering) → values_are_well (put k v ms) ≡ true → values_are_well (match_ordering o (member k v (member l d ms)) (member l v ms) (member l d (put k v ms))) ≡ true
    go Less rest = and _ _ h w
    go Equal rest = and _ _ h parts.1
    go Greater rest = and _ _ parts.0 rest

pub depth-lookup : (k : List ℕ) (ms : Members) (d : Data) → lookup k ms ≡ Some d → depth d ≤ members_depth ms
depth-lookup k no_members d has = absurd cc
depth-lookup k (member l e ms) d has = go (bytes_eq l k) has (depth-lookup k ms d)
  where
    go : (t : Bool) → cond t (Some e) (lookup k ms) ≡ Some d → (lookup k ms ≡ Some d → depth d ≤ members_depth ms) → depth d ≤ max (depth e) (members_depth ms)
    go true has rest = let same : depth e ≡ depth d = let is : e ≡ d = cc in ap depth is in omega arith
    go false has rest = let deep = rest has in omega arith

pub depth-without : (k : List ℕ) (ms : Members) → members_depth (without k ms) ≤ members_depth ms
depth-without k no_members = omega arith
depth-without k (member l d ms) = go (bytes_eq l k) (depth-without k ms)
  where
    go : (t : Bool) → members_depth (without k ms) ≤ members_depth ms → members_depth (cond t ms (member l d (without k ms))) ≤ max (depth d) (members_depth ms)
    go true rest = omega arith
    go false rest = omega arith

pub depth-put : (k : List ℕ) (v : Data) (ms : Members) → members_depth (put k v ms) ≤ max (depth v) (members_depth ms)
depth-put k v no_members = omega arith
depth-put k v (member l d ms) = go (slice_cmp nat_cmp k l) (depth-put k v ms)
  where
    go : (o : Ordering) → members_depth (put k v ms) ≤ max (depth v) (members_depth ms)
        → members_depth (match_ordering o (member k v (member l d ms)) (member l v ms) (member l d (put k v ms))) ≤ max (depth v) (max (depth d) (members_depth ms))
    go Less rest = omega arith
    go Equal rest = omega arith
    go Greater rest = omega arith
