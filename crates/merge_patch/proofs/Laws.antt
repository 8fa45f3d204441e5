-- What a merge is: well formed, no deeper than the two, and the same when it is made again.
use Rattle.std.proofs.Common.{◌≡◌, ◌≤◌, ◌+◌, ◌-◌, ℕ, Bool, true, false, cond, List, nat_cmp, Option, Some, None, refl, ap, ◌∙◌, arith}
use Rattle.std.specs.Prelude.{unwrap_or}
use Rattle.std.specs.Cmp.Lexicographic.{slice_cmp}
use Rattle.std.specs.Ordering.{is_lt}
use Rattle.std.specs.Str.{bytes_eq}
use Rattle.serde_json.specs.Data.{Data, Members, no_members, member, null, boolean, number, string, array, object, put, depth, members_depth}
use Rattle.json_tree.specs.Tree.{is_well, values_are_well, rises, member_names, is_before_all}
use Rattle.merge_patch.specs.Merge.{is_null, members_of, lookup, without, value_or_null, put_unless_null, merge_of, merged}
use Rattle.merge_patch.proofs.Names.{less_back, both, and}
use Rattle.merge_patch.proofs.MembersLemmas.{lookup-without, lookup-without-other, lookup-put, lookup-put-other, without-none, put-without, put-own, rises-without, rises-put, well-lookup, well-without, well-put, depth-lookup, depth-without, depth-put}

-- the members after one of the changes
abbrev pub changed : List ℕ → Data → Members → Members
changed k d ms = cond (is_null d) (without k ms) (put k (merge_of (value_or_null k ms) d) ms)

-- ---- order, and values that are well formed

pub well-value_or_null : (k : List ℕ) (ms : Members) → values_are_well ms ≡ true → is_well (value_or_null k ms) ≡ true
well-value_or_null k ms w = go (lookup k ms) refl
  where
    go : (o : Option Data) → lookup k ms ≡ o → is_well (unwrap_or o null) ≡ true
    go (Some d) is = well-lookup k ms d w is
    go None is = refl

pub rises-changed : (k : List ℕ) (d : Data) (ms : Members) → rises ms ≡ true → rises (changed k d ms) ≡ true
rises-changed k d ms r = go (is_null d)
  where
    go : (t : Bool) → rises (cond t (without k ms) (put k (merge_of (value_or_null k ms) d) ms)) ≡ true
    go true = rises-without k ms r
    go false = rises-put k _ ms r

well-changed : (k : List ℕ) (d : Data) (ms : Members) → values_are_well ms ≡ true → is_well (merge_of (value_or_null k ms) d) ≡ true → values_are_well (changed k d ms) ≡ true
well-changed k d ms w v = go (is_null d)
  where
    go : (t : Bool) → values_are_well (cond t (without k ms) (put k (merge_of (value_or_null k ms) d) ms)) ≡ true
    go true = well-without k ms w
    go false = well-put k _ ms v w

pub rises-merged : (ms changes : Members) → rises ms ≡ true → rises (merged ms changes) ≡ true
rises-merged ms no_members r = r
rises-merged ms (member k d changes) r = rises-merged (changed k d ms) changes (rises-changed k d ms r)

pub members_rise : (t : Data) → is_well t ≡ true → rises (members_of t) ≡ true
members_rise null w = refl
members_rise (boolean b) w = refl
members_rise (number n) w = refl
members_rise (string s) w = refl
members_rise (array ds) w = refl
members_rise (object ms) w = (both (rises ms) (values_are_well ms) w).0

members_well : (t : Data) → is_well t ≡ true → values_are_well (members_of t) ≡ true
members_well null w = refl
members_well (boolean b) w = refl
members_well (number n) w = refl
members_well (string s) w = refl
members_well (array ds) w = refl
members_well (object ms) w = (both (rises ms) (values_are_well ms) w).1

mutual
  pub well-merge_of : (t p : Data) → is_well t ≡ true → is_well p ≡ true → is_well (merge_of t p) ≡ true
  well-merge_of t null w v = v
  well-merge_of t (boolean b) w v = v
  well-merge_of t (number n) w v = v
  well-merge_of t (string s) w v = v
  well-merge_of t (array ds) w v = v
  well-merge_of t (object changes) w v =
      let parts = both (rises changes) (values_are_well changes) v in
      and _ _ (rises-merged (members_of t) changes (members_rise t w)) (well-merged (members_of t) changes (members_well t w) parts.1)

  pub well-merged : (ms changes : Members) → values_are_well ms ≡ true → values_are_well changes ≡ true → values_are_well (merged ms changes) ≡ true
  well-merged ms no_members w v = w
  well-merged ms (member k d changes) w v =
      let parts = both (is_well d) (values_are_well changes) v in
      well-merged (changed k d ms) changes (well-changed k d ms w (well-merge_of (value_or_null k ms) d (well-value_or_null k ms w) parts.0)) parts.1

-- ---- depth

depth-value_or_null : (k : List ℕ) (ms : Members) → depth (value_or_null k ms) ≤ members_depth ms
depth-value_or_null k ms = go (lookup k ms) refl
  where
    go : (o : Option Data) → lookup k ms ≡ o → depth (unwrap_or o null) ≤ members_depth ms
    go (Some d) is = depth-lookup k ms d is
    go None is = omega arith

depth-changed : (k : List ℕ) (d : Data) (ms : Members) (n : ℕ) → members_depth ms ≤ n → depth (merge_of (value_or_null k ms) d) ≤ n → members_depth (changed k d ms) ≤ n
depth-changed k d ms n w v = go (is_null d)
  where
    go : (t : Bool) → members_depth (cond t (without k ms) (put k (merge_of (value_or_null k ms) d) ms)) ≤ n
    go true = let less = depth-without k ms in omega arith
    go false = let less = depth-put k (merge_of (value_or_null k ms) d) ms in omega arith

depth-members_of : (t : Data) (n : ℕ) → depth t ≤ n → 1 ≤ n → members_depth (members_of t) + 1 ≤ n
depth-members_of null n h one = omega arith
depth-members_of (boolean b) n h one = omega arith
depth-members_of (number m) n h one = omega arith
depth-members_of (string s) n h one = omega arith
depth-members_of (array ds) n h one = omega arith
depth-members_of (object ms) n h one = omega arith

mutual
  pub depth-merge_of : (t p : Data) (n : ℕ) → depth t ≤ n → depth p ≤ n → depth (merge_of t p) ≤ n
  depth-merge_of t null n h m = m
  depth-merge_of t (boolean b) n h m = m
  depth-merge_of t (number x) n h m = m
  depth-merge_of t (string s) n h m = m
  depth-merge_of t (array ds) n h m = m
  depth-merge_of t (object changes) n h m =
      let below = depth-members_of t n h (omega arith) in
      let inside = depth-merged (members_of t) changes (n - 1) (omega arith) (omega arith) in
      omega arith

  pub depth-merged : (ms changes : Members) (n : ℕ) → members_depth ms ≤ n → members_depth changes ≤ n → members_depth (merged ms changes) ≤ n
  depth-merged ms no_members n h m = h
  depth-merged ms (member k d changes) n h m =
      let at = depth-value_or_null k ms in
      depth-merged (changed k d ms) changes n (depth-changed k d ms n h (depth-merge_of (value_or_null k ms) d n (omega arith) (omega arith))) (omega arith)

-- ---- the same patch again

pub lookup-changed : (k : List ℕ) (d : Data) (ms : Members) → rises ms ≡ true → lookup k (changed k d ms) ≡ cond (is_null d) None (Some (merge_of (value_or_null k ms) d))
lookup-changed k d ms r = go (is_null d)
  where
    go : (t : Bool) → lookup k (cond t (without k ms) (put k (merge_of (value_or_null k ms) d) ms)) ≡ cond t None (Some (merge_of (value_or_null k ms) d))
    go true = lookup-without k ms r
    go false = lookup-put k (merge_of (value_or_null k ms) d) ms

pub lookup-changed-other : (k q : List ℕ) (d : Data) (ms : Members) → bytes_eq k q ≡ false → lookup q (changed k d ms) ≡ lookup q ms
lookup-changed-other k q d ms other = go (is_null d)
  where
    go : (t : Bool) → lookup q (cond t (without k ms) (put k (merge_of (value_or_null k ms) d) ms)) ≡ lookup q ms
    go true = lookup-without-other k q ms other
    go false = lookup-put-other k q (merge_of (value_or_null k ms) d) ms other

-- a name before those of the changes keeps its value
pub lookup-merged : (q : List ℕ) (ms changes : Members) → is_before_all q (member_names changes) ≡ true → lookup q (merged ms changes) ≡ lookup q ms
lookup-merged q ms no_members b = refl
lookup-merged q ms (member k d changes) b =
    let parts = both (is_lt (slice_cmp nat_cmp q k)) (is_before_all q (member_names changes)) b in
    lookup-merged q (changed k d ms) changes parts.1 ∙ lookup-changed-other k q d ms (less_back q k parts.0)

-- a change that has been made changes nothing more
changed-again : (k : List ℕ) (d x : Data) (ms : Members) → rises ms ≡ true → lookup k ms ≡ cond (is_null d) None (Some x) → merge_of x d ≡ x → changed k d ms ≡ ms
changed-again k d x ms r has same = go (is_null d) has
  where
    go : (t : Bool) → lookup k ms ≡ cond t None (Some x) → cond t (without k ms) (put k (merge_of (value_or_null k ms) d) ms) ≡ ms
    go true has = without-none k ms has
    go false has =
        let value : merge_of (value_or_null k ms) d ≡ x = ap (λ o. merge_of (unwrap_or o null) d) has ∙ same in
        ap (λ v. put k v ms) value ∙ put-own k x ms r has

-- none of the changes changes the members
abbrev pub IsSettled : Members → Members → Type 0
IsSettled ms no_members = Unit {0}
IsSettled ms (member k d changes) = (changed k d ms ≡ ms) × IsSettled ms changes

settled-merged : (ms changes : Members) → IsSettled ms changes → merged ms changes ≡ ms
settled-merged ms no_members s = refl
settled-merged ms (member k d changes) s = ap (λ x. merged x changes) s.0 ∙ settled-merged ms changes s.1

mutual
  pub merge_of-again : (t p : Data) → is_well t ≡ true → is_well p ≡ true → merge_of (merge_of t p) p ≡ merge_of t p
  merge_of-again t null w v = refl
  merge_of-again t (boolean b) w v = refl
  merge_of-again t (number n) w v = refl
  merge_of-again t (string s) w v = refl
  merge_of-again t (array ds) w v = refl
  merge_of-again t (object changes) w v =
      let parts = both (rises changes) (values_are_well changes) v in
      let settled = merged-settles (members_of t) changes (members_rise t w) (members_well t w) parts.0 parts.1 in
      ap object (settled-merged (merged (members_of t) changes) changes settled)

  merged-settles : (ms changes : Members) → rises ms ≡ true → values_are_well ms ≡ true → rises changes ≡ true → values_are_well changes ≡ true → IsSettled (merged ms changes) changes
  merged-settles ms no_members r w s v = tt
  merged-settles ms (member k d changes) r w s v =
      let order = both (is_before_all k (member_names changes)) (rises changes) s in
      let values = both (is_well d) (values_are_well changes) v in
      let inside = well-value_or_null k ms w in
      let now = rises-changed k d ms r in
      let value = well-changed k d ms w (well-merge_of (value_or_null k ms) d inside values.0) in
      let has = lookup-merged k (changed k d ms) changes order.0 ∙ lookup-changed k d ms r in (
        changed-again k d (merge_of (value_or_null k ms) d) (merged (changed k d ms) changes) (rises-merged (changed k d ms) changes now) has (merge_of-again (value_or_null k ms) d inside values.0),
        merged-settles (changed k d ms) changes now value order.1 values.1,
      )

-- ---- for one change

pub well-change : (k : List ℕ) (d : Data) (ms : Members) → is_well (object ms) ≡ true → is_well d ≡ true → is_well (object (changed k d ms)) ≡ true
well-change k d ms w v =
    let parts = both (rises ms) (values_are_well ms) w in
    let value = well-merge_of (value_or_null k ms) d (well-value_or_null k ms parts.1) v in
    and _ _ (rises-changed k d ms parts.0) (well-changed k d ms parts.1 value)

pub well-inside : (k : List ℕ) (ms : Members) → is_well (object ms) ≡ true → is_well (value_or_null k ms) ≡ true
well-inside k ms w = well-value_or_null k ms (both (rises ms) (values_are_well ms) w).1

pub well-members_of : (t : Data) → is_well t ≡ true → is_well (object (members_of t)) ≡ true
well-members_of t w = and _ _ (members_rise t w) (members_well t w)

is_null-merge_of : (t d : Data) → is_null (merge_of t d) ≡ is_null d
is_null-merge_of t null = refl
is_null-merge_of t (boolean b) = refl
is_null-merge_of t (number n) = refl
is_null-merge_of t (string s) = refl
is_null-merge_of t (array ds) = refl
is_null-merge_of t (object ms) = refl

-- a change takes the member away, and puts the merge back
pub put_back : (k : List ℕ) (d : Data) (ms : Members) → is_well (object ms) ≡ true → put_unless_null k (merge_of (value_or_null k ms) d) (without k ms) ≡ changed k d ms
put_back k d ms w =
    let new : Data = merge_of (value_or_null k ms) d in
    ap (λ t. cond t (without k ms) (put k new (without k ms))) (is_null-merge_of (value_or_null k ms) d)
    ∙ ap (λ x. cond (is_null d) (without k ms) x) (put-without k new ms (both (rises ms) (values_are_well ms) w).0)
