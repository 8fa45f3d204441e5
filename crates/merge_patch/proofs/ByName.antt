-- What each name has in a merge.
use Rattle.std.proofs.Common.{◌≡◌, ℕ, Bool, true, false, cond, List, Some, refl, sym, ap, subst, ◌∙◌}
use Rattle.std.specs.Str.{bytes_eq}
use Rattle.serde_json.specs.Data.{Data, Members, no_members, member, null, boolean, number, string, array, object}
use Rattle.json_tree.specs.Tree.{is_well, values_are_well, rises, member_names, is_before_all}
use Rattle.merge_patch.specs.Merge.{members_of, lookup, merge_of, merged}
use Rattle.merge_patch.specs.Members.{by_change, IsMerge}
use Rattle.merge_patch.proofs.Names.{same_name, both}
use Rattle.merge_patch.proofs.Laws.{changed, members_rise, rises-changed, rises-merged, lookup-changed, lookup-changed-other, lookup-merged}

-- the name of the first change has what that change makes of it, since no later change has its name
lookup-first : (k : List ℕ) (d : Data) (ms changes : Members) → rises ms ≡ true → is_before_all k (member_names changes) ≡ true → lookup k (merged (changed k d ms) changes) ≡ by_change (Some d) (lookup k ms)
lookup-first k d ms changes r b = lookup-merged k (changed k d ms) changes b ∙ lookup-changed k d ms r

-- each name has what its change makes of what it had
pub lookup-by_change : (name : List ℕ) (ms changes : Members) → rises ms ≡ true → rises changes ≡ true → lookup name (merged ms changes) ≡ by_change (lookup name changes) (lookup name ms)
lookup-by_change name ms no_members r s = refl
lookup-by_change name ms (member k d changes) r s = go (bytes_eq k name) refl (lookup-by_change name (changed k d ms) changes (rises-changed k d ms r) order.1)
  where
    order : (is_before_all k (member_names changes) ≡ true) × (rises changes ≡ true)
    order = both (is_before_all k (member_names changes)) (rises changes) s

    go : (t : Bool) → bytes_eq k name ≡ t → lookup name (merged (changed k d ms) changes) ≡ by_change (lookup name changes) (lookup name (changed k d ms))
        → lookup name (merged (changed k d ms) changes) ≡ by_change (cond t (Some d) (lookup name changes)) (lookup name ms)
    go true is rest = subst (λ n. lookup n (merged (changed k d ms) changes) ≡ by_change (Some d) (lookup n ms)) (same_name k name is) (lookup-first k d ms changes r order.0)
    go false is rest = rest ∙ ap (by_change (lookup name changes)) (lookup-changed-other k name d ms is)

-- the merge of two values that are well formed is what each name says
pub merge_of-IsMerge : (t p : Data) → is_well t ≡ true → is_well p ≡ true → IsMerge t p (merge_of t p)
merge_of-IsMerge t null w v = refl
merge_of-IsMerge t (boolean b) w v = refl
merge_of-IsMerge t (number n) w v = refl
merge_of-IsMerge t (string s) w v = refl
merge_of-IsMerge t (array ds) w v = refl
merge_of-IsMerge t (object changes) w v =
    let rise = members_rise t w in
    let parts = both (rises changes) (values_are_well changes) v in (
      merged (members_of t) changes,
      refl,
      record { rise = rises-merged (members_of t) changes rise; named = λ name. lookup-by_change name (members_of t) changes rise parts.0 },
    )

-- so is each value that is equal to the merge
pub is_merge : (t p all : Data) → all ≡ merge_of t p → is_well t ≡ true → is_well p ≡ true → IsMerge t p all
is_merge t p all same w v = subst (IsMerge t p) (sym same) (merge_of-IsMerge t p w v)
