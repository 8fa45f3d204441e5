use Rattle.std.proofs.Common.{◌≡◌, ◌≤◌, ◌∙◌, true, max, ℕ, List, arith, ap, ap₂, sym, subst}
use Rattle.serde_json.specs.Data.{Data, Members, object, depth}
use Rattle.json_tree.specs.Tree.{data_of, depth_of, is_well, table_data}
use Rattle.json_tree.specs.declared.value.Json.{Json}
use Rattle.json_tree.proofs.Laws.{data_of-object}
use Rattle.merge_patch.specs.Merge as spec
use Rattle.merge_patch.proofs.Laws.{well-inside, well-members_of, well-merge_of, depth-merge_of, merge_of-again}
use Rattle.merge_patch.proofs.ByName.{is_merge}
use Rattle.merge_patch.proofs.Steps.{item_depth, item_well, one_change}
use Rattle.merge_patch.proofs.patch.+merge.Goals as goal

pub change_all-merge-requires : goal.change_all-merge-requires
change_all-merge-requires t c =
    let all : Members = table_data c.loop-change.all.entries in
    let old : data_of c.take-rest.result.1 ≡ spec.value_or_null c.change-item.result.0 all = c.take-rest.ensures.value ∙ ap (λ (n : List ℕ). spec.value_or_null n all) c.as_str.ensures in
    let deep = item_depth c.args.changes.now c.loop-change.change-index c.change-item.result c.loop-change-test.true c.change-item.is in (
      omega (arith, deep, c.decreases),
      (
        subst (λ (d : Data). is_well d ≡ true) (sym old) (well-inside c.change-item.result.0 all c.loop-change.invariant.well),
        item_well c.args.changes.now c.loop-change.change-index c.change-item.result c.loop-change-test.true c.change-item.is c.requires.changes,
      ),
    )

pub change_all-loop-change-preserved : goal.change_all-loop-change-preserved
change_all-loop-change-preserved t c =
    let all : Members = table_data c.loop-change.all.entries in
    let k : List ℕ = c.change-item.result.0 in
    let d : Data = data_of c.change-item.result.1 in
    let rest = c.take-rest.ensures.rest ∙ ap (λ (n : List ℕ). spec.without n all) c.as_str.ensures in
    let old = c.take-rest.ensures.value ∙ ap (λ (n : List ℕ). spec.value_or_null n all) c.as_str.ensures in
    let new = c.in_ok-new.ensures.value ∙ ap (λ (x : Data). spec.merge_of x d) old in
    let put = c.in_ok-all.ensures ∙ ap₂ (λ (x : Data) (ms : Members). spec.put_unless_null k x ms) new rest in
    let step = one_change c.loop-change.all.entries c.in_ok-all.all.entries c.args.changes.now c.loop-change.change-index c.change-item.result c.loop-change-test.true c.change-item.is c.loop-change.invariant.well c.requires.changes put in
    record { well = step.well; done = step.done ∙ c.loop-change.invariant.done }

pub merge-change_all-requires : goal.merge-change_all-requires
merge-change_all-requires t c =
    let members = c.members_of.ensures in
    let patch : data_of c.args.patch.now ≡ object (table_data c.entries.result.now) =
    ap data_of c.in-Obj.is ∙ data_of-object c.in-Obj.changes ∙ ap (λ (es : List (List ℕ × Json)). object (table_data es)) (sym c.entries.ensures) in (
      omega (arith, ap depth patch, c.decreases),
      (
        subst (λ (ms : Members). is_well (object ms) ≡ true) (sym members) (well-members_of (data_of c.args.target) c.requires.target),
        subst (λ (d : Data). is_well d ≡ true) patch c.requires.patch,
      ),
    )

pub merge-returns-in_ok-members-in-Obj-clause-value : goal.merge-returns-in_ok-members-in-Obj-clause-value
merge-returns-in_ok-members-in-Obj-clause-value t c =
    let patch : data_of c.args.patch.now ≡ object (table_data c.entries.result.now) =
    ap data_of c.in-Obj.is ∙ data_of-object c.in-Obj.changes ∙ ap (λ (es : List (List ℕ × Json)). object (table_data es)) (sym c.entries.ensures) in
    let all = c.in_ok-members-in-Obj.ensures ∙ ap (λ (ms : Members). spec.merged ms (table_data c.entries.result.now)) c.members_of.ensures in
    data_of-object c.in_ok-members-in-Obj.members ∙ ap object all ∙ ap (spec.merge_of (data_of c.args.target)) (sym patch)

pub merge-returns-in_ok-members-in-Obj-clause-members : goal.merge-returns-in_ok-members-in-Obj-clause-members
merge-returns-in_ok-members-in-Obj-clause-members t c =
    is_merge (data_of c.args.target) (data_of c.args.patch.now) _ (merge-returns-in_ok-members-in-Obj-clause-value t c) c.requires.target c.requires.patch

pub merge-returns-in_ok-members-in-Obj-clause-well_formed : goal.merge-returns-in_ok-members-in-Obj-clause-well_formed
merge-returns-in_ok-members-in-Obj-clause-well_formed t c =
    subst (λ (d : Data). is_well d ≡ true) (sym (merge-returns-in_ok-members-in-Obj-clause-value t c)) (well-merge_of (data_of c.args.target) (data_of c.args.patch.now) c.requires.target c.requires.patch)

pub merge-returns-in_ok-members-in-Obj-clause-depth : goal.merge-returns-in_ok-members-in-Obj-clause-depth
merge-returns-in_ok-members-in-Obj-clause-depth t c =
    let most : ℕ = max (depth_of c.args.target) (depth_of c.args.patch.now) in
    subst (λ (d : Data). depth d ≤ most) (sym (merge-returns-in_ok-members-in-Obj-clause-value t c)) (depth-merge_of (data_of c.args.target) (data_of c.args.patch.now) most (omega arith) (omega arith))

pub merge-returns-in_ok-members-in-Obj-clause-again : goal.merge-returns-in_ok-members-in-Obj-clause-again
merge-returns-in_ok-members-in-Obj-clause-again t c =
    let value = merge-returns-in_ok-members-in-Obj-clause-value t c in
    ap (λ (d : Data). spec.merge_of d (data_of c.args.patch.now)) value
    ∙ merge_of-again (data_of c.args.target) (data_of c.args.patch.now) c.requires.target c.requires.patch ∙ sym value
