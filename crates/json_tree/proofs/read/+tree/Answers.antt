use Rattle.std.proofs.Common.{◌≡◌, [], ◌∷◌, ◌++◌, string_bytes, sym, ap, ◌∙◌, rules, arith, append_assoc}
use Rattle.serde_json.specs.View.{members_view}
use Rattle.serde_json.specs.Written.{members_have_float}
use Rattle.serde_json.proofs.Views.{Entry}
use Rattle.json_tree.specs.Tree.{data_of, table_data, values_are_well}
use Rattle.json_tree.proofs.Facts.{then_member, rises-sorted, table_data-push, members_view-push}
use Rattle.json_tree.proofs.read.+tree.Goals as goal

pub table_of-loop-key-preserved : goal.table_of-loop-key-preserved
table_of-loop-key-preserved t c =
    let l = c.loop-key in
    let done = l.invariant.0 in
    let e : Entry = (c.in-Some.key.now, c.in-Some.member.now) in
    let left = c.next.new.self in
    let steps : l.key-iterator ≡ e ∷ left = c.in-Some.ensures.steps in
    let named : c.in_ok-name.name ≡ string_bytes e.0 = search rules in
    let pushed = ap table_data c.in_ok-add.ensures.ok ∙ table_data-push l.found.entries c.in_ok-name.name c.in_ok-json.json in
    let same : then_member (table_data l.found.entries) c.in_ok-name.name (data_of c.in_ok-json.json) ≡ members_view (done ++ e ∷ []) =
    rw (l.invariant.2, named, c.in_ok-json.ensures.data) (sym (members_view-push done e)) in (
      done ++ e ∷ [],
      l.invariant.1 ∙ ap (λ es. done ++ es) steps ∙ sym (append_assoc done (e ∷ []) left),
      pushed ∙ same,
      l.invariant.3 ∙ ap (λ es. values_are_well (members_view es)) steps ∙ grind (arith, c.in_ok-json.ensures.well),
      l.invariant.4 ∙ ap (λ es. members_have_float (members_view es)) steps ∙ grind (arith, c.in_ok-json.ensures.whole),
    )

pub table_of-returns-clause-rises : goal.table_of-returns-clause-rises
table_of-returns-clause-rises t c = rises-sorted c.args.members.now.entries c.iter-key-items.ensures.ordered
