use Rattle.std.proofs.Common.{rules, of_calls, map, sym, ap, subst, ◌∙◌}
use Rattle.std.specs.List.{find}
use Rattle.std.proofs.lemmas.Fn.{always_returns_same}
use Rattle.version_store.specs.Index.{AreInOrder}
use Rattle.resource_types.specs.contracts.names.SlotKeyOrd.TheImpl as slot_order
use Rattle.step_scheduler.specs.Passes.{is_next, is_passed}
use Rattle.step_scheduler.proofs.Ahead.{parted, rest_is, order_drop, found_ahead}
use Rattle.step_scheduler.proofs.passes.rows_ahead.Goals as goal

pub returns-clause-ordered : goal.returns-clause-ordered
returns-clause-ordered g c =
    subst (AreInOrder g.R.Keyed.key slot_order.ghosts.cmp) (sym (rest_is g.R.Keyed.key c.partition_point-passed.result c.args.rows.now))
    (order_drop g.R.Keyed.key c.partition_point-passed.result c.args.rows.now c.requires)

pub returns-clause-next : goal.returns-clause-next
returns-clause-next g c = λ st.
    let key_of = g.R.Keyed.key in
    let rows = c.args.rows.now in
    let next = is_next c.args.controller c.args.last.now st in
    let passed = λ (row : g.row.R.Denot). is_passed c.args.controller c.args.last.now (key_of row) in
    let same = always_returns_same _ _ _ (λ a r f k. search (rules, of_calls)) in
    let cut = c.partition_point-passed.ensures.partitioned passed same (parted key_of c.args.controller c.args.last.now rows c.requires) in
    ap (λ rs. find next (map key_of rs)) (rest_is key_of c.partition_point-passed.result rows) ∙ found_ahead key_of c.args.controller c.args.last.now st rows c.partition_point-passed.result cut.0
