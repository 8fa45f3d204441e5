use Rattle.std.proofs.Common.{Some, sym, ap, ◌∙◌}
use Rattle.std.specs.Ordering.{is_gt}
use Rattle.resource_types.specs.contracts.names.ControllerOrd.TheImpl as controller_order
use Rattle.resource_types.specs.declared.names.SlotKey.{SlotKey}
use Rattle.resource_types.specs.Lookups.{state}
use Rattle.step_scheduler.specs.Passes.{is_next}
use Rattle.step_scheduler.proofs.Ahead.{row_found, row_passed, rows_past, ends_later}
use Rattle.step_scheduler.proofs.passes.first_next.Goals as goal

pub loop-row-init : goal.loop-row-init
loop-row-init g c = c.rows_ahead-row-items.ensures.next (state c.args.store.now.entries)

pub returns-then-is_gt : goal.returns-then-is_gt
returns-then-is_gt g c =
    let st = state c.args.store.now.entries in
    let later = ap (λ (k : SlotKey). is_gt (controller_order.ghosts.cmp k.controller c.args.controller)) (sym c.key-key.ensures) ∙ ap is_gt (sym c.cmp.ensures) ∙ sym c.is_gt.ensures ∙ c.if-is_gt.true in
    sym (ends_later g.R.Keyed.key c.args.controller c.args.last.now st c.rows_ahead-row-items.result.now c.loop-row.row-index c.row-item.result c.loop-row-test.true c.row-item.is later c.rows_ahead-row-items.ensures.ordered)
    ∙ c.loop-row.invariant

pub returns-then-is_next : goal.returns-then-is_next
returns-then-is_next g c =
    let next = is_next c.args.controller c.args.last.now (state c.args.store.now.entries) in
    ap Some c.key-key.ensures
    ∙ row_found g.R.Keyed.key next c.rows_ahead-row-items.result.now c.loop-row.row-index c.row-item.result c.loop-row-test.true c.row-item.is (ap next (sym c.key-key.ensures) ∙ sym c.is_next.ensures ∙ c.if-is_next.true)
    ∙ c.loop-row.invariant

pub loop-row-preserved : goal.loop-row-preserved
loop-row-preserved g c =
    let next = is_next c.args.controller c.args.last.now (state c.args.store.now.entries) in
    row_passed g.R.Keyed.key next c.rows_ahead-row-items.result.now c.loop-row.row-index c.row-item.result c.loop-row-test.true c.row-item.is (ap next (sym c.key-key.ensures) ∙ sym c.is_next.ensures ∙ c.if-is_next.false)
    ∙ c.loop-row.invariant

pub returns : goal.returns
returns g c =
    let next = is_next c.args.controller c.args.last.now (state c.args.store.now.entries) in
    sym (rows_past g.R.Keyed.key next c.rows_ahead-row-items.result.now c.loop-row.row-index c.loop-row-test.false) ∙ c.loop-row.invariant
