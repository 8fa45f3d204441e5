use Rattle.std.proofs.Common.{◌≡◌, ◌∷◌, [], length, sym, ap, subst, ◌∙◌, arith}
use Rattle.std.specs.Vec.Iter.{into_iter_items}
use Rattle.version_store.specs.Index.{AreInOrder}
use Rattle.gateway_pick.specs.Tables.{name_cmp, name_of, all_changed}
use Rattle.gateway_pick.proofs.Placed.{order_changed, nothing_left}
use Rattle.gateway_pick.proofs.tables.make_changes.Goals as goal

pub make_change-requires-clause-ordered : goal.make_change-requires-clause-ordered
make_change-requires-clause-ordered c = c.loop-change.invariant.ordered

pub make_change-requires-clause-room : goal.make_change-requires-clause-room
make_change-requires-clause-room c =
    let at = c.loop-change in
    let steps : into_iter_items at.change-iterator ≡ c.in-Some.change ∷ into_iter_items c.next.new.self = c.in-Some.ensures.steps.0 in
    omega (arith, at.invariant.room, at.invariant.left, ap length steps)

pub loop-change-preserved : goal.loop-change-preserved
loop-change-preserved c =
    let at = c.loop-change in
    let steps : into_iter_items at.change-iterator ≡ c.in-Some.change ∷ into_iter_items c.next.new.self = c.in-Some.ensures.steps.0 in
    record {
      leads =
          ap (all_changed (into_iter_items c.next.new.self)) c.make_change.ensures.tables
          ∙ sym (ap (λ cs. all_changed cs at.tables.items) steps) ∙ at.invariant.leads;
      ordered = subst (AreInOrder name_of name_cmp) (sym c.make_change.ensures.tables) (order_changed c.in-Some.change at.tables.items at.invariant.ordered);
      room = omega (arith, at.invariant.room, c.in-Some.ensures.steps.1, c.make_change.ensures.len, c.make_change.ensures.capacity);
      left = omega (arith, at.invariant.left, c.in-Some.ensures.steps.1, ap length steps);
    }

pub returns : goal.returns
returns c =
    let at = c.loop-change in
    let none = c.in-None.ensures.steps in
    let empty : into_iter_items at.change-iterator ≡ [] = nothing_left _ (sym at.invariant.left ∙ none.0) in
    record { tables = ap (λ cs. all_changed cs at.tables.items) (sym empty) ∙ at.invariant.leads }
