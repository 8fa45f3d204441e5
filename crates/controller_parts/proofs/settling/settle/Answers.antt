use Rattle.std.proofs.Common.{sym, ap, ◌∙◌, Some}
use Rattle.std.specs.Prelude.{not}
use Rattle.control_rules.specs.Differences.{ObjectPlan}
use Rattle.controller_parts.proofs.Firsts.{when-true, when-false}
use Rattle.controller_parts.proofs.Puts.{settled_as}
use Rattle.controller_parts.proofs.settling.settle.Goals as goal

pub returns-then-has : goal.returns-then-has
returns-then-has c = sym (when-false _ (ap not (sym c.in_ok-has.ensures ∙ c.if-has.true)))

pub returns : goal.returns
returns c =
    ap (λ (p : ObjectPlan). Some p) (settled_as c.args.object.now c.in_ok-copy.field-0 c.args.status c.args.now c.in_ok-copy.ensures)
    ∙ sym (when-true _ (ap not (sym c.in_ok-has.ensures ∙ c.if-has.false)))
