use Rattle.std.proofs.Common.{sym, ap, ◌∙◌, Some}
use Rattle.control_rules.specs.Differences.{ObjectPlan}
use Rattle.control_rules.specs.NextRoute.{drop_pin}
use Rattle.controller_parts.proofs.Firsts.{given-none, given-some}
use Rattle.route_rec.proofs.RouteDue.{repinned_as}
use Rattle.route_rec.proofs.spare.pin_spare.Goals as goal

pub returns-in_default : goal.returns-in_default
returns-in_default c = sym (given-none _ (sym c.in_default.ensures))

pub returns : goal.returns
returns c =
    ap (λ (p : ObjectPlan). Some p) (repinned_as _ _ _ _ _ _ c.repinned.ensures c.in_ok-copy.ensures
    (c.in_ok-pins.ensures ∙ ap (drop_pin c.args.route.now.name) c.pins.ensures))
    ∙ sym (given-some _ (sym c.in-Some.ensures))
