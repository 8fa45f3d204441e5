use Rattle.std.proofs.Common.{◌∙◌, sym}
use Rattle.std.proofs.lemmas.Result.{err_from_is_err_and}
use Rattle.validation.proofs.Steps.{then_ok, then_err, target_step, targets_done}
use Rattle.validation.proofs.targets.check_each_target.Goals as goal

pub returns-in_err-check_target : goal.returns-in_err-check_target
returns-in_err-check_target c =
    let p = err_from_is_err_and c.from_residual.result c.from_residual.ensures.1 in
    rw (p.1, p.2) (then_err _ _ _ _
    (target_step c.args.kind c.args.name.now c.args.targets.now c.loop-index.index c.index-targets-index.result c.loop-index-test.true c.index-targets-index.is ∙ c.loop-index.invariant)
    (sym c.check_target.ensures ∙ c.in_err-check_target.was))

pub loop-index-preserved : goal.loop-index-preserved
loop-index-preserved c =
    then_ok _ _ _ _
    (target_step c.args.kind c.args.name.now c.args.targets.now c.loop-index.index c.index-targets-index.result c.loop-index-test.true c.index-targets-index.is ∙ c.loop-index.invariant)
    (sym c.check_target.ensures ∙ c.in_ok-check_target.was)

pub returns : goal.returns
returns c = sym (targets_done c.args.kind c.args.name.now c.args.targets.now c.loop-index.index c.loop-index-test.false) ∙ c.loop-index.invariant
