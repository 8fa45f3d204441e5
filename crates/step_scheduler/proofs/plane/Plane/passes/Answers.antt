use Rattle.step_scheduler.proofs.Chains.{then_worked, then_calm, turn_is}
use Rattle.step_scheduler.proofs.plane.Plane.passes.Goals as goal

pub returns-in_err-pass-2-clause-works : goal.returns-in_err-pass-2-clause-works
returns-in_err-pass-2-clause-works c = then_worked c.pass.ensures.works c.pass-2.ensures.works

pub returns-in_err-pass-3-clause-works : goal.returns-in_err-pass-3-clause-works
returns-in_err-pass-3-clause-works c = then_worked (then_worked c.pass.ensures.works c.pass-2.ensures.works) c.pass-3.ensures.works

pub returns-in_err-pass-4-clause-works : goal.returns-in_err-pass-4-clause-works
returns-in_err-pass-4-clause-works c = then_worked (then_worked (then_worked c.pass.ensures.works c.pass-2.ensures.works) c.pass-3.ensures.works) c.pass-4.ensures.works

pub returns-in_err-pass-5-clause-works : goal.returns-in_err-pass-5-clause-works
returns-in_err-pass-5-clause-works c =
    then_worked (then_worked (then_worked (then_worked c.pass.ensures.works c.pass-2.ensures.works) c.pass-3.ensures.works) c.pass-4.ensures.works) c.pass-5.ensures.works

pub returns-clause-works : goal.returns-clause-works
returns-clause-works c =
    then_worked (then_worked (then_worked (then_worked c.pass.ensures.works c.pass-2.ensures.works) c.pass-3.ensures.works) c.pass-4.ensures.works) c.pass-5.ensures.works

pub returns-clause-ok : goal.returns-clause-ok
returns-clause-ok c =
    turn_is _ _ _ _ _ _ c.in_ok-pass.ensures.ok c.in_ok-pass-2.ensures.ok c.in_ok-pass-3.ensures.ok c.in_ok-pass-4.ensures.ok c.in_ok-pass-5.ensures.ok

pub returns-in_err-pass-2-clause-calm : goal.returns-in_err-pass-2-clause-calm
returns-in_err-pass-2-clause-calm c = then_calm c.pass.ensures.calm c.pass-2.ensures.calm

pub returns-in_err-pass-3-clause-calm : goal.returns-in_err-pass-3-clause-calm
returns-in_err-pass-3-clause-calm c = then_calm (then_calm c.pass.ensures.calm c.pass-2.ensures.calm) c.pass-3.ensures.calm

pub returns-in_err-pass-4-clause-calm : goal.returns-in_err-pass-4-clause-calm
returns-in_err-pass-4-clause-calm c = then_calm (then_calm (then_calm c.pass.ensures.calm c.pass-2.ensures.calm) c.pass-3.ensures.calm) c.pass-4.ensures.calm

pub returns-in_err-pass-5-clause-calm : goal.returns-in_err-pass-5-clause-calm
returns-in_err-pass-5-clause-calm c = then_calm (then_calm (then_calm (then_calm c.pass.ensures.calm c.pass-2.ensures.calm) c.pass-3.ensures.calm) c.pass-4.ensures.calm) c.pass-5.ensures.calm

pub returns-clause-calm : goal.returns-clause-calm
returns-clause-calm c = then_calm (then_calm (then_calm (then_calm c.pass.ensures.calm c.pass-2.ensures.calm) c.pass-3.ensures.calm) c.pass-4.ensures.calm) c.pass-5.ensures.calm
