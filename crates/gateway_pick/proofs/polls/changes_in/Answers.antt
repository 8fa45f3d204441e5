use Rattle.std.proofs.Common.{refl}
use Rattle.std.proofs.lemmas.Result.{err_from_is_err_and}
use Rattle.gateway_pick.specs.Polls.{change_in, changes_in}
use Rattle.gateway_pick.proofs.Lists.{goes_on, ends, is_done, starts}
use Rattle.gateway_pick.proofs.polls.changes_in.Goals as goal

pub returns-in_err-change : goal.returns-in_err-change
returns-in_err-change c =
    let p = err_from_is_err_and c.from_residual-in_err-change.result c.from_residual-in_err-change.ensures.1 in
    rw (p.1, p.2) (ends change_in changes_in refl (λ j js. refl) c.in_err-change.field-0.0 c.loop-index.changes c.loop-index.index c.index-jsons-index.result c.args.jsons.now (changes_in c.args.jsons.now) c.loop-index-test.true c.index-jsons-index.is c.in_err-change.ensures c.loop-index.invariant)

pub loop-index-init : goal.loop-index-init
loop-index-init c = rw c.in_ok-changes.ensures (starts change_in changes_in refl (λ j js. refl) (changes_in c.args.jsons.now))

pub loop-index-preserved : goal.loop-index-preserved
loop-index-preserved c =
    rw c.in_ok-push.ensures.ok (goes_on change_in changes_in refl (λ j js. refl) c.loop-index.changes c.loop-index.index c.index-jsons-index.result c.args.jsons.now c.in_ok-change.change (changes_in c.args.jsons.now) c.loop-index-test.true c.index-jsons-index.is c.in_ok-change.ensures c.loop-index.invariant)

pub returns : goal.returns
returns c = is_done change_in changes_in refl (λ j js. refl) c.loop-index.changes c.loop-index.index c.args.jsons.now (changes_in c.args.jsons.now) c.loop-index-test.false c.loop-index.invariant
