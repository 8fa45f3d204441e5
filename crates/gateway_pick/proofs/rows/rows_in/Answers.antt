use Rattle.std.proofs.Common.{refl}
use Rattle.std.proofs.lemmas.Result.{err_from_is_err_and}
use Rattle.gateway_pick.specs.Polls.{row_in, rows_in}
use Rattle.gateway_pick.proofs.Lists.{goes_on, ends, is_done, starts}
use Rattle.gateway_pick.proofs.rows.rows_in.Goals as goal

pub returns-in_err-row : goal.returns-in_err-row
returns-in_err-row c =
    let p = err_from_is_err_and c.from_residual-in_err-row.result c.from_residual-in_err-row.ensures.1 in
    rw (p.1, p.2) (ends row_in rows_in refl (λ j js. refl) c.in_err-row.field-0.0 c.loop-index.rows c.loop-index.index c.index-jsons-index.result c.args.jsons.now (rows_in c.args.jsons.now) c.loop-index-test.true c.index-jsons-index.is c.in_err-row.ensures c.loop-index.invariant)

pub loop-index-init : goal.loop-index-init
loop-index-init c = rw c.in_ok-rows.ensures (starts row_in rows_in refl (λ j js. refl) (rows_in c.args.jsons.now))

pub loop-index-preserved : goal.loop-index-preserved
loop-index-preserved c =
    rw c.in_ok-push.ensures.ok (goes_on row_in rows_in refl (λ j js. refl) c.loop-index.rows c.loop-index.index c.index-jsons-index.result c.args.jsons.now c.in_ok-row.row (rows_in c.args.jsons.now) c.loop-index-test.true c.index-jsons-index.is c.in_ok-row.ensures c.loop-index.invariant)

pub returns : goal.returns
returns c = is_done row_in rows_in refl (λ j js. refl) c.loop-index.rows c.loop-index.index c.args.jsons.now (rows_in c.args.jsons.now) c.loop-index-test.false c.loop-index.invariant
