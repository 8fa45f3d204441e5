use Rattle.std.proofs.Common.{refl, ◌∙◌, arith}
use Rattle.connection_loop.proofs.Loops.{begins, one_more, stops}
use Rattle.connection_loop.proofs.serving.serve_all.Goals as goal

pub loop-served-init : goal.loop-served-init
loop-served-init g c = record {
  listens = c.requires;
  address = refl;
  calm = refl;
  within = omega arith;
  progress = begins _ _;
}

pub returns-in-Some-clause-runs : goal.returns-in-Some-clause-runs
returns-in-Some-clause-runs g c = stops c.args.sessions c.loop-served.served _ _ _ _ _ _ c.in-Some.end c.loop-served-test.true
    (omega (arith, c.loop-served.invariant.calm)) c.loop-served.invariant.progress c.in-Some.ensures.turns

pub loop-served-preserved : goal.loop-served-preserved
loop-served-preserved g c = record {
  listens = c.turn.ensures.listens;
  address = c.turn.ensures.address ∙ c.loop-served.invariant.address;
  calm = c.in_default.ensures.calm (λ e. cc) ∙ c.loop-served.invariant.calm;
  within = omega (arith, c.loop-served-test.true);
  progress = one_more c.loop-served.served _ _ _ _ _ _ c.loop-served.invariant.progress c.in_default.ensures.turns;
}
