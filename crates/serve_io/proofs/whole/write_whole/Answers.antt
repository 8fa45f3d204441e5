use Rattle.std.proofs.Common.{◌∙◌, arith, length-drop, false}
use Rattle.serve_io.proofs.EndLemmas.{appends-more, WritesRest-took, WritesRest-failed}
use Rattle.serve_io.proofs.whole.write_whole.Goals as goal

pub loop-at-preserved : goal.loop-at-preserved
loop-at-preserved g c = record {
  within = omega (arith, c.in-Took.ensures.bytes.1, length-drop c.loop-at.at c.args.bytes.now);
  later = omega (arith, c.loop-at.invariant.later, c.write.ensures.cause.later);
  calm = c.in-Took.ensures.calm (λ e. cc) ∙ c.loop-at.invariant.calm;
  rest = λ sent new w.
      c.loop-at.invariant.rest sent new
      (WritesRest-took g.K.Sink.writes _ _ c.args.bytes.now c.loop-at.at c.in-Took.count c.in-Took.ensures.bytes.0 c.in-Took.ensures.bytes.1 c.in-Took.ensures.writes sent new w);
  added = appends-more _ _ _ c.args.bytes.now c.loop-at.at c.in-Took.count c.loop-at.invariant.added c.in-Took.ensures.bytes.2;
}

pub returns-in-Failed-clause-rest : goal.returns-in-Failed-clause-rest
returns-in-Failed-clause-rest g c =
    c.loop-at.invariant.rest false _
    (WritesRest-failed g.K.Sink.writes _ _ c.args.bytes.now c.loop-at.at (omega (arith, c.loop-at-test.true)) c.in-Failed.ensures.writes)
