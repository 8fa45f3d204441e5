use Rattle.std.proofs.Common.{◌≤◌, arith, rules}
use Rattle.request_drill.proofs.Running.{counts, stops}
use Rattle.request_drill.proofs.tally.Tally.run.Goals as goal

pub returns-in-Memory-clause-same : goal.returns-in-Memory-clause-same
returns-in-Memory-clause-same c = (stops c.args.stream.items _ _ _ (rw c.in-Memory.is at c.session-report.ensures.finishes) c.new-source.ensures c.requires.still).0

pub returns-in-Memory-clause-err : goal.returns-in-Memory-clause-err
returns-in-Memory-clause-err c = (stops c.args.stream.items _ _ _ (rw c.in-Memory.is at c.session-report.ensures.finishes) c.new-source.ensures c.requires.still).1

pub returns : goal.returns
returns c =
    let h : c.session-report.result.answered ≤ 18446744073709551615 = search rules in
    let both = counts c.args.stream.items _ _ _ _ c.session-report.ensures.finishes c.in_default.not-Memory c.new-source.ensures c.requires.short c.requires.start h
    (λ rose. omega (arith, rose)) (λ rose. omega (arith, rose)) in
    record { same = both.0; ok = both.1; err = tt }
