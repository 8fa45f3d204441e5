use Rattle.std.proofs.Common.{◌<◌, ℕ, List, length, sym, subst}
use Rattle.request_drill.proofs.Lengths.{generated_short}
use Rattle.request_drill.proofs.command.lines_of_run.Goals as goal

pub run-requires-clause-short : goal.run-requires-clause-short
run-requires-clause-short c = subst (λ (bytes : List ℕ). length bytes < 4294967295) (sym c.in_ok-stream.ensures.bytes) (generated_short c.args.count c.requires)
