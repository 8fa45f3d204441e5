use Rattle.std.proofs.Common.{◌≡◌, ◌+◌, drop}
use Rattle.serve_names.specs.Durations.{run_of}
use Rattle.serve_names.proofs.durations.leading_digits.Given as goal

abbrev pub invariant-loop-i : goal.invariant-loop-i
invariant-loop-i l = run_of l.bytes ≡ l.i + run_of (drop l.i l.bytes)
