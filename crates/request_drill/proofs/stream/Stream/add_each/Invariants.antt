use Rattle.std.proofs.Common.{◌≡◌}
use Rattle.request_drill.specs.Generated.{number_at, each_place}
use Rattle.request_drill.specs.Streams.{Adds, part}
use Rattle.request_drill.proofs.stream.Stream.add_each.Given as goal

abbrev pub invariant-loop-before : goal.invariant-loop-before
invariant-loop-before l = record {
  number : l.number ≡ number_at l.count l.before;
  adds : Adds l.fn.self l.self (each_place (part l.kind) l.count l.before);
}
