use Rattle.std.proofs.Common.{◌≡◌, ◌≤◌, ◌-◌, length, take, drop}
use Rattle.std.specs.Io.KnownBytes.{Appends}
use Rattle.std.specs.Prelude.{Bool}
use Rattle.serve_io.specs.Whole.{WritesRest}
use Rattle.serve_io.proofs.whole.write_whole.Given as goal

abbrev pub invariant-loop-at : goal.invariant-loop-at
invariant-loop-at g l = record {
  within : l.at ≤ length l.bytes;
  later : g.K.Sink.faults l.initial.sink ≤ g.K.Sink.faults l.sink;
  calm : g.K.Sink.faults l.sink ≡ g.K.Sink.faults l.initial.sink;
  rest :
      (sent : Bool) (new : _) → WritesRest g.K.Sink.writes l.sink (drop l.at l.bytes) sent new
      → WritesRest g.K.Sink.writes l.initial.sink l.bytes sent new;
  added : Appends (g.K.Sink.taken l.initial.sink) (g.K.Sink.taken l.sink) (take l.at l.bytes);
}

abbrev pub decreases-loop-at : goal.decreases-loop-at
decreases-loop-at g l = length l.bytes - l.at
