use Rattle.std.proofs.Common.{◌≡◌, ◌-◌, ◌≤◌, length, take}
use Rattle.std.specs.Io.KnownBytes.{Consumes}
use Rattle.manifest_check.proofs.input.read_into.Given as goal

abbrev pub invariant-reads : goal.invariant-reads
invariant-reads g l = record {
  within : l.count ≤ length l.room;
  consumed : Consumes (g.S.Source.left l.initial.source) (g.S.Source.left l.source) (take l.count l.room);
  calm : g.S.Source.faults l.source ≡ g.S.Source.faults l.initial.source;
  later : g.S.Source.faults l.initial.source ≤ g.S.Source.faults l.source;
}

abbrev pub decreases-reads : goal.decreases-reads
decreases-reads g l = length l.room - l.count
