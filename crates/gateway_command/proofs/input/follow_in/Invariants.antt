use Rattle.std.proofs.Common.{◌≡◌, ◌-◌, ◌≤◌, length}
use Rattle.gateway_command.proofs.Inputs.{Taken}
use Rattle.gateway_command.proofs.input.follow_in.Given as goal

abbrev pub invariant-reads : goal.invariant-reads
invariant-reads g l = record {
  taken : Taken (g.S.Source.left l.initial.source) (g.S.Source.left l.source) l.taken l.gateway l.line.items;
  few : l.taken ≤ 4294967295;
  room : length l.room ≡ 65536;
  calm : g.S.Source.faults l.source ≡ g.S.Source.faults l.initial.source;
}

abbrev pub decreases-reads : goal.decreases-reads
decreases-reads g l = 4294967295 - l.taken
