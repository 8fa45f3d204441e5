use Rattle.std.proofs.Common.{arith, ap, length}
use Rattle.http_session.proofs.ReadLemmas.{refills_then, refills_enough}
use Rattle.http_session.proofs.desk.read_until.Goals as goal

pub returns-in_default-clause-bytes : goal.returns-in_default-clause-bytes
returns-in_default-clause-bytes g c =
    refills_then _ _ _ _ _ _ _ _ _ _ _ _ c.read_more.result c.loop-window.invariant.takes c.read_more.ensures.bytes

pub returns-in_default-clause-missing : goal.returns-in_default-clause-missing
returns-in_default-clause-missing g c = λ ne. omega (arith, ap length (c.read_more.ensures.kept ne))

pub returns-clause-bytes : goal.returns-clause-bytes
returns-clause-bytes g c =
    refills_enough _ _ _ _ _ _ _ _ c.args.wanted c.loop-window.invariant.takes c.requires.missing (omega arith)
