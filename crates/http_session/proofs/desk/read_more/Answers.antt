use Rattle.std.proofs.Common.{arith}
use Rattle.http_session.proofs.ReadLemmas.{refills_end}
use Rattle.http_session.proofs.desk.read_more.Goals as goal

pub returns-in-Got-clause-bytes : goal.returns-in-Got-clause-bytes
returns-in-Got-clause-bytes g c =
    let f = c.in-Got.ensures.bytes in record {
      takes = record {
        chunk = f.0;
        held = f.4;
        total = omega (arith, f.1);
        consumed = f.5;
        later = c.in-Got.ensures.cause.later;
      };
      stops = omega (arith, f.1, f.2);
    }

pub returns-in-End-clause-bytes : goal.returns-in-End-clause-bytes
returns-in-End-clause-bytes g c =
    let f = c.in-End.ensures.bytes in
    refills_end _ _ _ _ _ _ _ f.2 c.in-End.ensures.cause.later f.0 f.1 (omega arith)
