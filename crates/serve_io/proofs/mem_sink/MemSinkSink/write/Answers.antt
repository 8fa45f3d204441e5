use Rattle.std.proofs.Common.{arith}
use Rattle.serve_io.proofs.mem_sink.MemSinkSink.write.Goals as goal

pub returns-then-count-eq0-clause-cause : goal.returns-then-count-eq0-clause-cause
returns-then-count-eq0-clause-cause c = record { later = omega arith; rose = λ failed. omega arith }
