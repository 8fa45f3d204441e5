use Rattle.std.proofs.Common.{drop, arith}
use Rattle.serve_io.proofs.EndLemmas.{consumes-front}
use Rattle.serve_io.proofs.mem_source.MemSourceSource.read.Goals as goal

pub returns-clause-bytes : goal.returns-clause-bytes
returns-clause-bytes c = (
  grind arith,
  grind arith,
  consumes-front c.args.self.now.bytes.items (drop c.min-count.result c.args.room.now) c.copy_from_slice.new.self c.args.self.now.at c.min-count.result (grind arith) (grind arith),
)
