use Rattle.std.proofs.Common.{arith}
use Rattle.json_tree.proofs.Facts.{data_of-Obj}
use Rattle.json_tree.proofs.value.+depth.Goals as goal

pub Json::fits-returns-then-levels-gt0-2 : goal.Json::fits-returns-then-levels-gt0-2
Json::fits-returns-then-levels-gt0-2 t c = rw (c.in-Obj.is, data_of-Obj c.in-Obj.members) (grind arith)
