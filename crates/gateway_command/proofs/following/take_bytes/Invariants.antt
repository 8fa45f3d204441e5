use Rattle.std.proofs.Common.{ℕ, ◌++◌, List, take}
use Rattle.gateway_command.specs.Lines.{HasRead}
use Rattle.gateway_command.proofs.following.take_bytes.Given as goal

abbrev pub invariant-loop-byte : goal.invariant-loop-byte
invariant-loop-byte l = (bytes : List ℕ) → HasRead bytes l.initial.gateway l.initial.line.items → HasRead (bytes ++ take l.byte-index l.piece) l.gateway l.line.items
