use Rattle.std.proofs.Common.{◌≡◌, take}
use Rattle.json_tree.proofs.members.Table.copy.Given as goal

abbrev pub invariant-loop-entry : goal.invariant-loop-entry
invariant-loop-entry g l = l.copies.entries ≡ take l.entry-index l.self.entries
