use Rattle.std.proofs.Common.{◌≡◌, take}
use Rattle.json_tree.proofs.alike.slices_are_equal.Given as goal

abbrev pub invariant-loop-place : goal.invariant-loop-place
invariant-loop-place g l = take l.place l.one ≡ take l.place l.two
