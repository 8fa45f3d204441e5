use Rattle.std.proofs.Common.{◌≡◌, take}
use Rattle.json_tree.proofs.alike.+alike.Given as goal

abbrev pub invariant-items_are_equal-loop-place : goal.invariant-items_are_equal-loop-place
invariant-items_are_equal-loop-place l = take l.place l.one ≡ take l.place l.two

abbrev pub invariant-members_are_equal-loop-place : goal.invariant-members_are_equal-loop-place
invariant-members_are_equal-loop-place l = take l.place l.one ≡ take l.place l.two
