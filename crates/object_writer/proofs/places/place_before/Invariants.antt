use Rattle.std.proofs.Common.{◌≡◌, take, true}
use Rattle.json_tree.specs.Tree.{is_after_all, names_of}
use Rattle.object_writer.proofs.places.place_before.Given as goal

abbrev pub invariant-places : goal.invariant-places
invariant-places g l = is_after_all l.name (names_of (take l.place l.entries)) ≡ true
