use Rattle.std.proofs.Common.{◌≡◌, ◌++◌}
use Rattle.std.specs.List.{filter}
use Rattle.std.specs.Vec.Iter.{into_iter_items}
use Rattle.step_scheduler.specs.Touched.{is_touched}
use Rattle.step_scheduler.proofs.plane.Plane.add_touched.Given as goal

-- the touched keys so far, and those that are left
abbrev pub invariant-loop-key : goal.invariant-loop-key
invariant-loop-key l =
    l.found.items ++ filter (is_touched l.self) (into_iter_items l.key-iterator) ≡ l.initial.found.items ++ filter (is_touched l.self) (into_iter_items l.initial.key-iterator)
