use Rattle.std.proofs.Common.{◌≡◌, drop}
use Rattle.std.specs.Prelude.{slice_get}
use Rattle.control_rules.specs.Slots.{names_of}
use Rattle.slot_keys.proofs.nearest.first_of.Given as goal

-- the first of the objects that are left
abbrev pub invariant-loop-place : goal.invariant-loop-place
invariant-loop-place l = slice_get (names_of l.kind (drop l.place l.objects)) 0 ≡ slice_get (names_of l.kind l.objects) 0
