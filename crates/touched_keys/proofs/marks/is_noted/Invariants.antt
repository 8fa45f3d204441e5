use Rattle.std.proofs.Common.{◌≡◌}
use Rattle.control_touches.specs.Touches.{is_touched_since}
use Rattle.touched_keys.proofs.marks.is_noted.Given as goal

-- no entry up to this place touches the key
abbrev pub invariant-loop-place : goal.invariant-loop-place
invariant-loop-place l = is_touched_since l.fn.store.entries l.fn.upto l.fn.key ≡ is_touched_since l.fn.store.entries l.place l.fn.key
