-- What is promised of a plane, whatever happened to it.
use Rattle.std.specs.Prelude.{ℕ, ◌+◌, ◌*◌, ◌≤◌, length}
use Rattle.control_rules.specs.Slots.{Plane, present}
use Rattle.control_rules.specs.Safe.{IsSafe, RemovesUnused}
use Rattle.control_rules.specs.Times.{HasTransitionTimes}
use Rattle.control_rules.specs.Turns.{IsSettle, turn_bound, linear_turn_bound, KeepsTables}
use Rattle.control_rules.specs.Final.{IsFinal}
use Rattle.control_rules.specs.Quiet.{IsQuiet}

-- what a settle that takes t turns and leads to v comes to
pub record IsGoodSettle (w : Plane) (t : ℕ) (v : Plane) : Type 0 where
  pub quiet : IsQuiet v.settings (present v) v.now
  pub final : IsFinal v.settings (present v) v.now
  pub bound : t ≤ turn_bound (length (present w))
  pub linear : t ≤ linear_turn_bound (length (present w))
  pub soon : t ≤ 30 + 14 * length (present w)

pub record Promises (w : Plane) : Type 0 where
  -- at every position of the journal the Tables are safe, and what was removed wasn't used
  pub safe : (n : ℕ) → n ≤ length w.journal → IsSafe w.journal n
  pub unused : (n : ℕ) → RemovesUnused w.journal n
  pub times : (n : ℕ) → n ≤ length w.journal → HasTransitionTimes w.journal n
  -- it settles; each settle ends in the final state, soon; its Tables are those of an early turn
  pub settles : (t : ℕ) × (v : Plane) × IsSettle w t v
  pub settled : (t : ℕ) (v : Plane) → IsSettle w t v → IsGoodSettle w t v
  pub tables : (t : ℕ) → KeepsTables w t
