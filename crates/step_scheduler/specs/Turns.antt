-- What work and turns come to.
use Rattle.std.specs.Prelude.{◌≡◌, ℕ, ◌+◌, ◌^◌, ◌<◌, ◌≤◌, length}
use Rattle.manifest_intake.specs.Good.{is_good}
use Rattle.control_rules.specs.Facts.{IsKept}
use Rattle.control_rules.specs.Events.{Works}
use Rattle.control_rules.specs.Slots.{Plane}
use Rattle.control_rules.specs.Turns.{turn_of, turns_of, entries_of_turn, IsStill}
use Rattle.step_scheduler.specs.Planes.{PlaneView}
use Rattle.step_scheduler.specs.Touched.{IsUntouched, TouchesSame}

-- some work was done, each step whole; turns aren't counted by it
pub record IsWorked (old new : PlaneView) : Type 0 where
  pub works : Works old.plane new.plane
  pub looks : old.looks ≤ new.looks
  pub turns : new.turns ≡ old.turns

-- nothing was looked at and nothing was written, and the same keys are touched
pub record StaysCalm (old new : PlaneView) : Type 0 where
  pub journal : new.plane.journal ≡ old.plane.journal
  pub touched : TouchesSame old new
  pub looks : new.looks ≡ old.looks

-- the plane is that after a turn, and the number that of its entries
pub record IsTurn (w v : Plane) (entries : ℕ) : Type 0 where
  pub is : v ≡ turn_of w
  pub count : entries ≡ entries_of_turn w

-- so many turns were made, and each made an entry; the journal has `version` entries
pub record IsSettling (start w : Plane) (turns version : ℕ) : Type 0 where
  pub kept : IsKept is_good start
  pub turned : w ≡ turns_of turns start
  pub written : (i : ℕ) → i < turns → IsStill (turns_of i start) → ⊥
  pub longer : turns + length start.journal ≤ length w.journal
  pub begun : 1 ≤ turns → 1 ≤ length start.journal
  pub counted : version ≡ length w.journal
  pub fits : version < 2 ^ 64
  pub works : Works start w

-- no turn was made yet, and no key is touched
pub record IsCalmStart (old new : PlaneView) (turns : ℕ) : Type 0 where
  pub none : turns ≡ 0
  pub looks : new.looks ≡ old.looks
  pub untouched : IsUntouched new
