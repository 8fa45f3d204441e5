-- What a plane is seen as, and what it keeps.
use Rattle.std.specs.Prelude.{◌≡◌, ℕ, ◌≤◌, List, length, map, Option, Some}
use Rattle.resource_types.specs.declared.names.SlotKey.{SlotKey}
use Rattle.resource_types.specs.Lookups.{Journal}
use Rattle.version_store.specs.Journal.{StoreView}
use Rattle.manifest_intake.specs.Good.{is_good}
use Rattle.control_rules.specs.declared.settings.Settings.{Settings}
use Rattle.control_rules.specs.declared.slots.StepOutcome.{StepOutcome}
use Rattle.control_rules.specs.Slots.{ObjectEntry, Plane, present}
use Rattle.control_rules.specs.Steps.{plan_of, step_of, Event}
use Rattle.control_rules.specs.Safe.{IsSafe, RemovesUnused}
use Rattle.control_rules.specs.Quiet.{IsQuiet}
use Rattle.control_rules.specs.Final.{IsFinal}
use Rattle.control_rules.specs.Facts.{IsKept}
use Rattle.touched_keys.specs.Marks.{MarksView, AreMarks}
use Rattle.step_scheduler.specs.Rows.{Row, row_of, look_in, meaning}

-- What contracts see of a plane: the plane of the rules, for how many more entries it has memory, how often it looked and turned since it was made, and
-- which keys are marked as touched.
pub record PlaneView : Type 0 where
  pub plane : Plane
  pub spare : ℕ
  pub looks : ℕ
  pub turns : ℕ
  pub marks : MarksView

-- the plane of the rules by its parts
abbrev pub plane_of : Settings → Journal → ℕ → List Row → Option SlotKey → Plane
plane_of settings journal now rows cursor = record { journal = journal; now = now; slots = map look_in rows; cursor = cursor; settings = settings }

abbrev pub view_of : Settings → StoreView ObjectEntry → ℕ → List Row → Option SlotKey → ℕ → ℕ → MarksView → PlaneView
view_of settings store now rows cursor looks turns marks =
    record { plane = plane_of settings store.entries now rows cursor; spare = store.spare; looks = looks; turns = turns; marks = marks }

-- what each slot holds means what was due at its look
abbrev pub AreMeant : Plane → List Row → Type 0
AreMeant w rows = (key : SlotKey) (row : Row) → row_of key rows ≡ Some row → meaning row.held ≡ plan_of w (look_in row)

-- what slots keep: the journal is lawful and each slot looks back at it, and what a slot holds is what was due at its look
pub record AreSlots (settings : Settings) (journal : Journal) (now : ℕ) (rows : List Row) (cursor : Option SlotKey) : Type 0 where
  pub kept : IsKept is_good (plane_of settings journal now rows cursor)
  pub meant : AreMeant (plane_of settings journal now rows cursor) rows

-- what a plane keeps: that, and nothing was due to a key that isn't marked, when the last entries were taken in
pub record IsPlane (settings : Settings) (journal : Journal) (now : ℕ) (rows : List Row) (cursor : Option SlotKey) (marks : MarksView) : Type 0 where
  pub slots : AreSlots settings journal now rows cursor
  pub marked : AreMarks settings journal now marks

-- a plane and an answer are those of an event
pub record Is {A : Type 0} (event : Event A) (plane : Plane) (answer : A) : Type 0 where
  pub plane_is : plane ≡ event.plane
  pub answer_is : answer ≡ event.answer

-- at each position of the journal the Tables and statuses are safe
abbrev pub IsSafeThroughout : Journal → Type 0
IsSafeThroughout j = (n : ℕ) → n ≤ length j → IsSafe j n

-- each entry that removes a Revision removes an unused one
abbrev pub RemovesUnusedAlone : Journal → Type 0
RemovesUnusedAlone j = (n : ℕ) → RemovesUnused j n

-- nothing is to be done, and all is as it is then
pub record IsAtRest (w : Plane) : Type 0 where
  pub quiet : IsQuiet w.settings (present w) w.now
  pub final : IsFinal w.settings (present w) w.now

-- a step of the rules, of a plane that is kept
pub record Steps (w : Plane) (key : SlotKey) (v : Plane) (answer : StepOutcome) : Type 0 where
  pub event : Is (step_of w key) v answer
  pub kept : IsKept is_good w

-- the plane is as it was, and is kept
pub record Stays (w v : Plane) : Type 0 where
  pub same : v ≡ w
  pub kept : IsKept is_good w
