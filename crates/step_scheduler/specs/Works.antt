-- What the work on one slot does to the slots and to the journal.
use Rattle.std.specs.Prelude.{◌≡◌, ℕ, List, length, Option, Some}
use Rattle.version_store.specs.Apply.{IsMakeable}
use Rattle.resource_types.specs.declared.names.SlotKey.{SlotKey}
use Rattle.resource_types.specs.declared.names.Actor.TheVariants as actor
use Rattle.resource_types.specs.declared.objects.Object.{Object}
use Rattle.resource_types.specs.Lookups.{Journal, state}
use Rattle.control_rules.specs.declared.settings.Settings.{Settings}
use Rattle.control_rules.specs.declared.slots.StepOutcome.{StepOutcome}
use Rattle.control_rules.specs.Differences.{ObjectPlan}
use Rattle.control_rules.specs.Next.{next_write}
use Rattle.control_rules.specs.Slots.{ObjectWrite, answer_in, entries_in}
use Rattle.control_rules.specs.Steps.{outcome_of}
use Rattle.controller_parts.specs.declared.due.Due.{Due}
use Rattle.step_scheduler.specs.declared.held.Held.TheVariants as held
use Rattle.step_scheduler.specs.Rows.{Row, row_of, with_row, without_row, plan_in}

-- an idle slot holds a view, which means what is due in the present state; so many entries were seen
pub record HoldsLook (settings : Settings) (journal : Journal) (now : ℕ) (key : SlotKey) (old new : List Row) (seen : ℕ) : Type 0 where
  pub view : Option Due
  pub due : plan_in view ≡ next_write settings key (state journal) now
  pub rows : new ≡ with_row (record { key = key; seen = length journal; read_at = now; held = held.View view }) old
  pub count : seen ≡ length journal

-- the slot of the key holds a plan, which can be made
pub record IsPlannedAt (key : SlotKey) (rows : List Row) : Type 0 where
  pub row : Row
  pub plan : ObjectPlan
  pub found : row_of key rows ≡ Some row
  pub planned : row.held ≡ held.Plan plan
  pub makeable : IsMakeable (λ (o : Object). o.key) plan

-- the write of a slot that has planned
abbrev pub write_in : ℕ → Row → ObjectPlan → ObjectWrite
write_in now row plan = record { plan = plan; actor = actor.Controller row.key; seen = row.seen; read_at = row.read_at; moment = now }

-- the plan of the slot of the key is written, and the slot is idle
pub record Writes (before after : Journal) (now : ℕ) (key : SlotKey) (old new : List Row) (answer : StepOutcome) : Type 0 where
  pub written : (row : Row) (plan : ObjectPlan) → row_of key old ≡ Some row → row.held ≡ held.Plan plan → after ≡ entries_in before (write_in now row plan)
  pub answered : (row : Row) (plan : ObjectPlan) → row_of key old ≡ Some row → row.held ≡ held.Plan plan
      → answer ≡ outcome_of (answer_in before (write_in now row plan))
  pub rows : new ≡ without_row key old
