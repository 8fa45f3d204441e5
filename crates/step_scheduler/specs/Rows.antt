-- What a plane's slots hold, and what the rules see of it.
use Rattle.std.specs.Prelude.{Bool, true, false, List, option_map, Option, Some, None}
use Rattle.version_store.specs.State as store
use Rattle.resource_types.specs.declared.names.SlotKey.{SlotKey}
use Rattle.resource_types.specs.contracts.names.SlotKeyOrd.TheImpl as slot_order
use Rattle.slot_table.specs.declared.rows.Slot.{Slot}
use Rattle.control_rules.specs.Differences.{ObjectPlan}
use Rattle.control_rules.specs.Slots.{Look}
use Rattle.controller_parts.specs.declared.due.Due.{Due}
use Rattle.controller_parts.specs.Views.{due_plan}
use Rattle.step_scheduler.specs.declared.held.Held.{Held}
use Rattle.step_scheduler.specs.declared.held.Held.TheVariants as held
use Rattle.step_scheduler.specs.declared.held.Stage.{Stage}
use Rattle.step_scheduler.specs.declared.held.Stage.TheVariants as stage

-- a slot that isn't idle
abbrev pub Row : Type 0
Row = Slot SlotKey Held

-- the slot of a key
abbrev pub row_of : SlotKey → List Row → Option Row
row_of key rows = store.find (λ (row : Row). row.key) slot_order.ghosts.cmp key rows

-- the slots once that of the row holds it
abbrev pub with_row : Row → List Row → List Row
with_row row rows = store.put (λ (row : Row). row.key) slot_order.ghosts.cmp row rows

-- the slots once that of the key is idle
abbrev pub without_row : SlotKey → List Row → List Row
without_row key rows = store.without (λ (row : Row). row.key) slot_order.ghosts.cmp key rows

-- whether it is a plan
abbrev pub is_plan : Held → Bool
is_plan (held.View view) = false
is_plan (held.Plan plan) = true

-- what the rules see of a slot
abbrev pub look_in : Row → Look
look_in row = record { key = row.key; planned = is_plan row.held; seen = row.seen; read_at = row.read_at }

-- the plan of what a look found due
abbrev pub plan_in : Option Due → Option ObjectPlan
plan_in view = option_map due_plan view

-- the plan that is held, or that the view means
abbrev pub meaning : Held → Option ObjectPlan
meaning (held.View view) = plan_in view
meaning (held.Plan plan) = Some plan

abbrev pub stage_by : Held → Stage
stage_by (held.View view) = stage.Looked (plan_in view)
stage_by (held.Plan plan) = stage.Planned

-- where a slot is
abbrev pub stage_of : Option Row → Stage
stage_of None = stage.Idle
stage_of (Some row) = stage_by row.held
