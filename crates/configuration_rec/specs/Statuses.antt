-- The status of a Configuration, by what stands under its Revision's name.
use Rattle.std.specs.Prelude.{ℕ, List, [], Some}
use Rattle.resource_types.specs.declared.conditions.Condition.{Condition}
use Rattle.resource_types.specs.declared.status.ObjectStatus.{ObjectStatus}
use Rattle.resource_types.specs.declared.objects.Object.{Object}
use Rattle.resource_types.specs.Lookups.{State, latest_created, latest_ready}
use Rattle.resource_types.specs.Objects.{status_of}
use Rattle.control_rules.specs.Statuses.{Current, Taken, child_condition, child_of, configuration_status}
use Rattle.control_rules.specs.Readings.{simple_name_of, stored_status}

-- what the current Revision says of itself
abbrev pub current_condition : Object → Condition
current_condition v = child_condition [] (Current (status_of v.body))

-- that another Revision has the name
abbrev pub taken_condition : List ℕ → Condition
taken_condition name = child_condition name Taken

-- the status of a Configuration whose Revision has the name, and under which a Revision stands
abbrev pub configuration_status_by : State → Object → List ℕ → Object → ObjectStatus
configuration_status_by st c name child =
    configuration_status c.meta.stamp.generation (simple_name_of (latest_created st c)) (simple_name_of (latest_ready st c)) name (child_of stored_status c (Some child))
