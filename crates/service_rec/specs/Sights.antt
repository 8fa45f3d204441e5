-- What a Service sees of an object that stands, and the status that follows.
use Rattle.std.specs.Prelude.{ℕ, List, [], ◌∷◌, Option, Some}
use Rattle.resource_types.specs.declared.names.Name.{Name}
use Rattle.resource_types.specs.declared.conditions.CondName.{CondName}
use Rattle.resource_types.specs.declared.conditions.CondName.TheVariants as condition
use Rattle.resource_types.specs.declared.conditions.Condition.{Condition}
use Rattle.resource_types.specs.declared.conditions.Truth.TheVariants as truth
use Rattle.resource_types.specs.declared.status.ObjectStatus.{ObjectStatus}
use Rattle.resource_types.specs.declared.objects.Object.{Object}
use Rattle.resource_types.specs.Objects.{status_of}
use Rattle.conditions.specs.Fold.{fold_of}
use Rattle.control_rules.specs.Statuses.{stated, condition_in, told_or}
use Rattle.control_rules.specs.Readings.{stored_status, sight_of}
use Rattle.control_rules.specs.TrafficStatuses.{Sight, sight_condition, configurations_condition, routes_condition, service_status}

-- what the Service of the uid sees of it
abbrev pub seen : ℕ → Object → Option Sight
seen uid o = sight_of stored_status uid (Some o)

-- what it says of itself, under the name
abbrev pub own_ready : CondName → Object → Condition
own_ready name o = told_or name (stated name truth.Unknown [] []) (condition_in condition.Ready (status_of o.body))

-- its condition, where `what` is its sort and its name
abbrev pub seen_condition : CondName → List ℕ → ℕ → Object → Condition
seen_condition name what uid o = sight_condition name [] what (seen uid o)

-- the three conditions, in order of type
abbrev pub conditions_by : List ℕ → Option Sight → Option Sight → List Condition
conditions_by name c r =
    configurations_condition name c ∷ fold_of (configurations_condition name c ∷ routes_condition name r ∷ []) ∷ routes_condition name r ∷ []

-- the status of the Service of the name, by its Configuration and its Route
abbrev pub status_by : Name → Object → Object → Object → ObjectStatus
status_by n s c r = service_status s.meta.stamp.generation n.name (seen s.meta.stamp.uid c) (seen s.meta.stamp.uid r)
