-- What views mean.
use Rattle.control_rules.specs.Differences.{ObjectPlan, creation, replacement}
use Rattle.controller_parts.specs.declared.due.Due.{Due}
use Rattle.controller_parts.specs.declared.due.Due.TheVariants.{Removal, Creation, Replacement, Status}
use Rattle.controller_parts.specs.Plans.{settling_plan, removed_plan}

-- the plan of what is due
abbrev pub due_plan : Due → ObjectPlan
due_plan (Removal r) = removed_plan r
due_plan (Creation o) = creation o
due_plan (Replacement o) = replacement o o.body
due_plan (Status s) = settling_plan s
