-- What is reported of a Revision, and its conditions.
use Rattle.std.specs.Prelude.{List, [], ◌∷◌, Option, Some, None}
use Rattle.resource_types.specs.declared.conditions.CondName.{CondName}
use Rattle.resource_types.specs.declared.conditions.Condition.{Condition}
use Rattle.resource_types.specs.declared.conditions.Part.{Part}
use Rattle.conditions.specs.Fold.{fold_of}
use Rattle.control_rules.specs.Statuses.{Reported, part_condition, unreported, resources_condition, container_condition, been_condition, ever_of}
use Rattle.revision_rec.specs.declared.health.Reported.{Reported as Borrowed}

-- what is borrowed of a Health, as the rules have it
abbrev pub as_reported : Borrowed → Reported
as_reported t = record { resources = t.resources.now; container = t.container.now; ever = t.ever }

-- a part as a condition, or that it was not reported
abbrev pub part_or_none : CondName → Option Part → Condition
part_or_none name None = unreported name
part_or_none name (Some p) = part_condition name p

-- that it was ready once
abbrev pub been_of : Option Reported → Condition
been_of h = been_condition (ever_of h)

-- the fold
abbrev pub ready_of : Option Reported → Condition
ready_of h = fold_of (resources_condition h ∷ container_condition h ∷ [])

-- all four
abbrev pub conditions_of : Option Reported → List Condition
conditions_of h = container_condition h ∷ been_of h ∷ ready_of h ∷ resources_condition h ∷ []
