-- What is published for a Route, and what its status says of it.
use Rattle.std.specs.Prelude.{List, [], ◌∷◌, Option}
use Rattle.resource_types.specs.declared.conditions.Condition.{Condition}
use Rattle.resource_types.specs.declared.specification.Target.{Target}
use Rattle.resource_types.specs.declared.objects.Body.{Body}
use Rattle.resource_types.specs.declared.objects.Body.TheVariants.{Table}
use Rattle.conditions.specs.Fold.{fold_of}
use Rattle.control_rules.specs.declared.traffic.Resolved.{Resolved}
use Rattle.control_rules.specs.TrafficStatuses.{ingress_condition, traffic_condition}
use Rattle.route_rec.specs.declared.tables.Content.{Content}

-- the body of a Table with the content
abbrev pub table_body : Content → Body
table_body c = Table c.route c.rows.now c.targets.now

-- the three conditions of a Route, in order of type
abbrev pub conditions_of : Resolved → Option (List Target) → List Condition
conditions_of resolved published =
    traffic_condition resolved ∷ ingress_condition published ∷ fold_of (traffic_condition resolved ∷ ingress_condition published ∷ []) ∷ []
