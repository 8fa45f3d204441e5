-- Conditions by their names.
use Rattle.std.specs.Prelude.{List, Option}
use Rattle.std.specs.List.{find}
use Rattle.resource_types.specs.declared.conditions.CondName.{CondName}
use Rattle.resource_types.specs.declared.conditions.Condition.{Condition}
use Rattle.resource_types.specs.contracts.conditions.CondNamePartialEq.TheImpl as condition_eq

-- the first condition of the name
abbrev pub condition_of : CondName → List Condition → Option Condition
condition_of name conditions = find (λ (c : Condition). condition_eq.ghosts.eq c.name name) conditions
