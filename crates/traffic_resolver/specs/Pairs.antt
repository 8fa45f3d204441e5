-- Targets, each with what it means.
use Rattle.std.specs.Prelude.{ℕ, List, []}
use Rattle.resource_types.specs.declared.names.Name.{Name}
use Rattle.resource_types.specs.declared.specification.Target.{Target}
use Rattle.resource_types.specs.Lookups.{State}
use Rattle.control_rules.specs.declared.traffic.Found.{Found}
use Rattle.control_rules.specs.Resolution.{found_of, percent_of, stored}

-- the percent of a target with what it means
abbrev pub pair_percent : Target × Found → ℕ
pair_percent p = percent_of p.0

-- some name in the namespace: what a target means depends on no more of the Route's name
abbrev pub in_space : List ℕ → Name
in_space space = record { space = space; name = [] }

-- what a target of a Route in the namespace means by the stored statuses
abbrev pub found_in : State → List ℕ → Target → Found
found_in st space t = found_of stored st (in_space space) t
