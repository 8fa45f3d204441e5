-- What the controller plans can be made.
use Rattle.std.specs.Prelude.{◌≡◌, ℕ, List, Some}
use Rattle.version_store.specs.Apply.{IsMakeable}
use Rattle.resource_types.specs.declared.names.Name.{Name}
use Rattle.resource_types.specs.declared.objects.Object.{Object}
use Rattle.resource_types.specs.Lookups.{State}
use Rattle.control_rules.specs.Differences.{ObjectPlan}
use Rattle.control_rules.specs.NextRoute.{route_next}
use Rattle.control_rules.proofs.Makeable.{route_makeable}

pub route_makeable_of : (domain : List ℕ) (st : State) (n : Name) (now : ℕ) (plan : ObjectPlan) → route_next domain st n now ≡ Some plan → IsMakeable (λ (o : Object). o.key) plan
route_makeable_of domain st n now plan e = (route_makeable domain st n now).says plan e
