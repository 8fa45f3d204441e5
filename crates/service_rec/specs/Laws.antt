-- What the Service controller plans can be made.
use Rattle.std.specs.Prelude.{◌≡◌, ℕ, Some}
use Rattle.version_store.specs.Apply.{IsMakeable}
use Rattle.resource_types.specs.declared.names.Name.{Name}
use Rattle.resource_types.specs.declared.objects.Object.{Object}
use Rattle.resource_types.specs.Lookups.{State}
use Rattle.control_rules.specs.Differences.{ObjectPlan}
use Rattle.control_rules.specs.NextService.{service_next}
use Rattle.control_rules.proofs.Makeable.{service_makeable}

pub service_makeable_of : (st : State) (n : Name) (now : ℕ) (plan : ObjectPlan) → service_next st n now ≡ Some plan → IsMakeable (λ (o : Object). o.key) plan
service_makeable_of st n now plan e = (service_makeable st n now).says plan e
