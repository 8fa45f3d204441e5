-- What the Collector plans can be made.
use Rattle.std.specs.Prelude.{◌≡◌, ℕ, Some}
use Rattle.version_store.specs.Apply.{IsMakeable}
use Rattle.resource_types.specs.declared.names.Name.{Name}
use Rattle.resource_types.specs.declared.objects.Object.{Object}
use Rattle.resource_types.specs.Lookups.{State}
use Rattle.control_rules.specs.declared.settings.GcSettings.{GcSettings}
use Rattle.control_rules.specs.Differences.{ObjectPlan}
use Rattle.control_rules.specs.NextCollector.{collector_next}
use Rattle.control_rules.proofs.Makeable.{collector_makeable}

pub collector_makeable_of : (gc : GcSettings) (st : State) (n : Name) (now : ℕ) (plan : ObjectPlan) → collector_next gc st n now ≡ Some plan → IsMakeable (λ (o : Object). o.key) plan
collector_makeable_of gc st n now plan e = (collector_makeable gc st n now).says plan e
