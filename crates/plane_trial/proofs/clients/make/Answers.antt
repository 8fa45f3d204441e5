use Rattle.std.proofs.Common.{subst}
use Rattle.resource_types.specs.Lookups.{Journal}
use Rattle.api_outcomes.specs.Outcomes.{CanBeMade}
use Rattle.plane_trial.proofs.clients.make.Goals as goal

pub write-requires-clause-plan : goal.write-requires-clause-plan
write-requires-clause-plan c plan is =
    subst (λ (journal : Journal). CanBeMade journal plan) c.store.ensures.entries (c.in_ok-outcome.ensures.plan plan is)
