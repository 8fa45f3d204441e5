use Rattle.std.proofs.Common.{subst}
use Rattle.resource_types.specs.Lookups.{Journal}
use Rattle.api_outcomes.specs.Outcomes.{CanBeMade}
use Rattle.api_server.proofs.Handles.{same_leads}
use Rattle.api_server.proofs.requests.answer_client.Goals as goal

pub returns-in_err-prepare-clause-leads : goal.returns-in_err-prepare-clause-leads
returns-in_err-prepare-clause-leads c = same_leads _ _ c.prepare.ensures.plane

pub returns-in_err-outcome-clause-leads : goal.returns-in_err-outcome-clause-leads
returns-in_err-outcome-clause-leads c = same_leads _ _ c.prepare.ensures.plane

pub write-requires-clause-plan : goal.write-requires-clause-plan
write-requires-clause-plan c plan is =
    subst (λ (journal : Journal). CanBeMade journal plan) c.store.ensures.entries (c.in_ok-outcome.ensures.fits.plan plan is)
