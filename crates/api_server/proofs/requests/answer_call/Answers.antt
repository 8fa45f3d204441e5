use Rattle.control_rules.specs.Events.{Stands}
use Rattle.api_server.proofs.requests.answer_call.Goals as goal

pub returns-in-Summary-clause-leads : goal.returns-in-Summary-clause-leads
returns-in-Summary-clause-leads c = Stands
