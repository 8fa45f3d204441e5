use Rattle.control_rules.specs.Events.{Stands}
use Rattle.api_server.proofs.requests.answer_control.Goals as goal

pub returns-in_err-json-clause-leads : goal.returns-in_err-json-clause-leads
returns-in_err-json-clause-leads c = Stands

pub returns-in-None-clause-leads : goal.returns-in-None-clause-leads
returns-in-None-clause-leads c = Stands
