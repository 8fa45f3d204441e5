use Rattle.control_rules.specs.Events.{Stands, Rests}
use Rattle.control_calls.proofs.Leads.{works_lead}
use Rattle.control_calls.proofs.settles.settling.Goals as goal

pub returns-in_err-room-clause-works : goal.returns-in_err-room-clause-works
returns-in_err-room-clause-works c = Rests

pub returns-in_err-room-clause-leads : goal.returns-in_err-room-clause-leads
returns-in_err-room-clause-leads c = Stands

pub returns-in_err-turns-clause-leads : goal.returns-in_err-turns-clause-leads
returns-in_err-turns-clause-leads c = works_lead _ _ c.settle.ensures.works

pub returns-clause-leads : goal.returns-clause-leads
returns-clause-leads c = works_lead _ _ c.settle.ensures.works
