use Rattle.std.proofs.Common.{sym, subst}
use Rattle.manifest_intake.specs.Good.{is_good}
use Rattle.control_rules.specs.Slots.{Plane}
use Rattle.control_rules.specs.Events.{Writes, Leads, Stands, Goes}
use Rattle.api_server.proofs.requests.write.Goals as goal

pub client_write-applied-requires-clause-may : goal.client_write-applied-requires-clause-may
client_write-applied-requires-clause-may c = c.requires.plan c.in-Some.plan c.in-Some.is

pub returns-in-Some-clause-leads : goal.returns-in-Some-clause-leads
returns-in-Some-clause-leads c =
    subst (λ (v : Plane). Leads is_good c.args.plane.now.plane v) (sym c.client_write-applied.ensures.event.plane_is)
    (Goes Stands (Writes c.in-Some.plan (c.requires.plan c.in-Some.plan c.in-Some.is)))

pub returns-in_default-clause-leads : goal.returns-in_default-clause-leads
returns-in_default-clause-leads c = Stands
