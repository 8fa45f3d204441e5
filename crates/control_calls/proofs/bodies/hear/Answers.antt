use Rattle.control_bodies.specs.Bodies.{report_in, step_in, clock_in}
use Rattle.control_bodies.proofs.Moments.{clock_range}
use Rattle.control_calls.specs.Calls.{reporting, clocking, stepping}
use Rattle.control_calls.proofs.Leads.{report_leads, clock_leads, step_leads}
use Rattle.control_calls.proofs.Events.{event_leads}
use Rattle.control_calls.proofs.bodies.hear.Goals as goal

pub returns-in-Report-clause-leads : goal.returns-in-Report-clause-leads
returns-in-Report-clause-leads c =
    event_leads (reporting c.args.plane.now.plane c.args.body.now) c.args.plane.now.plane c.reporting.new.plane.plane c.reporting.result
    (report_leads c.args.plane.now.plane (report_in c.args.body.now)) c.reporting.ensures.ok c.reporting.ensures.err

pub returns-in-SetClock-clause-leads : goal.returns-in-SetClock-clause-leads
returns-in-SetClock-clause-leads c =
    event_leads (clocking c.args.plane.now.plane c.args.body.now) c.args.plane.now.plane c.clocking.new.plane.plane c.clocking.result
    (clock_leads c.args.plane.now.plane (clock_in c.args.body.now) (clock_range c.args.body.now)) c.clocking.ensures.ok c.clocking.ensures.err

pub returns-in-Step-clause-leads : goal.returns-in-Step-clause-leads
returns-in-Step-clause-leads c =
    event_leads (stepping c.args.plane.now.plane c.args.body.now) c.args.plane.now.plane c.stepping.new.plane.plane c.stepping.result
    (step_leads c.args.plane.now.plane (step_in c.args.body.now)) c.stepping.ensures.ok c.stepping.ensures.err
