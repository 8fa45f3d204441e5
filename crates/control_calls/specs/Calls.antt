-- What each control call comes to over a plane: its reply, and the plane after it. A refused one leaves the plane as it was.
use Rattle.std.specs.Prelude.{◌≡◌, ℕ, true, false, nat_le, List, length, codes, Option, Some, None, Result, Ok, Err, if◌then◌else◌}
use Rattle.json_tree.specs.declared.value.Json.{Json}
use Rattle.http_session.specs.declared.message.Reply.{Reply}
use Rattle.version_store.specs.declared.write.Applied.{Applied}
use Rattle.version_store.specs.declared.write.Applied.TheVariants as applied
use Rattle.resource_types.specs.declared.names.Kind.{Kind}
use Rattle.resource_types.specs.declared.names.Kind.TheVariants as kind
use Rattle.resource_types.specs.declared.names.SlotKey.{SlotKey}
use Rattle.resource_types.specs.Lookups.{of_kind}
use Rattle.control_rules.specs.declared.slots.Report.{Report}
use Rattle.control_rules.specs.Slots.{Plane, present}
use Rattle.control_rules.specs.Steps.{Event, report_of, step_of}
use Rattle.control_rules.specs.Turns.{IsSettle}
use Rattle.api_outcomes.specs.declared.refusal.Refusal.TheVariants.{NotFound}
use Rattle.control_bodies.specs.declared.fields.Field.{Field}
use Rattle.control_bodies.specs.Bodies.{report_in, step_in, clock_in}
use Rattle.control_calls.specs.declared.refusal.ControlRefusal.{ControlRefusal}
use Rattle.control_calls.specs.declared.refusal.ControlRefusal.TheVariants.{Call, WrongShape, ClockBack}
use Rattle.control_calls.specs.declared.bodies.ControlCall.{ControlCall}
use Rattle.control_calls.specs.declared.bodies.ControlCall.TheVariants as call
use Rattle.control_calls.specs.declared.summary.Summary.{Summary}
use Rattle.control_calls.specs.Refusals.{refused}
use Rattle.control_calls.specs.Texts.{success, outcome_text, report_text, clock_text, settle_text, summary_text}

-- ---- events

-- a refused call
abbrev pub refuses : Plane → ControlRefusal → Event Reply
refuses w refusal = record { plane = w; answer = refused refusal }

-- what a body says, handed on; or the refusal of its first wrong field
abbrev pub saying : {A : Type 0} → Plane → (A → Event Reply) → Result A Field → Event Reply
saying w event (Ok a) = event a
saying w event (Err field) = refuses w (WrongShape field)

-- ---- reports

-- a report that made an entry, one that changes nothing, and one on a Revision that doesn't stand; the other answers don't come
abbrev pub report_reply : Report → Option Applied → Reply
report_reply report (Some (applied.Done version)) = success (report_text true version)
report_reply report (Some (applied.Same version)) = success (report_text false version)
report_reply report other = refused (Call (NotFound kind.Revision report.revision.name))

abbrev pub reports : Plane → Report → Event Reply
reports w report = record { plane = (report_of w report).plane; answer = report_reply report (report_of w report).answer }

abbrev pub reporting : Plane → Json → Event Reply
reporting w body = saying w (reports w) (report_in body)

-- ---- the clock

abbrev pub sets_clock : Plane → ℕ → Event Reply
sets_clock w moment =
    if nat_le w.now moment then record { plane = record w { now = moment }; answer = success (clock_text moment) } else refuses w (ClockBack w.now)

abbrev pub clocking : Plane → Json → Event Reply
clocking w body = saying w (sets_clock w) (clock_in body)

-- ---- steps

abbrev pub steps : Plane → SlotKey → Event Reply
steps w key = record { plane = (step_of w key).plane; answer = success (outcome_text (step_of w key).answer) }

abbrev pub stepping : Plane → Json → Event Reply
stepping w body = saying w (steps w) (step_in body)

-- ---- calls with a body

-- what a control call comes to by the value of its body
unfoldable pub heard : ControlCall → Plane → Json → Event Reply
heard call.Report w body = reporting w body
heard call.SetClock w body = clocking w body
heard call.Step w body = stepping w body

-- ---- settles

-- a settle of so many turns
pub record Settles (w : Plane) (reply : Reply) (v : Plane) : Type 0 where
  pub turns : ℕ
  pub settle : IsSettle w turns v
  pub replies : reply ≡ success (settle_text (length v.journal) turns)

-- ---- the summary

-- how many objects of a kind stand, in all namespaces
abbrev pub count_of : Plane → Kind → ℕ
count_of w k = length (of_kind k (present w))

abbrev pub summary_of : Plane → Summary
summary_of w = record {
  configurations = count_of w kind.Configuration;
  health = count_of w kind.Health;
  journal = length w.journal;
  now = w.now;
  revisions = count_of w kind.Revision;
  routes = count_of w kind.Route;
  services = count_of w kind.Service;
  tables = count_of w kind.Table;
}

-- the reply that shows it; nothing changes
abbrev pub summary_reply : Plane → Reply
summary_reply w = success (summary_text (summary_of w))
