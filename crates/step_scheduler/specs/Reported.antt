-- What a report does to the journal.
use Rattle.std.specs.Prelude.{◌≡◌, ℕ, length, Some, None, Result, Ok, Err}
use Rattle.version_store.specs.declared.write.Applied.{Applied}
use Rattle.resource_types.specs.declared.names.Kind.TheVariants as kind
use Rattle.resource_types.specs.declared.names.Actor.TheVariants as actor
use Rattle.resource_types.specs.declared.objects.Object.{Object}
use Rattle.resource_types.specs.Lookups.{Journal, state, find}
use Rattle.control_rules.specs.declared.slots.Report.{Report}
use Rattle.control_rules.specs.Standing.{key_at, standing}
use Rattle.control_rules.specs.Differences.{ObjectPlan}
use Rattle.control_rules.specs.Slots.{ObjectWrite, answer_in, entries_in, Plane, present}
use Rattle.control_rules.specs.Facts.{IsKept}
use Rattle.manifest_intake.specs.Good.{is_good}
use Rattle.control_rules.specs.Steps.{report_plan, report_of}
use Rattle.step_scheduler.specs.declared.refusals.ReportError.{ReportError}
use Rattle.step_scheduler.specs.declared.refusals.ReportError.TheVariants as error
use Rattle.step_scheduler.specs.Planes.{Is}

-- a reporter's write
abbrev pub reporter_write : ℕ → ℕ → ObjectPlan → ObjectWrite
reporter_write seen now plan = record { plan = plan; actor = actor.Reporter; seen = seen; read_at = now; moment = now }

-- the plan is the report's, over the Revision of that uid
abbrev pub IsReportPlan : Journal → Report → ℕ → ObjectPlan → Type 0
IsReportPlan journal report uid plan = (revision : Object) → revision.meta.stamp.uid ≡ uid → plan ≡ report_plan report revision (find (key_at kind.Health report.revision) (state journal))

-- the plan is written
pub record WritesReport (before after : Journal) (now : ℕ) (report : Report) (uid : ℕ) (plan : ObjectPlan) (seen : ℕ) (answer : Applied) : Type 0 where
  pub planned : IsReportPlan before report uid plan
  pub count : seen ≡ length before
  pub written : after ≡ entries_in before (reporter_write seen now plan)
  pub answered : answer ≡ answer_in before (reporter_write seen now plan)

-- The report is the event of the rules, where there was memory. It is refused where the rules answer nothing: no Revision of the name stands.
abbrev pub IsReport : Plane → Report → Plane → Result Applied ReportError → Type 0
IsReport w report v (Ok answer) = Is (report_of w report) v (Some answer)
IsReport w report v (Err error.NoSuchRevision) = Is (report_of w report) v None
IsReport w report v (Err error.Memory) = v ≡ w

-- the report, of a plane that is kept; that no Revision of the name stands is found out first
pub record Hears (w : Plane) (report : Report) (v : Plane) (answer : Result Applied ReportError) : Type 0 where
  pub event : IsReport w report v answer
  pub kept : IsKept is_good w
  pub absent : standing kind.Revision report.revision (present w) ≡ None → answer ≡ Err error.NoSuchRevision
