-- What the command `export` leaves, by its status.
use Rattle.std.specs.Prelude.{◌≡◌}
use Rattle.http_session.specs.Session.{SessionState}
use Rattle.api_server.specs.Ask.{WorldView}
use Rattle.journal_export.specs.declared.command.ExportEnd.{ExportEnd}
use Rattle.journal_export.specs.Exports.{RefusesStandard, ExportLeaves}
use Rattle.control_cli.specs.declared.status.Status.{Status}
use Rattle.control_cli.specs.Ends.{status_of_export}
use Rattle.control_cli.specs.Runs.{IsComplete}

-- the requests were answered and the journal was written, and that ended as the status says
pub record ExportRuns (old new : SessionState WorldView) (status : Status) : Type 0 where
  pub end : ExportEnd
  pub is : status ≡ status_of_export end
  pub leaves : ExportLeaves old new end
  pub complete : ¬ (RefusesStandard old.handler) → IsComplete old new status
