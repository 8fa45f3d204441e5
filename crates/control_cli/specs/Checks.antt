-- What the command `check` leaves, by its status.
use Rattle.std.specs.Prelude.{◌≡◌}
use Rattle.serve_io.specs.Gate.{Ends}
use Rattle.manifest_check.specs.declared.command.CheckEnd.{CheckEnd}
use Rattle.manifest_check.specs.Checks.{Leaves, IsComplete}
use Rattle.control_cli.specs.declared.status.Status.{Status}
use Rattle.control_cli.specs.Ends.{status_of_check}

-- the input was checked, and the check ended as the status says
pub record CheckRuns (old new : Ends) (status : Status) : Type 0 where
  pub end : CheckEnd
  pub is : status ≡ status_of_check end
  pub leaves : Leaves old new end
  pub complete : IsComplete old new end
