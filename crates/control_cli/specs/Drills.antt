-- What the commands `gen` and `drill` leave, by their status.
use Rattle.std.specs.Prelude.{◌≡◌, ℕ, List, Option}
use Rattle.api_server.specs.Ask.{WorldView}
use Rattle.request_drill.specs.declared.command.DrillEnd.{DrillEnd}
use Rattle.request_drill.specs.Generated.{generated}
use Rattle.request_drill.specs.Outputs.{Writes, DrillLeaves}
use Rattle.control_cli.specs.declared.status.Status.{Status}
use Rattle.control_cli.specs.Ends.{status_of_drill}

-- the stream that the number makes was written, and that ended as the status says
pub record StreamRuns (count : ℕ) (taken_old taken_new : Option (List ℕ)) (failed_old failed_new : ℕ) (status : Status) : Type 0 where
  pub end : DrillEnd
  pub is : status ≡ status_of_drill end
  pub leaves : Writes taken_old taken_new failed_old failed_new (generated count) end

-- the stream was run over the world, and that ended as the status says
pub record DrillRuns (count : ℕ) (old new : WorldView) (taken_old taken_new : Option (List ℕ)) (failed_old failed_new : ℕ) (status : Status) : Type 0 where
  pub end : DrillEnd
  pub is : status ≡ status_of_drill end
  pub leaves : DrillLeaves count old new taken_old taken_new failed_old failed_new end
