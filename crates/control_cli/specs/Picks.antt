-- What the command `pick` leaves, by its status.
use Rattle.std.specs.Prelude.{◌≡◌}
use Rattle.serve_io.specs.Gate.{Ends}
use Rattle.gateway_command.specs.declared.command.PickEnd.{PickEnd}
use Rattle.gateway_command.specs.Leaves.{Leaves, IsComplete}
use Rattle.command_words.specs.declared.picking.Picking.{Picking}
use Rattle.control_cli.specs.declared.status.Status.{Status}
use Rattle.control_cli.specs.Ends.{status_of_pick}

-- the polls were followed and the numbers picked, and that ended as the status says
pub record PickRuns (picking : Picking) (old new : Ends) (status : Status) : Type 0 where
  pub end : PickEnd
  pub is : status ≡ status_of_pick end
  pub leaves : Leaves picking.host picking.first picking.count old new end
  pub complete : IsComplete old new end
