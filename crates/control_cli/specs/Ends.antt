-- The statuses that stand for the ends of what the commands do.
use Rattle.http_session.specs.declared.report.SessionEnd.{SessionEnd}
use Rattle.http_session.specs.declared.report.SessionEnd.TheVariants as end
use Rattle.manifest_check.specs.declared.command.CheckEnd.{CheckEnd}
use Rattle.manifest_check.specs.declared.command.CheckEnd.TheVariants as check
use Rattle.gateway_command.specs.declared.command.PickEnd.{PickEnd}
use Rattle.gateway_command.specs.declared.command.PickEnd.TheVariants as pick
use Rattle.connection_loop.specs.declared.serving.ServeEnd.{ServeEnd}
use Rattle.connection_loop.specs.declared.serving.ServeEnd.TheVariants as serve
use Rattle.request_drill.specs.declared.command.DrillEnd.{DrillEnd}
use Rattle.request_drill.specs.declared.command.DrillEnd.TheVariants as drill
use Rattle.journal_export.specs.declared.command.ExportEnd.{ExportEnd}
use Rattle.journal_export.specs.declared.command.ExportEnd.TheVariants as export
use Rattle.control_cli.specs.declared.status.Status.{Status}
use Rattle.control_cli.specs.declared.status.Status.TheVariants.{Done, Usage, Cut, GateFault, BadRequest, ManifestRefused, PollRefused, ReadFault, WriteFault, TooLong, Memory}

abbrev pub status_of : SessionEnd → Status
status_of end.Clean = Done
status_of end.Closed = Done
status_of end.Cut = Cut
status_of (end.Bad fault) = BadRequest
status_of end.ReadFault = ReadFault
status_of end.WriteFault = WriteFault
status_of end.TooLong = TooLong
status_of end.Memory = Memory

abbrev pub status_of_check : CheckEnd → Status
status_of_check check.Done = Done
status_of_check check.Refused = ManifestRefused
status_of_check check.ReadFault = ReadFault
status_of_check check.WriteFault = WriteFault
status_of_check check.Memory = Memory

abbrev pub status_of_pick : PickEnd → Status
status_of_pick pick.Done = Done
status_of_pick pick.Refused = PollRefused
status_of_pick pick.ReadFault = ReadFault
status_of_pick pick.WriteFault = WriteFault
status_of_pick pick.TooLong = TooLong
status_of_pick pick.Memory = Memory

abbrev pub status_of_serve : ServeEnd → Status
status_of_serve serve.Done = Done
status_of_serve serve.Usage = Usage
status_of_serve serve.GateFault = GateFault
status_of_serve serve.WriteFault = WriteFault
status_of_serve serve.Memory = Memory

abbrev pub status_of_drill : DrillEnd → Status
status_of_drill drill.Done = Done
status_of_drill drill.WriteFault = WriteFault
status_of_drill drill.Memory = Memory

abbrev pub status_of_export : ExportEnd → Status
status_of_export export.Done = Done
status_of_export export.Usage = Usage
status_of_export export.Cut = Cut
status_of_export export.BadRequest = BadRequest
status_of_export export.ReadFault = ReadFault
status_of_export export.WriteFault = WriteFault
status_of_export export.TooLong = TooLong
status_of_export export.Memory = Memory
