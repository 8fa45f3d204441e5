use Rattle.gateway_command.proofs.Inputs.{no_room_reads}
use Rattle.gateway_command.proofs.input.follow_all.Goals as goal

pub returns-in-Err-clause-reads : goal.returns-in-Err-clause-reads
returns-in-Err-clause-reads g c = no_room_reads _ 0 0
