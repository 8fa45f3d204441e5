use Rattle.std.proofs.Common.{◌++◌, take, rules}
use Rattle.gateway_command.proofs.Reading.{refused_piece}
use Rattle.gateway_command.proofs.following.take_bytes.Goals as goal

pub returns-in_err-take_byte-clause-refused : goal.returns-in_err-take_byte-clause-refused
returns-in_err-take_byte-clause-refused c bytes read is =
    refused_piece bytes c.args.piece.now c.loop-byte.byte-index c.loop-byte-test.true
    (c.take_byte.ensures.refused (bytes ++ take c.loop-byte.byte-index c.args.piece.now) (c.loop-byte.invariant bytes read) (search rules))
