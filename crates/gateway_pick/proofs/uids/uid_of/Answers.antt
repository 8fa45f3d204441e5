use Rattle.std.proofs.Common.{rules}
use Rattle.gateway_pick.proofs.UidBytes.{uid_is}
use Rattle.gateway_pick.proofs.uids.uid_of.Goals as goal

pub returns : goal.returns
returns c = uid_is c.args.bytes.now c.read_uid.result (search rules) c.read_uid.ensures.found c.read_uid.ensures.finds
