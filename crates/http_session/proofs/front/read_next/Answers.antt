use Rattle.std.proofs.Common.{◌≡◌, take, Some}
use Rattle.http_session.specs.Block.{head_at}
use Rattle.http_session.proofs.StreamLemmas.{Awaits-block}
use Rattle.http_session.proofs.front.read_next.Goals as goal

pub returns-in-Some-clause-awaits : goal.returns-in-Some-clause-awaits
returns-in-Some-clause-awaits c =
    let place : head_at (take 8192 c.args.held.now) ≡ Some (c.in-Some.start, c.in-Some.end) =
    cc (c.in-Some.ensures.head, c.in-Some.start-is, c.in-Some.end-is, c.head_room.ensures.bytes) in
    Awaits-block c.args.held.now c.in-Some.start c.in-Some.end c.block.result place c.block.ensures.awaits
