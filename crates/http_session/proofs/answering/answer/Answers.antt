use Rattle.std.proofs.Common.{false}
use Rattle.http_session.specs.Front.{asked_at}
use Rattle.http_session.proofs.PieceLemmas.{replies_in_pieces}
use Rattle.http_session.proofs.answering.answer.Goals as goal

pub returns-clause-pieces : goal.returns-clause-pieces
returns-clause-pieces g c =
    let sent = (rw (c.of-method.ensures, c.of.ensures) at c.if-send_reply.ensures.sends) in
    let written = (rw (c.of-method.ensures, c.of.ensures) at c.if-send_reply.ensures.pieces) in
    replies_in_pieces g.H.Handler.asks g.K.Sink.writes c.args.mode (asked_at c.args.held.now c.args.found)
    _ _ _ _ _ _ _ _ _ _ false c.in-Ok.reply c.in-Ok.ensures.asked sent written
