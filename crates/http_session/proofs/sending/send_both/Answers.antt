use Rattle.std.proofs.Common.{inl}
use Rattle.http_session.proofs.SendLemmas.{Sends-then}
use Rattle.http_session.proofs.sending.send_both.Goals as goal

pub returns-then-write_whole-clause-sends : goal.returns-then-write_whole-clause-sends
returns-then-write_whole-clause-sends g c =
    let first = (rw c.if-write_whole.true at c.write_whole.ensures.sends) in
    Sends-then _ _ _ _ _ _ _ _ _ first c.write_whole-then-write_whole.ensures.sends

pub returns-then-write_whole-clause-pieces : goal.returns-then-write_whole-clause-pieces
returns-then-write_whole-clause-pieces g c =
    let first = (rw c.if-write_whole.true at c.write_whole.ensures.rest) in
    inl (_, first, c.write_whole-then-write_whole.ensures.rest)
