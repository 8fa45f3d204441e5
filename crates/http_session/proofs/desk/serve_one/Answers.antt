use Rattle.std.proofs.Common.{List, ℕ, drop, length, length-drop, ap, refl, ◌≡◌, arith, inl}
use Rattle.http_session.specs.Stream.{IsFront, whole}
use Rattle.http_session.specs.Front.{asked_at}
use Rattle.http_session.specs.declared.front.Found.{Found}
use Rattle.http_session.specs.Pieces.{AsksInPieces, CutsInPieces, WorksInPieces}
use Rattle.http_session.proofs.RunLemmas.{goes_on, closes_after, refused_at, cuts_reply, after_short, ask_short, rose_since}
use Rattle.http_session.proofs.desk.serve_one.Goals as goal

-- the front, as the bytes that were lent have it
lent : (window held rest : List ℕ) (found : Found) → held ≡ window → rest ≡ drop found.end window
    → IsFront window (whole (asked_at window found) (drop found.end window)) → IsFront window (whole (asked_at held found) rest)
lent window held rest found e r is = rw (e, r) is

pub returns-in-Failed-clause-turn : goal.returns-in-Failed-clause-turn
returns-in-Failed-clause-turn g c = λ start left failed total p.
    refused_at g.H.Handler.asks g.H.Handler.asks_cut g.H.Handler.after_gives g.H.Handler.after_cut _ start _ _ left failed _ _ _ _ _ _ _ _ total _ _ p
    (lent _ _ _ c.args.found c.held.ensures.bytes refl c.requires.front) c.in-Failed.ensures.answers

pub returns-in-Memory-clause-turn : goal.returns-in-Memory-clause-turn
returns-in-Memory-clause-turn g c = λ start left failed total p.
    let a = c.in-Memory.ensures.answers in
    ask_short g.H.Handler.asks g.H.Handler.asks_cut g.H.Handler.after_gives g.H.Handler.after_cut _ start _ _ left failed _ _ _ _ _ _ _ _ total _ _ p
    (lent _ _ _ c.args.found c.held.ensures.bytes refl c.requires.front) a.0 a.1 a.2

pub returns-in-Err-clause-turn : goal.returns-in-Err-clause-turn
returns-in-Err-clause-turn g c = λ start left failed total p.
    after_short g.H.Handler.asks g.H.Handler.asks_cut g.H.Handler.after_gives g.H.Handler.after_cut _ start _ _ _ left failed _ _ _ _ _ _ _ _ total _ _ p
    (lent _ _ _ c.args.found c.held.ensures.bytes refl c.requires.front) c.in-Sent.ensures.answers c.in-Err.ensures.cut

pub returns-then-found-clause-turn : goal.returns-then-found-clause-turn
returns-then-found-clause-turn g c = λ start left failed total p.
    closes_after g.H.Handler.asks g.H.Handler.asks_cut g.H.Handler.after_gives g.H.Handler.after_cut _ start _ _ _ left failed _ _ _ _ _ _ _ _ total _ _ p
    (lent _ _ _ c.args.found c.held.ensures.bytes refl c.requires.front) c.if-found.true (omega (arith, p.room, length-drop c.args.found.end c.args.window.now)) c.in-Sent.ensures.answers c.in-Ok.ensures.done

pub returns-clause-turn : goal.returns-clause-turn
returns-clause-turn g c = λ start left failed total p.
    goes_on g.H.Handler.asks g.H.Handler.after_gives _ start _ _ _ left failed _ _ _ _ _ _ _ _ total _ _ p
    (lent _ _ _ c.args.found c.held.ensures.bytes c.drop_front.ensures c.requires.front) c.if-found.false (omega (arith, p.room, ap length c.drop_front.ensures, length-drop c.args.found.end c.args.window.now)) c.in-Sent.ensures.answers c.in-Ok.ensures.done

-- ---- the same of a handler beside its sink

pub returns-in-Failed-clause-pieces : goal.returns-in-Failed-clause-pieces
returns-in-Failed-clause-pieces g c = λ start left failed total p. (
  rose_since _ _ _ p.served.writes_later (c.in-Failed.ensures.pieces.3.cause.rose refl),
  inl (cuts_reply (AsksInPieces g.H.Handler.asks g.K.Sink.writes) (WorksInPieces g.H.Handler.after_gives) _ start _ _ left failed _ _ _ _ _ _ _ _ total _ _ p
      (lent _ _ _ c.args.found c.held.ensures.bytes refl c.requires.front) c.in-Failed.ensures.pieces),
)

pub returns-in-Memory-clause-pieces : goal.returns-in-Memory-clause-pieces
returns-in-Memory-clause-pieces g c = λ start left failed total p.
    let a = c.in-Memory.ensures.pieces in
    ask_short (AsksInPieces g.H.Handler.asks g.K.Sink.writes) (CutsInPieces g.H.Handler.asks_cut) (WorksInPieces g.H.Handler.after_gives) (WorksInPieces g.H.Handler.after_cut) _ start _ _ left failed _ _ _ _ _ _ _ _ total _ _ p
    (lent _ _ _ c.args.found c.held.ensures.bytes refl c.requires.front) a.0 a.1 a.2

pub returns-in-Err-clause-pieces : goal.returns-in-Err-clause-pieces
returns-in-Err-clause-pieces g c = λ start left failed total p.
    after_short (AsksInPieces g.H.Handler.asks g.K.Sink.writes) (CutsInPieces g.H.Handler.asks_cut) (WorksInPieces g.H.Handler.after_gives) (WorksInPieces g.H.Handler.after_cut) _ start _ _ _ left failed _ _ _ _ _ _ _ _ total _ _ p
    (lent _ _ _ c.args.found c.held.ensures.bytes refl c.requires.front) c.in-Sent.ensures.pieces (refl, c.in-Err.ensures.cut, refl, refl)

pub returns-then-found-clause-pieces : goal.returns-then-found-clause-pieces
returns-then-found-clause-pieces g c = λ start left failed total p.
    closes_after (AsksInPieces g.H.Handler.asks g.K.Sink.writes) (CutsInPieces g.H.Handler.asks_cut) (WorksInPieces g.H.Handler.after_gives) (WorksInPieces g.H.Handler.after_cut) _ start _ _ _ left failed _ _ _ _ _ _ _ _ total _ _ p
    (lent _ _ _ c.args.found c.held.ensures.bytes refl c.requires.front) c.if-found.true (omega (arith, p.room, length-drop c.args.found.end c.args.window.now)) c.in-Sent.ensures.pieces (refl, c.in-Ok.ensures.done, refl, refl)

pub returns-clause-pieces : goal.returns-clause-pieces
returns-clause-pieces g c = λ start left failed total p.
    goes_on (AsksInPieces g.H.Handler.asks g.K.Sink.writes) (WorksInPieces g.H.Handler.after_gives) _ start _ _ _ left failed _ _ _ _ _ _ _ _ total _ _ p
    (lent _ _ _ c.args.found c.held.ensures.bytes c.drop_front.ensures c.requires.front) c.if-found.false (omega (arith, p.room, ap length c.drop_front.ensures, length-drop c.args.found.end c.args.window.now)) c.in-Sent.ensures.pieces (refl, c.in-Ok.ensures.done, refl, refl)
