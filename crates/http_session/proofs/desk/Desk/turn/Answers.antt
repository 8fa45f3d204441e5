use Rattle.std.proofs.Common.{List, ℕ, sym, subst, ◌≡◌, ◌∙◌, refl, inr}
use Rattle.http_session.specs.Stream.{IsFront, Front, clean, cut, bad}
use Rattle.http_session.specs.Pieces.{AsksInPieces, CutsInPieces, WorksInPieces}
use Rattle.http_session.specs.declared.report.SessionEnd.TheVariants.{Clean, Cut}
use Rattle.http_session.proofs.PieceLemmas.{reads_in_pieces}
use Rattle.http_session.proofs.RunLemmas.{bad_sent, bad_cut, cuts_refusal, rose_since}
use Rattle.http_session.specs.Front.{IsAwaiting}
use Rattle.http_session.proofs.ReadLemmas.{reads_clean, reads_cut, awaits_cut}
use Rattle.http_session.proofs.desk.Desk.turn.Goals as goal

lent : (window held : List ℕ) (front : Front) → held ≡ window → IsFront held front → IsFront window front
lent window held front e is = subst (λ (xs : List ℕ). IsFront xs front) e is

waits : (window held : List ℕ) (n : ℕ) → held ≡ window → IsAwaiting held n → IsAwaiting window n
waits window held n e a = subst (λ (xs : List ℕ). IsAwaiting xs n) e a

pub returns-in-Whole-clause-turn : goal.returns-in-Whole-clause-turn
returns-in-Whole-clause-turn g c = λ start p. c.serve_one.ensures.turn start _ _ _ p

pub returns-then-send_fault-clause-turn : goal.returns-then-send_fault-clause-turn
returns-then-send_fault-clause-turn g c = λ start p.
    let sent = (rw c.if-send_fault.true at c.send_fault.ensures.sends) in
    bad_sent g.H.Handler.asks g.H.Handler.asks_cut g.H.Handler.after_gives g.H.Handler.after_cut _ start _ _ _ _ _ _ _ _ _ _ _ c.in-Bad.fault p
    (lent _ _ (bad c.in-Bad.fault) c.held.ensures.bytes c.in-Bad.ensures.front) sent

pub returns-else-send_fault-clause-turn : goal.returns-else-send_fault-clause-turn
returns-else-send_fault-clause-turn g c = λ start p.
    let sent = (rw c.if-send_fault.false at c.send_fault.ensures.sends) in
    bad_cut g.H.Handler.asks g.H.Handler.asks_cut g.H.Handler.after_gives g.H.Handler.after_cut _ start _ _ _ _ _ _ _ _ _ _ _ c.in-Bad.fault p
    (lent _ _ (bad c.in-Bad.fault) c.held.ensures.bytes c.in-Bad.ensures.front) sent

pub returns-in-Clean-clause-turn : goal.returns-in-Clean-clause-turn
returns-in-Clean-clause-turn g c = λ start p.
    rw c.end_of.ensures
    (reads_clean g.H.Handler.asks g.H.Handler.asks_cut g.H.Handler.after_gives g.H.Handler.after_cut _ start _ _ _ _ _ _ _ _ _ _ _ _ _ c.read_more-more.result p
    c.read_more-more.ensures.bytes c.read_more-more.ensures.room
    (λ ne. lent _ _ clean (c.held.ensures.bytes ∙ sym (c.read_more-more.ensures.kept ne)) c.in-Clean.ensures.front))

pub returns-in-Cut-clause-turn : goal.returns-in-Cut-clause-turn
returns-in-Cut-clause-turn g c = λ start p.
    rw c.end_of-in-Cut.ensures
    (reads_cut g.H.Handler.asks g.H.Handler.asks_cut g.H.Handler.after_gives g.H.Handler.after_cut _ start _ _ _ _ _ _ _ _ _ _ _ _ _ c.read_more-more-in-Cut.result p
    c.read_more-more-in-Cut.ensures.bytes c.read_more-more-in-Cut.ensures.room
    (λ ne. lent _ _ cut (c.held.ensures.bytes ∙ sym (c.read_more-more-in-Cut.ensures.kept ne)) c.in-Cut.ensures.front))

pub returns-in-Awaits-clause-turn : goal.returns-in-Awaits-clause-turn
returns-in-Awaits-clause-turn g c = λ start p.
    let r = c.read_until-more.ensures in
    rw c.end_of-in-Awaits.ensures
    (reads_cut g.H.Handler.asks g.H.Handler.asks_cut g.H.Handler.after_gives g.H.Handler.after_cut _ start _ _ _ _ _ _ _ _ _ _ _ _ _ c.read_until-more.result p
    r.bytes r.room
    (λ ne. awaits_cut _ _ c.in-Awaits.wanted _ _ _ _ _ _ (waits _ _ _ c.held.ensures.bytes c.in-Awaits.ensures.awaits) r.bytes.takes (r.missing ne)))

-- ---- the same of a handler beside its sink

pub returns-in-Whole-clause-pieces : goal.returns-in-Whole-clause-pieces
returns-in-Whole-clause-pieces g c = λ start p. c.serve_one.ensures.pieces start _ _ _ p

pub returns-then-send_fault-clause-pieces : goal.returns-then-send_fault-clause-pieces
returns-then-send_fault-clause-pieces g c = λ start p.
    let sent = (rw c.if-send_fault.true at c.send_fault.ensures.sends) in
    let written = (rw c.if-send_fault.true at c.send_fault.ensures.pieces) in (
      _,
      written,
      bad_sent (AsksInPieces g.H.Handler.asks g.K.Sink.writes) (CutsInPieces g.H.Handler.asks_cut) (WorksInPieces g.H.Handler.after_gives) (WorksInPieces g.H.Handler.after_cut) _ start _ _ _ _ _ _ _ _ _ _ _ c.in-Bad.fault p
          (lent _ _ (bad c.in-Bad.fault) c.held.ensures.bytes c.in-Bad.ensures.front) sent,
    )

pub returns-else-send_fault-clause-pieces : goal.returns-else-send_fault-clause-pieces
returns-else-send_fault-clause-pieces g c = λ start p.
    let sent = (rw c.if-send_fault.false at c.send_fault.ensures.sends) in
    let written = (rw c.if-send_fault.false at c.send_fault.ensures.pieces) in
    let cut = cuts_refusal (AsksInPieces g.H.Handler.asks g.K.Sink.writes) (WorksInPieces g.H.Handler.after_gives) _ start _ _ _ _ _ _ _ _ _ _ _ c.in-Bad.fault p
    (lent _ _ (bad c.in-Bad.fault) c.held.ensures.bytes c.in-Bad.ensures.front) sent in (
      rose_since _ _ _ p.served.writes_later (sent.cause.rose refl),
      inr (c.in-Bad.fault, _, written, cut.0, cut.1, cut.2),
    )

pub returns-in-Clean-clause-pieces : goal.returns-in-Clean-clause-pieces
returns-in-Clean-clause-pieces g c = λ start p.
    rw c.end_of.ensures
    (reads_in_pieces g.H.Handler.asks g.H.Handler.asks_cut g.H.Handler.after_gives g.H.Handler.after_cut g.K.Sink.writes _ start _ _ _ _ _ c.read_more-more.result Clean (λ f. f)
    (reads_clean (AsksInPieces g.H.Handler.asks g.K.Sink.writes) (CutsInPieces g.H.Handler.asks_cut) (WorksInPieces g.H.Handler.after_gives) (WorksInPieces g.H.Handler.after_cut) _ start _ _ _ _ _ _ _ _ _ _ _ _ _ c.read_more-more.result p
    c.read_more-more.ensures.bytes c.read_more-more.ensures.room
    (λ ne. lent _ _ clean (c.held.ensures.bytes ∙ sym (c.read_more-more.ensures.kept ne)) c.in-Clean.ensures.front)))

pub returns-in-Cut-clause-pieces : goal.returns-in-Cut-clause-pieces
returns-in-Cut-clause-pieces g c = λ start p.
    rw c.end_of-in-Cut.ensures
    (reads_in_pieces g.H.Handler.asks g.H.Handler.asks_cut g.H.Handler.after_gives g.H.Handler.after_cut g.K.Sink.writes _ start _ _ _ _ _ c.read_more-more-in-Cut.result Cut (λ f. f)
    (reads_cut (AsksInPieces g.H.Handler.asks g.K.Sink.writes) (CutsInPieces g.H.Handler.asks_cut) (WorksInPieces g.H.Handler.after_gives) (WorksInPieces g.H.Handler.after_cut) _ start _ _ _ _ _ _ _ _ _ _ _ _ _ c.read_more-more-in-Cut.result p
    c.read_more-more-in-Cut.ensures.bytes c.read_more-more-in-Cut.ensures.room
    (λ ne. lent _ _ cut (c.held.ensures.bytes ∙ sym (c.read_more-more-in-Cut.ensures.kept ne)) c.in-Cut.ensures.front)))

pub returns-in-Awaits-clause-pieces : goal.returns-in-Awaits-clause-pieces
returns-in-Awaits-clause-pieces g c = λ start p.
    let r = c.read_until-more.ensures in
    rw c.end_of-in-Awaits.ensures
    (reads_in_pieces g.H.Handler.asks g.H.Handler.asks_cut g.H.Handler.after_gives g.H.Handler.after_cut g.K.Sink.writes _ start _ _ _ _ _ c.read_until-more.result Cut (λ f. f)
    (reads_cut (AsksInPieces g.H.Handler.asks g.K.Sink.writes) (CutsInPieces g.H.Handler.asks_cut) (WorksInPieces g.H.Handler.after_gives) (WorksInPieces g.H.Handler.after_cut) _ start _ _ _ _ _ _ _ _ _ _ _ _ _ c.read_until-more.result p
    r.bytes r.room
    (λ ne. awaits_cut _ _ c.in-Awaits.wanted _ _ _ _ _ _ (waits _ _ _ c.held.ensures.bytes c.in-Awaits.ensures.awaits) r.bytes.takes (r.missing ne))))
