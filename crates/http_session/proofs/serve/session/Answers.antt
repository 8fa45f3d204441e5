use Rattle.std.proofs.Common.{arith, length, ap, refl, []}
use Rattle.http_session.specs.Pieces.{AsksInPieces, CutsInPieces, WorksInPieces}
use Rattle.http_session.proofs.PieceLemmas.{hands_over}
use Rattle.http_session.proofs.RunLemmas.{begins, short_at_once}
use Rattle.http_session.proofs.serve.session.Goals as goal

pub returns-in_default-clause-finishes : goal.returns-in_default-clause-finishes
returns-in_default-clause-finishes g c =
    short_at_once g.H.Handler.asks g.H.Handler.asks_cut g.H.Handler.after_gives g.H.Handler.after_cut c.args.mode _ _ _ _ _ _

pub loop-end-init : goal.loop-end-init
loop-end-init g c =
    let new = c.in-Ok.ensures in record {
      most = omega (arith, new.total);
      few = omega (arith, new.total, new.answered, ap length new.window);
      calm = refl;
      calm_sink = refl;
      clock = λ _. refl;
      progress = begins g.H.Handler.asks g.H.Handler.after_gives c.args.mode _ _ _ _ _ _ _ _ _ new.window new.total new.answered;
      pieces = begins (AsksInPieces g.H.Handler.asks g.K.Sink.writes) (WorksInPieces g.H.Handler.after_gives) c.args.mode _ _ _ _ _ _ _ _ _ new.window new.total new.answered;
    }

pub returns-in_default-clause-exchanges : goal.returns-in_default-clause-exchanges
returns-in_default-clause-exchanges g c = short_at_once (AsksInPieces g.H.Handler.asks g.K.Sink.writes) (CutsInPieces g.H.Handler.asks_cut) (WorksInPieces g.H.Handler.after_gives) (WorksInPieces g.H.Handler.after_cut) c.args.mode _ _ _ _ _ _

pub returns-in_default-clause-pieces : goal.returns-in_default-clause-pieces
returns-in_default-clause-pieces g c = ([], refl, refl)

pub returns-in-Some-clause-pieces : goal.returns-in-Some-clause-pieces
returns-in-Some-clause-pieces g c =
    hands_over g.H.Handler.asks g.H.Handler.asks_cut g.H.Handler.after_gives g.H.Handler.after_cut g.K.Sink.writes c.args.mode _ _ _ _ c.in-Some.end
    (c.in-Some.ensures.pieces _ c.loop-end.invariant.pieces)
