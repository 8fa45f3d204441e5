-- What the end of a session means for its run.
use Rattle.std.proofs.Common.{◌≡◌, ℕ, List, [], ◌∷◌, take, Option, sym, subst, inl, inr}
use Rattle.http_session.specs.declared.report.ClockMode.TheVariants.{Leave}
use Rattle.http_session.specs.declared.report.SessionEnd.{SessionEnd}
use Rattle.http_session.specs.declared.report.SessionEnd.TheVariants.{Clean, Closed, Cut, Bad, ReadFault, WriteFault, TooLong, Memory}
use Rattle.http_session.specs.declared.message.Asked.{Asked}
use Rattle.http_session.specs.Session as session
use Rattle.http_session.specs.Session.{SessionState, Finishes}
use Rattle.api_server.specs.Ask.{WorldView, Asks, AskCut, After, AfterCut}
use Rattle.control_cli.specs.declared.status.Status.{Status}
use Rattle.control_cli.specs.Ends.{status_of}
use Rattle.control_cli.specs.declared.status.Status.TheVariants.{Memory as NoMemory}
use Rattle.control_cli.specs.Runs.{Answers, CutsReply, CutsRefusal, CutsAfter, CutsAsk, ReplayLeaves}
use Rattle.control_cli.proofs.Replays.{replays, last_none}

-- a session's answers, under an end that follows from its own
answers : (old new : SessionState WorldView) (answered : ℕ) (tail : List ℕ) (IsEnd IsEnd' : List ℕ → List Asked → Type 0)
    → ((bytes : List ℕ) (asked : List Asked) → IsEnd bytes asked → IsEnd' bytes asked)
    → session.Answered Asks After Leave old new answered tail IsEnd → Answers old new tail IsEnd'
answers old new answered tail IsEnd IsEnd' means a = record {
  bytes = a.bytes;
  done = a.done;
  replays = replays old new a.bytes a.done new.handler tail [] a.served;
  end = means a.bytes (session.asked_in a.done) a.end;
}

cuts_reply : (old new : SessionState WorldView) (answered : ℕ) → session.CutsReply Asks After Leave old new answered → CutsReply old new
cuts_reply old new answered a = record {
  bytes = a.bytes;
  done = a.done;
  last = a.last;
  exchange = a.exchange;
  sent = a.sent;
  replays = replays old new a.bytes a.done a.last (take a.sent (session.exchange_bytes a.exchange)) (a.exchange.now ∷ []) a.served;
  next = a.next;
  no_moment = last_none old.moments new.moments (session.moments_in a.done) a.exchange.now a.served.moments;
  asked = a.asked;
  proper = a.proper;
}

cuts_refusal : (old new : SessionState WorldView) (answered : ℕ) → session.CutsRefusal Asks After Leave old new answered → CutsRefusal old new
cuts_refusal old new answered (fault, sent, proper, a) = (fault, sent, proper, answers old new answered _ _ _ (λ bytes asked e. e) a)

cuts_after : (old new : SessionState WorldView) (answered : ℕ) → session.CutsAfter Asks After AfterCut Leave old new answered → CutsAfter old new
cuts_after old new answered a = record {
  bytes = a.bytes;
  done = a.done;
  last = a.last;
  middle = a.middle;
  exchange = a.exchange;
  replays = replays old new a.bytes a.done a.last (session.exchange_bytes a.exchange) (a.exchange.now ∷ []) a.served;
  next = a.next;
  no_moment = last_none old.moments new.moments (session.moments_in a.done) a.exchange.now a.served.moments;
  asked = a.asked;
  cut = a.cut;
}

cuts_ask : (old new : SessionState WorldView) (answered : ℕ) → session.CutsAsk Asks AskCut After Leave old new answered → CutsAsk old new
cuts_ask old new answered a = record {
  bytes = a.bytes;
  done = a.done;
  last = a.last;
  asked = a.asked;
  replays = replays old new a.bytes a.done a.last [] (a.now ∷ []) a.served;
  next = a.next;
  cut = subst (λ (now : Option ℕ). AskCut a.last now a.asked.request new.handler)
      (last_none old.moments new.moments (session.moments_in a.done) a.now a.served.moments) a.cut;
}

short : (old new : SessionState WorldView) (answered : ℕ) → Finishes Asks AskCut After AfterCut Leave old new answered Memory → ReplayLeaves old new NoMemory
short old new answered f = elim f [
  | inl a ↦ inl (answers old new answered [] _ _ (λ bytes asked e. e) a)
  | inr g ↦ inr (elim g [ inl a ↦ inl (cuts_after old new answered a) | inr a ↦ inr (cuts_ask old new answered a) ])
]

pub leaves : (old new : SessionState WorldView) (answered : ℕ) (end : SessionEnd)
    → Finishes Asks AskCut After AfterCut Leave old new answered end → ReplayLeaves old new (status_of end)
leaves old new answered Clean a = answers old new answered [] _ _ (λ bytes asked e. inl (e.stream, e.all, e.short)) a
leaves old new answered Cut a = answers old new answered [] _ _ (λ bytes asked e. (e.stream, e.all, e.short)) a
leaves old new answered Closed a = answers old new answered [] _ _ (λ bytes asked e. inr e) a
leaves old new answered (Bad fault) a = (fault, answers old new answered _ _ _ (λ bytes asked e. e) a)
leaves old new answered ReadFault (rose, a) = (rose, answers old new answered [] _ _ (λ bytes asked e. e) a)
leaves old new answered TooLong a = answers old new answered [] _ _ (λ bytes asked e. e) a
leaves old new answered WriteFault (rose, f) = (rose, elim f [ inl a ↦ inl (cuts_reply old new answered a) | inr a ↦ inr (cuts_refusal old new answered a) ])
leaves old new answered Memory f = short old new answered f

pub leaves_as : (old new : SessionState WorldView) (answered : ℕ) (end : SessionEnd) (status : Status) → status ≡ status_of end
    → Finishes Asks AskCut After AfterCut Leave old new answered end → ReplayLeaves old new status
leaves_as old new answered end status is f = subst (λ s. ReplayLeaves old new s) (sym is) (leaves old new answered end f)
