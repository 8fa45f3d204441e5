-- What a session leaves that is served over a world, by its end.
use Rattle.std.specs.Prelude.{◌≡◌, ◌⊎◌, ℕ, ◌+◌, ◌<◌, max, List, [], ◌++◌, length, map, take, replicate, Option, Some, None}
use Rattle.std.specs.Io.KnownBytes.{Consumes, Appends}
use Rattle.serve_io.specs.Causes.{Rose}
use Rattle.serve_io.specs.Clock.{Ticks}
use Rattle.serve_io.specs.Gate.{Ends}
use Rattle.http_session.specs.declared.message.Asked.{Asked}
use Rattle.http_session.specs.declared.message.Request.{Request}
use Rattle.http_session.specs.declared.message.Reply.{Reply}
use Rattle.http_session.specs.declared.report.ClockMode.{ClockMode}
use Rattle.http_session.specs.declared.report.ClockMode.TheVariants.{Ask, Leave}
use Rattle.http_session.specs.declared.report.HeadFault.{HeadFault}
use Rattle.http_session.specs.declared.report.SessionEnd.{SessionEnd}
use Rattle.http_session.specs.declared.report.SessionEnd.TheVariants.{Clean, Closed, Cut, Bad, ReadFault, WriteFault, TooLong, Memory}
use Rattle.http_session.specs.declared.stream.StreamEnd.TheVariants as stream
use Rattle.http_session.specs.Stream.{IsStream, Reads, IsNext, IsUnfinished}
use Rattle.http_session.specs.Reply.{fault_bytes}
use Rattle.http_session.specs.Session.{Exchange, exchange_bytes, asked_in, moments_in, replies_in, Run, EndsThere}
use Rattle.api_server.specs.declared.mark.Mark.{Mark}
use Rattle.api_server.specs.Ask.{WorldView, Asks, AskCut, After, AfterCut}

-- ---- a world and its clock

-- a world, and the moments that the clock holds, where it tells them
pub record TimedWorld : Type 0 where
  pub world : WorldView
  pub clock : Option (List ℕ)

-- the same, by its parts
abbrev pub timed : WorldView → Option (List ℕ) → TimedWorld
timed world clock = record { world = world; clock = clock }

-- the moment of a request: none where the clock is left alone, and else the greater of the moment before it and the clock's next one
abbrev pub IsMoment : ClockMode → TimedWorld → Option ℕ → Option (List ℕ) → Type 0
IsMoment Leave w now clock = (now ≡ None) × (clock ≡ w.clock)
IsMoment Ask w now clock = (tick : ℕ) × Ticks w.clock clock tick × (now ≡ Some (max w.world.plane.now tick))

-- a request at its moment, and its reply
pub record AsksAt (mode : ClockMode) (old : TimedWorld) (now : Option ℕ) (request : Request) (reply : Reply) (new : TimedWorld) : Type 0 where
  pub moment : IsMoment mode old now new.clock
  pub asked : Asks old.world now request reply new.world

-- a request at its moment, for which memory ran out
pub record AskCutAt (mode : ClockMode) (old : TimedWorld) (now : Option ℕ) (request : Request) (new : TimedWorld) : Type 0 where
  pub moment : IsMoment mode old now new.clock
  pub cut : AskCut old.world now request new.world

-- behind a reply the world makes its automatic steps, and where memory ran out some of them; the clock isn't asked
abbrev pub AfterAt : TimedWorld → TimedWorld → Type 0
AfterAt old new = After old.world new.world × (new.clock ≡ old.clock)

abbrev pub AfterCutAt : TimedWorld → TimedWorld → Type 0
AfterCutAt old new = AfterCut old.world new.world × (new.clock ≡ old.clock)

-- ---- the session

-- the moments of these requests: none where the clock is left alone, and else those of their marks
abbrev pub HaveMoments : ClockMode → List (Option ℕ) → List Mark → Type 0
HaveMoments Leave moments marks = moments ≡ replicate (length marks) None
HaveMoments Ask moments marks = moments ≡ map (λ mark. Some mark.moment) marks

-- The bytes were taken. These requests were answered over the world, one after another and each at its moment, with the world's own work behind
-- each and one more mark for each. Their replies were written, and then `tail`. The world stood at `last` behind them.
pub record Answers (mode : ClockMode) (came back : Ends) (old last : TimedWorld) (bytes : List ℕ) (done : List Exchange) (tail : List ℕ) : Type 0 where
  pub run : Run (AsksAt mode) AfterAt old done last
  pub marks : List Mark
  pub marked : last.world.marks ≡ old.world.marks ++ marks
  pub counted : length marks ≡ length done
  pub moments : HaveMoments mode (moments_in done) marks
  pub consumed : Consumes came.left back.left bytes
  pub written : Appends came.taken back.taken (replies_in done ++ tail)

-- the requests that were answered are what these bytes say
pub record AnswersAll (mode : ClockMode) (came back : Ends) (old new : TimedWorld) (answered : ℕ) (tail : List ℕ) (IsEnd : List ℕ → List Asked → Type 0)
    : Type 0 where
  pub bytes : List ℕ
  pub done : List Exchange
  pub answers : Answers mode came back old new bytes done tail
  pub end : IsEnd bytes (asked_in done)
  pub count : answered ≡ length done

-- These requests were answered, and a proper prefix of the reply to the next one was written. The world is that behind this one, without its own work
-- behind it.
pub record CutsReply (mode : ClockMode) (came back : Ends) (old new : TimedWorld) (answered : ℕ) : Type 0 where
  pub bytes : List ℕ
  pub done : List Exchange
  pub last : TimedWorld
  pub exchange : Exchange
  pub sent : ℕ
  pub answers : Answers mode came back old last bytes done (take sent (exchange_bytes exchange))
  pub next : IsNext bytes (asked_in done) exchange.asked
  pub asked : AsksAt mode last exchange.now exchange.asked.request exchange.reply new
  pub proper : sent < length (exchange_bytes exchange)
  pub count : answered ≡ length done

-- these requests were answered, and a proper prefix of the reply to a bad head was written
abbrev pub CutsRefusal : ClockMode → Ends → Ends → TimedWorld → TimedWorld → ℕ → Type 0
CutsRefusal mode came back old new answered = (fault : HeadFault) × (sent : ℕ) × (sent < length (fault_bytes fault))
    × AnswersAll mode came back old new answered (take sent (fault_bytes fault)) (λ bytes asked. IsStream bytes asked (stream.Bad fault))

-- These requests were answered, and the reply to the next one was written whole. Memory ran out for the world's own work behind it, of which a part was
-- made.
pub record CutsAfter (mode : ClockMode) (came back : Ends) (old new : TimedWorld) (answered : ℕ) : Type 0 where
  pub bytes : List ℕ
  pub done : List Exchange
  pub last : TimedWorld
  pub middle : TimedWorld
  pub exchange : Exchange
  pub answers : Answers mode came back old last bytes done (exchange_bytes exchange)
  pub next : IsNext bytes (asked_in done) exchange.asked
  pub asked : AsksAt mode last exchange.now exchange.asked.request exchange.reply middle
  pub cut : AfterCutAt middle new
  pub count : answered ≡ length done + 1

-- these requests were answered, and memory ran out for the next one
pub record CutsAsk (mode : ClockMode) (came back : Ends) (old new : TimedWorld) (answered : ℕ) : Type 0 where
  pub bytes : List ℕ
  pub done : List Exchange
  pub last : TimedWorld
  pub asked : Asked
  pub now : Option ℕ
  pub answers : Answers mode came back old last bytes done []
  pub next : IsNext bytes (asked_in done) asked
  pub cut : AskCutAt mode last now asked.request new
  pub count : answered ≡ length done

-- what a session leaves, by its end: its two ends as they came and as they are behind it, the world, and how many replies were written whole
abbrev pub Leaves : ClockMode → Ends → Ends → TimedWorld → TimedWorld → ℕ → SessionEnd → Type 0
Leaves mode came back old new answered Clean = AnswersAll mode came back old new answered [] (EndsThere came.left stream.Clean)
Leaves mode came back old new answered Cut = AnswersAll mode came back old new answered [] (EndsThere came.left stream.Cut)
Leaves mode came back old new answered Closed = AnswersAll mode came back old new answered [] (λ bytes asked. IsStream bytes asked stream.Closed)
Leaves mode came back old new answered (Bad fault) =
    AnswersAll mode came back old new answered (fault_bytes fault) (λ bytes asked. IsStream bytes asked (stream.Bad fault))
Leaves mode came back old new answered ReadFault =
    Rose came.reads_failed back.reads_failed
    × AnswersAll mode came back old new answered [] (λ bytes asked. IsUnfinished bytes asked × (length bytes < 4294967295))
Leaves mode came back old new answered TooLong =
    AnswersAll mode came back old new answered [] (λ bytes asked. IsUnfinished bytes asked × (length bytes ≡ 4294967295))
Leaves mode came back old new answered WriteFault =
    Rose came.writes_failed back.writes_failed
    × (CutsReply mode came back old new answered ⊎ CutsRefusal mode came back old new answered)
Leaves mode came back old new answered Memory =
    AnswersAll mode came back old new answered [] (λ bytes asked. (rest : List ℕ) × Reads bytes asked rest)
    ⊎ (CutsAfter mode came back old new answered ⊎ CutsAsk mode came back old new answered)
