-- What a session does with a handler, over a source, a sink and a clock.
use Rattle.std.specs.Prelude.{◌≡◌, ℕ, ◌+◌, ◌<◌, ◌≤◌, ◌⊎◌, List, [], ◌∷◌, ◌++◌, length, map, take, Option, Some, None, ⊤}
use Rattle.std.specs.List.{flat_map}
use Rattle.std.specs.Io.KnownBytes.{Consumes, Appends}
use Rattle.serve_io.specs.Causes.{Rose}
use Rattle.serve_io.specs.Clock.{Ticks}
use Rattle.http_session.specs.declared.report.HeadFault.{HeadFault}
use Rattle.http_session.specs.declared.report.ClockMode.{ClockMode}
use Rattle.http_session.specs.declared.report.ClockMode.TheVariants.{Ask, Leave}
use Rattle.http_session.specs.declared.report.SessionEnd.{SessionEnd}
use Rattle.http_session.specs.declared.report.SessionEnd.TheVariants.{Clean, Closed, Cut, Bad, ReadFault, WriteFault, TooLong, Memory}
use Rattle.http_session.specs.declared.message.Asked.{Asked}
use Rattle.http_session.specs.declared.message.Request.{Request}
use Rattle.http_session.specs.declared.message.Reply.{Reply}
use Rattle.http_session.specs.declared.stream.StreamEnd.{StreamEnd}
use Rattle.http_session.specs.declared.stream.StreamEnd.TheVariants as stream
use Rattle.http_session.specs.Stream.{IsStream, Reads, BeginsWith, IsNext, IsUnfinished}
use Rattle.http_session.specs.Reply.{reply_bytes, fault_bytes}

-- a request that was handed over, with its moment and its reply
pub record Exchange : Type 0 where
  pub asked : Asked
  pub now : Option ℕ
  pub reply : Reply

-- the bytes of its reply
abbrev pub exchange_bytes : Exchange → List ℕ
exchange_bytes x = reply_bytes x.asked x.reply

-- the requests, the moments and the bytes of the replies, each in order
abbrev pub asked_in : List Exchange → List Asked
asked_in xs = map (λ x. x.asked) xs

abbrev pub moments_in : List Exchange → List (Option ℕ)
moments_in xs = map (λ x. x.now) xs

abbrev pub replies_in : List Exchange → List ℕ
replies_in xs = flat_map exchange_bytes xs

-- each request is answered in turn, and after each reply the handler does its own work
abbrev pub Run : {H : Type 0} → (H → Option ℕ → Request → Reply → H → Type 0) → (H → H → Type 0) → H → List Exchange → H → Type 0
Run asks after old [] new = new ≡ old
Run {H} asks after old (x ∷ later) new =
    (answered : H) × (next : H) × asks old x.now x.asked.request x.reply answered × after answered next × Run asks after next later new

-- the moment of one request: in mode `Ask` the clock's next one
abbrev pub TakesMoment : ClockMode → Option (List ℕ) → Option ℕ → Option (List ℕ) → Type 0
TakesMoment Leave old now new = (now ≡ None) × (new ≡ old)
TakesMoment Ask old now new = (moment : ℕ) × (now ≡ Some moment) × Ticks old new moment

-- the moments of some requests, one after another
abbrev pub TakesMoments : ClockMode → Option (List ℕ) → List (Option ℕ) → Option (List ℕ) → Type 0
TakesMoments mode old [] new = new ≡ old
TakesMoments mode old (now ∷ later) new = (middle : Option (List ℕ)) × TakesMoment mode old now middle × TakesMoments mode middle later new

-- the handler, what the source has left, what the sink took, the clock's moments, and the counts of faults
pub record SessionState (H : Type 0) : Type 0 where
  pub handler : H
  pub left : Option (List ℕ)
  pub reads_failed : ℕ
  pub taken : Option (List ℕ)
  pub writes_failed : ℕ
  pub moments : Option (List ℕ)

-- the same, by its parts
abbrev pub state_of : {H : Type 0} → H → Option (List ℕ) → ℕ → Option (List ℕ) → ℕ → Option (List ℕ) → SessionState H
state_of handler left reads_failed taken writes_failed moments = record {
  handler = handler;
  left = left;
  reads_failed = reads_failed;
  taken = taken;
  writes_failed = writes_failed;
  moments = moments;
}

-- at most 73,728 bytes were taken behind those of the requests
abbrev pub IsBounded : List ℕ → List Asked → Type 0
IsBounded bytes asked = (rest : List ℕ) × BeginsWith bytes asked rest × (length rest ≤ 73728)

-- from old to new these bytes were taken from the source, these requests were answered, then these bytes were
-- written, and these moments were taken for a request that was not answered; the handler stood at `last` after
-- the requests and the work behind each
pub record Served {H : Type 0} (asks : H → Option ℕ → Request → Reply → H → Type 0) (after : H → H → Type 0) (mode : ClockMode)
    (old new : SessionState H) (bytes : List ℕ) (done : List Exchange) (last : H) (tail : List ℕ) (more : List (Option ℕ)) : Type 0 where
  pub run : Run asks after old.handler done last
  pub consumed : Consumes old.left new.left bytes
  pub written : Appends old.taken new.taken (replies_in done ++ tail)
  pub moments : TakesMoments mode old.moments (moments_in done ++ more) new.moments
  pub reads_later : old.reads_failed ≤ new.reads_failed
  pub writes_later : old.writes_failed ≤ new.writes_failed
  pub bounded : IsBounded bytes (asked_in done)

-- the bytes are all that there were, where these are told
abbrev pub IsAll : Option (List ℕ) → List ℕ → Type 0
IsAll None bytes = ⊤
IsAll (Some all) bytes = all ≡ bytes

-- the source was read to its end, and the stream ends so
pub record EndsThere (left : Option (List ℕ)) (end : StreamEnd) (bytes : List ℕ) (asked : List Asked) : Type 0 where
  pub stream : IsStream bytes asked end
  pub all : IsAll left bytes
  pub short : length bytes < 4294967295

-- the requests that are whole were answered, with the handler's own work behind each, and then `tail` was written
pub record Answered {H : Type 0} (asks : H → Option ℕ → Request → Reply → H → Type 0) (after : H → H → Type 0) (mode : ClockMode)
    (old new : SessionState H) (answered : ℕ) (tail : List ℕ) (IsEnd : List ℕ → List Asked → Type 0) : Type 0 where
  pub bytes : List ℕ
  pub done : List Exchange
  pub served : Served asks after mode old new bytes done new.handler tail []
  pub end : IsEnd bytes (asked_in done)
  pub count : answered ≡ length done

-- a proper prefix of the reply to the next request was written; the handler's own work behind it was not begun
pub record CutsReply {H : Type 0} (asks : H → Option ℕ → Request → Reply → H → Type 0) (after : H → H → Type 0) (mode : ClockMode)
    (old new : SessionState H) (answered : ℕ) : Type 0 where
  pub bytes : List ℕ
  pub done : List Exchange
  pub last : H
  pub exchange : Exchange
  pub sent : ℕ
  pub served : Served asks after mode old new bytes done last (take sent (exchange_bytes exchange)) (exchange.now ∷ [])
  pub next : IsNext bytes (asked_in done) exchange.asked
  pub asked : asks last exchange.now exchange.asked.request exchange.reply new.handler
  pub proper : sent < length (exchange_bytes exchange)
  pub count : answered ≡ length done

-- a proper prefix of the refusal of a head was written
abbrev pub CutsRefusal : {H : Type 0} → (H → Option ℕ → Request → Reply → H → Type 0) → (H → H → Type 0) → ClockMode
    → SessionState H → SessionState H → ℕ → Type 0
CutsRefusal asks after mode old new answered =
    (fault : HeadFault) × (sent : ℕ) × (sent < length (fault_bytes fault))
    × Answered asks after mode old new answered (take sent (fault_bytes fault)) (λ bytes asked. IsStream bytes asked (stream.Bad fault))

-- out of memory for the handler's own work behind the last reply
pub record CutsAfter {H : Type 0} (asks : H → Option ℕ → Request → Reply → H → Type 0) (after after_cut : H → H → Type 0)
    (mode : ClockMode) (old new : SessionState H) (answered : ℕ) : Type 0 where
  pub bytes : List ℕ
  pub done : List Exchange
  pub last : H
  pub middle : H
  pub exchange : Exchange
  pub served : Served asks after mode old new bytes done last (exchange_bytes exchange) (exchange.now ∷ [])
  pub next : IsNext bytes (asked_in done) exchange.asked
  pub asked : asks last exchange.now exchange.asked.request exchange.reply middle
  pub cut : after_cut middle new.handler
  pub count : answered ≡ length done + 1

-- out of memory for the next request
pub record CutsAsk {H : Type 0} (asks : H → Option ℕ → Request → Reply → H → Type 0) (asks_cut : H → Option ℕ → Request → H → Type 0)
    (after : H → H → Type 0) (mode : ClockMode) (old new : SessionState H) (answered : ℕ) : Type 0 where
  pub bytes : List ℕ
  pub done : List Exchange
  pub last : H
  pub asked : Asked
  pub now : Option ℕ
  pub served : Served asks after mode old new bytes done last [] (now ∷ [])
  pub next : IsNext bytes (asked_in done) asked
  pub cut : asks_cut last now asked.request new.handler
  pub count : answered ≡ length done

-- what holds at the end of a session
abbrev pub Finishes : {H : Type 0} → (H → Option ℕ → Request → Reply → H → Type 0) → (H → Option ℕ → Request → H → Type 0)
    → (H → H → Type 0) → (H → H → Type 0) → ClockMode → SessionState H → SessionState H → ℕ → SessionEnd → Type 0
Finishes asks asks_cut after after_cut mode old new answered Clean =
    Answered asks after mode old new answered [] (EndsThere old.left stream.Clean)
Finishes asks asks_cut after after_cut mode old new answered Cut =
    Answered asks after mode old new answered [] (EndsThere old.left stream.Cut)
Finishes asks asks_cut after after_cut mode old new answered Closed =
    Answered asks after mode old new answered [] (λ bytes asked. IsStream bytes asked stream.Closed)
Finishes asks asks_cut after after_cut mode old new answered (Bad fault) =
    Answered asks after mode old new answered (fault_bytes fault) (λ bytes asked. IsStream bytes asked (stream.Bad fault))
Finishes asks asks_cut after after_cut mode old new answered ReadFault =
    Rose old.reads_failed new.reads_failed
    × Answered asks after mode old new answered [] (λ bytes asked. IsUnfinished bytes asked × (length bytes < 4294967295))
Finishes asks asks_cut after after_cut mode old new answered TooLong =
    Answered asks after mode old new answered [] (λ bytes asked. IsUnfinished bytes asked × (length bytes ≡ 4294967295))
Finishes asks asks_cut after after_cut mode old new answered WriteFault =
    Rose old.writes_failed new.writes_failed
    × (CutsReply asks after mode old new answered ⊎ CutsRefusal asks after mode old new answered)
Finishes asks asks_cut after after_cut mode old new answered Memory =
    Answered asks after mode old new answered [] (λ bytes asked. (rest : List ℕ) × Reads bytes asked rest)
    ⊎ (CutsAfter asks after after_cut mode old new answered ⊎ CutsAsk asks asks_cut after mode old new answered)
