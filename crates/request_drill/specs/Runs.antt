-- What a run over the requests of some bytes leaves of a world.
use Rattle.std.specs.Prelude.{◌≡◌, ◌⊎◌, ℕ, nat_le, List, length, replicate, count_by, None}
use Rattle.http_session.specs.declared.message.Asked.{Asked}
use Rattle.http_session.specs.declared.stream.StreamEnd.{StreamEnd}
use Rattle.http_session.specs.Stream.{IsStream, BeginsWith, IsNext}
use Rattle.http_session.specs.Session.{Exchange, asked_in, moments_in, Run}
use Rattle.api_server.specs.Ask.{WorldView, Asks, AskCut, After}

-- these requests were answered, one after another and without moments, with the world's own work behind each
pub record Answers (old : WorldView) (done : List Exchange) (new : WorldView) : Type 0 where
  pub run : Run Asks After old done new
  pub no_moments : moments_in done ≡ replicate (length done) None

-- they are all requests of the bytes, up to the end of these as a stream
pub record RunsOver (bytes : List ℕ) (old : WorldView) (done : List Exchange) (new : WorldView) : Type 0 where
  pub answers : Answers old done new
  pub end : StreamEnd
  pub stream : IsStream bytes (asked_in done) end

-- how many replies refuse: they have a code from 400
abbrev pub refusals : List Exchange → ℕ
refusals done = count_by (λ x. nat_le 400 x.reply.code) done

-- ---- out of memory

-- the first requests of the bytes were answered
pub record StopsBehind (bytes : List ℕ) (old new : WorldView) : Type 0 where
  pub done : List Exchange
  pub answers : Answers old done new
  pub rest : List ℕ
  pub first : BeginsWith bytes (asked_in done) rest

-- the first requests of the bytes were answered, and memory ran out for the next one
pub record StopsInside (bytes : List ℕ) (old new : WorldView) : Type 0 where
  pub done : List Exchange
  pub last : WorldView
  pub asked : Asked
  pub answers : Answers old done last
  pub next : IsNext bytes (asked_in done) asked
  pub cut : AskCut last None asked.request new

abbrev pub Stops : List ℕ → WorldView → WorldView → Type 0
Stops bytes old new = StopsBehind bytes old new ⊎ StopsInside bytes old new
