-- What a run leaves, by its status.
use Rattle.std.specs.Prelude.{◌≡◌, ◌≢◌, ◌⊎◌, ℕ, ◌+◌, ◌<◌, List, [], ◌++◌, length, take, replicate, Option, None}
use Rattle.std.specs.Option.{IfSome}
use Rattle.std.specs.Io.KnownBytes.{Consumes, Appends}
use Rattle.serve_io.specs.Causes.{Rose}
use Rattle.http_session.specs.declared.message.Asked.{Asked}
use Rattle.http_session.specs.declared.report.HeadFault.{HeadFault}
use Rattle.http_session.specs.declared.stream.StreamEnd.TheVariants as stream
use Rattle.http_session.specs.Stream.{IsStream, Reads, IsNext, IsUnfinished}
use Rattle.http_session.specs.Reply.{fault_bytes}
use Rattle.http_session.specs.Session.{Exchange, exchange_bytes, asked_in, moments_in, replies_in, Run, SessionState, IsAll}
use Rattle.api_server.specs.Ask.{WorldView, Asks, AskCut, After, AfterCut}
use Rattle.command_words.specs.declared.settings.Options.{Options}
use Rattle.control_cli.specs.declared.status.Status.{Status}
use Rattle.control_cli.specs.declared.status.Status.TheVariants.{Done, Usage, ReadFault, WriteFault, Cut, GateFault, BadRequest, ManifestRefused, Memory, TooLong, PollRefused}

-- ---- the world at the start

-- the world refuses the settings of the words: something was written, under others
abbrev pub RefusesSettings : Options → WorldView → Type 0
RefusesSettings options w = (w.plane.journal ≢ []) × (w.plane.settings ≢ options.settings)

-- a session's state at its start: the world has the settings and the automatic steps of the words
abbrev pub set_up : Options → SessionState WorldView → SessionState WorldView
set_up options s = record s { handler = record s.handler { plane = record s.handler.plane { settings = options.settings }; auto = options.auto } }

-- ---- the session

-- The bytes were taken. These requests were answered over the world, one after another and without moments, with the world's own work behind
-- each and one more mark for each. Their replies were written, and then `tail`. The world stood at `last` behind them. The clock wasn't asked.
pub record Replays (old new : SessionState WorldView) (bytes : List ℕ) (done : List Exchange) (last : WorldView) (tail : List ℕ) : Type 0 where
  pub run : Run Asks After old.handler done last
  pub no_moments : moments_in done ≡ replicate (length done) None
  pub marks : length last.marks ≡ length old.handler.marks + length done
  pub consumed : Consumes old.left new.left bytes
  pub written : Appends old.taken new.taken (replies_in done ++ tail)
  pub clock : new.moments ≡ old.moments

-- the requests that were answered are what these bytes say
pub record Answers (old new : SessionState WorldView) (tail : List ℕ) (IsEnd : List ℕ → List Asked → Type 0) : Type 0 where
  pub bytes : List ℕ
  pub done : List Exchange
  pub replays : Replays old new bytes done new.handler tail
  pub end : IsEnd bytes (asked_in done)

-- the input was read to its end, which came before the most bytes that a session takes, or to a request that closes, and these are its requests
-- up to there
abbrev pub IsWhole : Option (List ℕ) → List ℕ → List Asked → Type 0
IsWhole left bytes asked = (IsStream bytes asked stream.Clean × IsAll left bytes × (length bytes < 4294967295)) ⊎ IsStream bytes asked stream.Closed

-- the input ended inside the request behind these, before the most bytes that a session takes
abbrev pub IsCut : Option (List ℕ) → List ℕ → List Asked → Type 0
IsCut left bytes asked = IsStream bytes asked stream.Cut × IsAll left bytes × (length bytes < 4294967295)

-- a head was refused behind these requests, and its reply was written whole
abbrev pub AnswersBad : SessionState WorldView → SessionState WorldView → Type 0
AnswersBad old new = (fault : HeadFault) × Answers old new (fault_bytes fault) (λ bytes asked. IsStream bytes asked (stream.Bad fault))

-- These requests were answered, and a proper prefix of the reply to the next one was written. The world is that behind this one, without its
-- own work behind it.
pub record CutsReply (old new : SessionState WorldView) : Type 0 where
  pub bytes : List ℕ
  pub done : List Exchange
  pub last : WorldView
  pub exchange : Exchange
  pub sent : ℕ
  pub replays : Replays old new bytes done last (take sent (exchange_bytes exchange))
  pub next : IsNext bytes (asked_in done) exchange.asked
  pub no_moment : exchange.now ≡ None
  pub asked : Asks last exchange.now exchange.asked.request exchange.reply new.handler
  pub proper : sent < length (exchange_bytes exchange)

-- these requests were answered, and a proper prefix of the reply to a bad head was written
abbrev pub CutsRefusal : SessionState WorldView → SessionState WorldView → Type 0
CutsRefusal old new = (fault : HeadFault) × (sent : ℕ) × (sent < length (fault_bytes fault))
    × Answers old new (take sent (fault_bytes fault)) (λ bytes asked. IsStream bytes asked (stream.Bad fault))

-- these are the first requests of the bytes
abbrev pub AreFirst : List ℕ → List Asked → Type 0
AreFirst bytes asked = (rest : List ℕ) × Reads bytes asked rest

-- These requests were answered, and the reply to the next one was written whole. Memory ran out for the world's own work behind it, of which a part was
-- made.
pub record CutsAfter (old new : SessionState WorldView) : Type 0 where
  pub bytes : List ℕ
  pub done : List Exchange
  pub last : WorldView
  pub middle : WorldView
  pub exchange : Exchange
  pub replays : Replays old new bytes done last (exchange_bytes exchange)
  pub next : IsNext bytes (asked_in done) exchange.asked
  pub no_moment : exchange.now ≡ None
  pub asked : Asks last exchange.now exchange.asked.request exchange.reply middle
  pub cut : AfterCut middle new.handler

-- these requests were answered, and memory ran out for the next one
pub record CutsAsk (old new : SessionState WorldView) : Type 0 where
  pub bytes : List ℕ
  pub done : List Exchange
  pub last : WorldView
  pub asked : Asked
  pub replays : Replays old new bytes done last []
  pub next : IsNext bytes (asked_in done) asked
  pub cut : AskCut last None asked.request new.handler

-- what the command `replay` leaves
abbrev pub ReplayLeaves : SessionState WorldView → SessionState WorldView → Status → Type 0
ReplayLeaves old new Done = Answers old new [] (IsWhole old.left)
ReplayLeaves old new Cut = Answers old new [] (IsCut old.left)
ReplayLeaves old new BadRequest = AnswersBad old new
ReplayLeaves old new ReadFault =
    Rose old.reads_failed new.reads_failed × Answers old new [] (λ bytes asked. IsUnfinished bytes asked × (length bytes < 4294967295))
ReplayLeaves old new TooLong = Answers old new [] (λ bytes asked. IsUnfinished bytes asked × (length bytes ≡ 4294967295))
ReplayLeaves old new WriteFault = Rose old.writes_failed new.writes_failed × (CutsReply old new ⊎ CutsRefusal old new)
ReplayLeaves old new Memory = Answers old new [] AreFirst ⊎ (CutsAfter old new ⊎ CutsAsk old new)
ReplayLeaves old new Usage = ⊥
ReplayLeaves old new GateFault = ⊥
ReplayLeaves old new ManifestRefused = ⊥
ReplayLeaves old new PollRefused = ⊥

-- Memory ran out before anything else, and all is as before; or the world refuses the settings, and all is as before; or it takes them, and the session
-- runs on the world that is set up.
abbrev pub ReplayRuns : Options → SessionState WorldView → SessionState WorldView → Status → Type 0
ReplayRuns options old new status =
    ((status ≡ Memory) × (new ≡ old))
    ⊎ ((RefusesSettings options old.handler × (status ≡ Usage) × (new ≡ old))
    ⊎ (¬ (RefusesSettings options old.handler) × ReplayLeaves (set_up options old) new status))

-- Where the source tells its bytes, these are a stream that ends well, they are fewer than a session takes, and neither end failed, all is
-- done, or out of memory.
abbrev pub IsComplete : SessionState WorldView → SessionState WorldView → Status → Type 0
IsComplete old new status = IfSome old.left (λ all. (asked : List Asked) → (IsStream all asked stream.Clean ⊎ IsStream all asked stream.Closed)
    → length all < 4294967295 → ¬ (Rose old.reads_failed new.reads_failed) → ¬ (Rose old.writes_failed new.writes_failed)
    → (status ≡ Done) ⊎ (status ≡ Memory))
