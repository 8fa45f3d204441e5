-- What one turn of the loop leaves: a connection was served and told of, or why none was, or why it was the last.
use Rattle.std.specs.Prelude.{◌≡◌, ◌≢◌, ℕ, ◌<◌, List, [], ◌∷◌, length, take, Option, Some, None}
use Rattle.std.specs.Io.KnownBytes.{Appends}
use Rattle.serve_io.specs.Causes.{Rose}
use Rattle.serve_io.specs.Gate.{NoneComes}
use Rattle.http_session.specs.declared.report.SessionEnd.TheVariants as end
use Rattle.http_session.specs.declared.report.SessionReport.{SessionReport}
use Rattle.connection_loop.specs.declared.serving.ServeEnd.{ServeEnd}
use Rattle.connection_loop.specs.declared.serving.ServeEnd.TheVariants.{Done, GateFault, WriteFault, Memory}
use Rattle.connection_loop.specs.declared.serving.Taken.{Taken}
use Rattle.connection_loop.specs.declared.serving.Taken.TheVariants as taken
use Rattle.connection_loop.specs.Lines.{line_of}
use Rattle.connection_loop.specs.Serves.{Serving, LineSink, Served, Serves, WritesLines}

-- a connection was served, with this report
pub record ServesOne (old new : Serving) (report : SessionReport) : Type 0 where
  pub c : Served
  pub end : c.end ≡ report.end
  pub answered : c.answered ≡ report.answered
  pub serves : Serves old new (c ∷ [])

-- the next connection was served, or none is to come, or the gate failed
abbrev pub TakesNext : Serving → Serving → Taken → Type 0
TakesNext old new (taken.Served report) = ServesOne old new report
TakesNext old new taken.Closed = Serves old new [] × NoneComes new.coming
TakesNext old new taken.Failed = Serves old new [] × Rose old.failed new.failed

-- a proper prefix of the line was written
pub record CutsOne (number : ℕ) (report : SessionReport) (old new : LineSink) : Type 0 where
  pub on : report.end ≢ end.Memory
  pub rose : Rose old.failed new.failed
  pub sent : ℕ
  pub proper : sent < length (line_of number report.end report.answered)
  pub written : Appends old.taken new.taken (take sent (line_of number report.end report.answered))

-- the line was written whole, or cut, or the session ran out of memory and none was written
abbrev pub TellsOf : ℕ → SessionReport → LineSink → LineSink → Option ServeEnd → Type 0
TellsOf number report old new None =
    (report.end ≢ end.Memory) × Appends old.taken new.taken (line_of number report.end report.answered)
TellsOf number report old new (Some WriteFault) = CutsOne number report old new
TellsOf number report old new (Some Memory) = (report.end ≡ end.Memory) × (new ≡ old)
TellsOf number report old new (Some other) = ⊥

-- one turn
abbrev pub Turns : ℕ → Serving → Serving → LineSink → LineSink → Option ServeEnd → Type 0
Turns number old new sink_old sink_new None =
    (report : SessionReport) × ServesOne old new report × TellsOf number report sink_old sink_new None
Turns number old new sink_old sink_new (Some Done) = Serves old new [] × NoneComes new.coming × (sink_new ≡ sink_old)
Turns number old new sink_old sink_new (Some GateFault) = Serves old new [] × Rose old.failed new.failed × (sink_new ≡ sink_old)
Turns number old new sink_old sink_new (Some end) =
    (report : SessionReport) × ServesOne old new report × TellsOf number report sink_old sink_new (Some end)

-- so many connections were served, and each has its line
pub record Progress (count : ℕ) (old new : Serving) (sink_old sink_new : LineSink) : Type 0 where
  pub served : List Served
  pub is : length served ≡ count
  pub serves : Serves old new served
  pub lines : WritesLines sink_old sink_new served
