-- What a command leaves that only writes.
use Rattle.std.specs.Prelude.{◌≡◌, ◌⊎◌, ℕ, ◌<◌, List, [], length, take, Option}
use Rattle.std.specs.Io.KnownBytes.{Appends}
use Rattle.serve_io.specs.Causes.{Rose}
use Rattle.resource_types.specs.declared.names.Kind.TheVariants as kind
use Rattle.control_calls.specs.Calls.{count_of}
use Rattle.http_session.specs.Session.{Exchange}
use Rattle.api_server.specs.Ask.{WorldView}
use Rattle.request_drill.specs.declared.command.DrillEnd.{DrillEnd}
use Rattle.request_drill.specs.declared.command.DrillEnd.TheVariants.{Done, WriteFault, Memory}
use Rattle.request_drill.specs.declared.lines.Figures.{Figures}
use Rattle.request_drill.specs.Generated.{generated, requests_of}
use Rattle.request_drill.specs.Lines.{lines_of}
use Rattle.request_drill.specs.Runs.{RunsOver, refusals, Stops}

-- ---- a text

-- the text was written whole, or a write failed behind a proper prefix of it, or nothing was written
abbrev pub Writes : Option (List ℕ) → Option (List ℕ) → ℕ → ℕ → List ℕ → DrillEnd → Type 0
Writes taken_old taken_new failed_old failed_new text Done = Appends taken_old taken_new text
Writes taken_old taken_new failed_old failed_new text WriteFault =
    Rose failed_old failed_new × ((sent : ℕ) × (sent < length text) × Appends taken_old taken_new (take sent text))
Writes taken_old taken_new failed_old failed_new text Memory = Appends taken_old taken_new []

-- ---- a drill

-- the world without automatic steps
abbrev pub without_steps : WorldView → WorldView
without_steps w = record w { auto = 0 }

-- what a run over the stream of so many Services came to
abbrev pub figures_of : ℕ → List Exchange → WorldView → ℕ → ℕ → Figures
figures_of count done new turns looks = record {
  requests = length (requests_of count);
  answered = length done;
  refused = refusals done;
  journal = length new.plane.journal;
  tables = count_of new.plane kind.Table;
  turns = turns;
  looks = looks;
}

-- The requests of the stream were answered over the world, which made no automatic steps, and the lines tell of that run. A world's counts of
-- turns and of looks are no part of what a request is said to change, so the last two numbers are said by no more than their names.
pub record Drills (count : ℕ) (old new : WorldView) (lines : List ℕ) : Type 0 where
  pub done : List Exchange
  pub turns : ℕ
  pub looks : ℕ
  pub runs : RunsOver (generated count) (without_steps old) done new
  pub lines_are : lines ≡ lines_of (figures_of count done new turns looks)

-- memory ran out before the first request, and the world is as before; or in the run
abbrev pub StopsDrill : ℕ → WorldView → WorldView → Type 0
StopsDrill count old new = (new ≡ old) ⊎ Stops (generated count) (without_steps old) new

-- what a drill leaves
abbrev pub DrillLeaves : ℕ → WorldView → WorldView → Option (List ℕ) → Option (List ℕ) → ℕ → ℕ → DrillEnd → Type 0
DrillLeaves count old new taken_old taken_new failed_old failed_new Done =
    (lines : List ℕ) × Drills count old new lines × Writes taken_old taken_new failed_old failed_new lines Done
DrillLeaves count old new taken_old taken_new failed_old failed_new WriteFault =
    (lines : List ℕ) × Drills count old new lines × Writes taken_old taken_new failed_old failed_new lines WriteFault
DrillLeaves count old new taken_old taken_new failed_old failed_new Memory =
    StopsDrill count old new × Appends taken_old taken_new []
