-- What a run leaves, by the command of its words and its status.
use Rattle.std.specs.Prelude.{◌≡◌, ◌⊎◌, ℕ, Bool, List, Option}
use Rattle.serve_io.specs.Gate.{Ends}
use Rattle.http_session.specs.Session.{SessionState}
use Rattle.api_server.specs.Ask.{WorldView}
use Rattle.connection_loop.specs.Sessions.{timed}
use Rattle.connection_loop.specs.Serves.{Serving, serving, LineSink, line_sink}
use Rattle.journal_export.specs.Exports.{RefusesStandard}
use Rattle.command_words.specs.declared.command.Command.{Command}
use Rattle.command_words.specs.declared.command.Command.TheVariants.{Replay, Serve, Check, Generate, Drill, Pick, Export}
use Rattle.command_words.specs.declared.serving.Serving.{Serving as Words}
use Rattle.command_words.specs.Grammar.{Word, IsCommand}
use Rattle.control_cli.specs.declared.status.Status.{Status}
use Rattle.control_cli.specs.declared.status.Status.TheVariants.{Memory}
use Rattle.control_cli.specs.Runs.{RefusesSettings, ReplayRuns, IsComplete}
use Rattle.control_cli.specs.Checks.{CheckRuns}
use Rattle.control_cli.specs.Picks.{PickRuns}
use Rattle.control_cli.specs.Serves.{ServeRuns}
use Rattle.control_cli.specs.Drills.{StreamRuns, DrillRuns}
use Rattle.control_cli.specs.Exports.{ExportRuns}

-- ---- what a run is handed

-- a gate: its connections and its address, where it tells them, whether it listens, and its count of faults
pub record GateView : Type 0 where
  pub coming : Option (List Ends)
  pub back : Option (List Ends)
  pub address : Option (List ℕ)
  pub listens : Bool
  pub failed : ℕ

-- the same, by its parts
abbrev pub gate_of : Option (List Ends) → Option (List Ends) → Option (List ℕ) → Bool → ℕ → GateView
gate_of coming back address listens failed = record { coming = coming; back = back; address = address; listens = listens; failed = failed }

-- the source and the sink of a run
abbrev pub ends_in : SessionState WorldView → Ends
ends_in s = record { left = s.left; reads_failed = s.reads_failed; taken = s.taken; writes_failed = s.writes_failed }

-- the world with its clock, and the gate
abbrev pub serving_in : SessionState WorldView → GateView → Serving
serving_in s g = serving (timed s.handler s.moments) g.coming g.back g.address g.listens g.failed

-- the sink, as that of lines
abbrev pub line_sink_in : SessionState WorldView → LineSink
line_sink_in s = line_sink s.taken s.writes_failed

-- the world and the clock are as before
abbrev pub KeepsWorld : SessionState WorldView → SessionState WorldView → Type 0
KeepsWorld old new = (new.handler ≡ old.handler) × (new.moments ≡ old.moments)

-- the source is as before
abbrev pub KeepsSource : SessionState WorldView → SessionState WorldView → Type 0
KeepsSource old new = (new.left ≡ old.left) × (new.reads_failed ≡ old.reads_failed)

-- ---- commands

-- what a command leaves
abbrev pub CommandLeaves : Command → SessionState WorldView → SessionState WorldView → GateView → GateView → Status → Type 0
CommandLeaves (Replay options) old new gate_old gate_new status =
    ReplayRuns options old new status × (¬ (RefusesSettings options old.handler) → IsComplete old new status)
CommandLeaves (Serve words) old new gate_old gate_new status =
    ServeRuns words (serving_in old gate_old) (serving_in new gate_new) (line_sink_in old) (line_sink_in new) status × KeepsSource old new
CommandLeaves Check old new gate_old gate_new status = CheckRuns (ends_in old) (ends_in new) status × KeepsWorld old new
CommandLeaves (Generate count) old new gate_old gate_new status =
    StreamRuns count old.taken new.taken old.writes_failed new.writes_failed status × KeepsWorld old new × KeepsSource old new
CommandLeaves (Drill count) old new gate_old gate_new status =
    DrillRuns count old.handler new.handler old.taken new.taken old.writes_failed new.writes_failed status × (new.moments ≡ old.moments) × KeepsSource old new
CommandLeaves (Pick picking) old new gate_old gate_new status = PickRuns picking (ends_in old) (ends_in new) status × KeepsWorld old new
CommandLeaves Export old new gate_old gate_new status = ExportRuns old new status

-- the command is one that sets up the world, and the world refuses its settings
abbrev pub RefusesCommand : Command → WorldView → Type 0
RefusesCommand (Replay options) w = RefusesSettings options w
RefusesCommand (Serve words) w = RefusesSettings words.options w
RefusesCommand Check w = ⊥
RefusesCommand (Generate count) w = ⊥
RefusesCommand (Drill count) w = ⊥
RefusesCommand (Pick picking) w = ⊥
RefusesCommand Export w = RefusesStandard w

-- the command serves the gate
abbrev pub IsServing : Command → Type 0
IsServing command = (words : Words) × (command ≡ Serve words)

-- ---- runs

-- memory ran out for the words, and all is as before; or the words are a command, and this is what it leaves
abbrev pub Runs : List Word → SessionState WorldView → SessionState WorldView → GateView → GateView → Status → Type 0
Runs words old new gate_old gate_new status =
    ((status ≡ Memory) × (new ≡ old) × (gate_new ≡ gate_old))
    ⊎ ((command : Command) × IsCommand words command × CommandLeaves command old new gate_old gate_new status)

-- the words are a command whose settings the world refuses
abbrev pub IsRefused : List Word → WorldView → Type 0
IsRefused words w = (command : Command) × IsCommand words command × RefusesCommand command w

-- the words are those of `serve`
abbrev pub AreServing : List Word → Type 0
AreServing words = (serving : Words) × IsCommand words (Serve serving)
