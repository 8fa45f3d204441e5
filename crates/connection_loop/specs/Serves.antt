-- What is left of a gate that was served, by how that ended.
use Rattle.std.specs.Prelude.{◌≡◌, ◌≢◌, ◌⊎◌, ℕ, ◌+◌, ◌<◌, ◌≤◌, All, Bool, true, List, [], ◌∷◌, ◌++◌, length, map, take, Option, Some, None, ⊤}
use Rattle.std.specs.Io.KnownBytes.{Appends}
use Rattle.serve_io.specs.Causes.{Rose}
use Rattle.serve_io.specs.Gate.{Ends, NoneComes, TellsAddress}
use Rattle.http_session.specs.declared.report.ClockMode.TheVariants.{Ask}
use Rattle.http_session.specs.declared.report.SessionEnd.{SessionEnd}
use Rattle.http_session.specs.declared.report.SessionEnd.TheVariants as end
use Rattle.api_server.specs.Ask.{WorldView}
use Rattle.connection_loop.specs.declared.options.ServeOptions.{ServeOptions}
use Rattle.connection_loop.specs.declared.serving.ServeEnd.{ServeEnd}
use Rattle.connection_loop.specs.declared.serving.ServeEnd.TheVariants.{Done, Usage, GateFault, WriteFault, Memory}
use Rattle.connection_loop.specs.Lines.{line_of}
use Rattle.connection_loop.specs.Sessions.{TimedWorld, Leaves}

-- ---- what is served, and over what

-- the world with its clock, and the gate: its connections and its address, where it tells them, and its count of faults
pub record Serving : Type 0 where
  pub world : TimedWorld
  pub coming : Option (List Ends)
  pub back : Option (List Ends)
  pub address : Option (List ℕ)
  pub listens : Bool
  pub failed : ℕ

-- the sink of the lines: what it took, where it tells it, and its count of faults
pub record LineSink : Type 0 where
  pub taken : Option (List ℕ)
  pub failed : ℕ

-- the same, by their parts
abbrev pub serving : TimedWorld → Option (List Ends) → Option (List Ends) → Option (List ℕ) → Bool → ℕ → Serving
serving world coming back address listens failed =
    record { world = world; coming = coming; back = back; address = address; listens = listens; failed = failed }

abbrev pub line_sink : Option (List ℕ) → ℕ → LineSink
line_sink taken failed = record { taken = taken; failed = failed }

-- the world refuses the settings: something was written, under others
abbrev pub RefusesSettings : ServeOptions → WorldView → Type 0
RefusesSettings options w = (w.plane.journal ≢ []) × (w.plane.settings ≢ options.settings)

-- the world with the settings and the automatic steps of the options
abbrev pub set_up : ServeOptions → Serving → Serving
set_up options s = record s {
  world = record s.world {
    world = record s.world.world { plane = record s.world.world.plane { settings = options.settings }; auto = options.auto };
  };
}

-- ---- connections

-- a connection that was served: its two ends as they came and as they were handed back, how its session ended, and how many replies were written whole
pub record Served : Type 0 where
  pub came : Ends
  pub handed : Ends
  pub end : SessionEnd
  pub answered : ℕ

-- its session over a world, which asks the clock; a fault of an end comes only where the count of that end rose
pub record IsServed (c : Served) (old new : TimedWorld) : Type 0 where
  pub leaves : Leaves Ask c.came c.handed old new c.answered c.end
  pub calm_input : c.end ≢ end.ReadFault → c.handed.reads_failed ≡ c.came.reads_failed
  pub calm_output : c.end ≢ end.WriteFault → c.handed.writes_failed ≡ c.came.writes_failed

-- one after another, each over the world that the one before left
abbrev pub AreServed : TimedWorld → List Served → TimedWorld → Type 0
AreServed old [] new = new ≡ old
AreServed old (c ∷ later) new = (middle : TimedWorld) × IsServed c old middle × AreServed middle later new

-- these were the first of the connections to come, where they are told, and the others are still to come
abbrev pub TakesAll : Option (List Ends) → Option (List Ends) → List Ends → Type 0
TakesAll None new came = ⊤
TakesAll (Some coming) None came = ⊥
TakesAll (Some coming) (Some rest) came = coming ≡ came ++ rest

-- these were added to the connections that were handed back, where they are told
abbrev pub HandsBack : Option (List Ends) → Option (List Ends) → List Ends → Type 0
HandsBack None new handed = ⊤
HandsBack (Some back) None handed = ⊥
HandsBack (Some back) (Some now) handed = now ≡ back ++ handed

-- the ends of some connections as they came, and as they were handed back
abbrev pub came_in : List Served → List Ends
came_in served = map (λ c. c.came) served

abbrev pub handed_in : List Served → List Ends
handed_in served = map (λ c. c.handed) served

-- these connections were taken in order, served in that order, and handed back in that order
pub record Serves (old new : Serving) (served : List Served) : Type 0 where
  pub worlds : AreServed old.world served new.world
  pub came : TakesAll old.coming new.coming (came_in served)
  pub handed : HandsBack old.back new.back (handed_in served)
  pub later : old.failed ≤ new.failed

-- ---- lines

-- the line of a connection
abbrev pub line : ℕ → Served → List ℕ
line number c = line_of number c.end c.answered

-- the lines of some connections, numbered from here on
abbrev pub lines_from : ℕ → List Served → List ℕ
lines_from number [] = []
lines_from number (c ∷ later) = line number c ++ lines_from (number + 1) later

-- none of them ran out of memory
abbrev pub GoOn : List Served → Type 0
GoOn served = All (λ (c : Served). c.end ≢ end.Memory) served

-- each has its line
pub record WritesLines (old new : LineSink) (served : List Served) : Type 0 where
  pub on : GoOn served
  pub written : Appends old.taken new.taken (lines_from 1 served)

-- all but the last have theirs, and of the last one's a proper prefix was written
pub record CutsLine (old new : LineSink) (served : List Served) : Type 0 where
  pub first : List Served
  pub last : Served
  pub are : served ≡ first ++ last ∷ []
  pub on : GoOn served
  pub sent : ℕ
  pub proper : sent < length (line (length served) last)
  pub written : Appends old.taken new.taken (lines_from 1 first ++ take sent (line (length served) last))

-- all but the last have theirs, and the last ran out of memory
pub record EndsShort (old new : LineSink) (served : List Served) : Type 0 where
  pub first : List Served
  pub last : Served
  pub are : served ≡ first ++ last ∷ []
  pub on : GoOn first
  pub short : last.end ≡ end.Memory
  pub written : Appends old.taken new.taken (lines_from 1 first)

-- ---- ends

-- what the sink of the lines has, and why no further connection was served
abbrev pub Stops : ℕ → Serving → Serving → LineSink → LineSink → List Served → ServeEnd → Type 0
Stops sessions old new sink_old sink_new served Done = WritesLines sink_old sink_new served × ((length served ≡ sessions) ⊎ NoneComes new.coming)
Stops sessions old new sink_old sink_new served GateFault = WritesLines sink_old sink_new served × Rose old.failed new.failed
Stops sessions old new sink_old sink_new served WriteFault = CutsLine sink_old sink_new served × Rose sink_old.failed sink_new.failed
Stops sessions old new sink_old sink_new served Memory = EndsShort sink_old sink_new served
Stops sessions old new sink_old sink_new served Usage = ⊥

-- some connections were served, at most so many, and that ended so
pub record Runs (sessions : ℕ) (old new : Serving) (sink_old sink_new : LineSink) (ended : ServeEnd) : Type 0 where
  pub served : List Served
  pub serves : Serves old new served
  pub few : length served ≤ sessions
  pub stops : Stops sessions old new sink_old sink_new served ended

-- the gate listens at the address, and was served over the world with the settings and the automatic steps of the options
pub record Listens (options : ServeOptions) (old new : Serving) (sink_old sink_new : LineSink) (ended : ServeEnd) : Type 0 where
  pub listens : new.listens ≡ true
  pub address : TellsAddress old.address new.address options.address
  pub runs : Runs options.sessions (set_up options old) new sink_old sink_new ended

-- the gate doesn't listen: its count rose, the world has the settings and the automatic steps of the options, and all else is as before
pub record IsDeaf (options : ServeOptions) (old new : Serving) (sink_old sink_new : LineSink) (ended : ServeEnd) : Type 0 where
  pub is : ended ≡ GateFault
  pub rose : Rose old.failed new.failed
  pub same : new ≡ record (set_up options old) { failed = new.failed }
  pub unwritten : sink_new ≡ sink_old

-- nothing happened
abbrev pub StaysAs : Serving → Serving → LineSink → LineSink → Type 0
StaysAs old new sink_old sink_new = (new ≡ old) × (sink_new ≡ sink_old)

-- Memory ran out before anything else, and all is as before; or the world refuses the settings, and all is as before; or it takes them, and the gate
-- doesn't listen, or is served.
abbrev pub ServeLeaves : ServeOptions → Serving → Serving → LineSink → LineSink → ServeEnd → Type 0
ServeLeaves options old new sink_old sink_new ended =
    ((ended ≡ Memory) × StaysAs old new sink_old sink_new)
    ⊎ ((RefusesSettings options old.world.world × (ended ≡ Usage) × StaysAs old new sink_old sink_new)
    ⊎ (¬ (RefusesSettings options old.world.world)
    × (IsDeaf options old new sink_old sink_new ended ⊎ Listens options old new sink_old sink_new ended)))

-- where the world takes the settings, and neither the gate nor the sink of the lines failed, all is done, or out of memory
abbrev pub IsComplete : ServeOptions → Serving → Serving → LineSink → LineSink → ServeEnd → Type 0
IsComplete options old new sink_old sink_new ended =
    ¬ (RefusesSettings options old.world.world) → ¬ (Rose old.failed new.failed) → ¬ (Rose sink_old.failed sink_new.failed)
    → (ended ≡ Done) ⊎ (ended ≡ Memory)
