-- How serving begins: at once out of memory, with settings that the world refuses, at a gate that doesn't listen, or at one that does.
use Rattle.std.proofs.Common.{◌≡◌, ℕ, ◌≤◌, Bool, false, true, List, Option, Result, Ok, Err, OnOk, OnErr, refl, sym, ap, subst, ◌∙◌, inl, inr, arith}
use Rattle.std.specs.Prelude.{◌⊎◌}
use Rattle.std.specs.Result.{is_err, IsErr}
use Rattle.serve_io.specs.Causes.{Rose}
use Rattle.serve_io.specs.Gate.{Ends, TellsAddress}
use Rattle.api_server.specs.Ask.{WorldView}
use Rattle.connection_loop.specs.declared.options.ServeOptions.{ServeOptions}
use Rattle.connection_loop.specs.declared.serving.ServeEnd.{ServeEnd}
use Rattle.connection_loop.specs.declared.serving.ServeEnd.TheVariants.{Done, Usage, GateFault, WriteFault, Memory}
use Rattle.connection_loop.specs.Sessions.{TimedWorld, timed}
use Rattle.connection_loop.specs.Serves.{Serving, LineSink, serving, set_up, RefusesSettings, Served, TakesAll, HandsBack, AreServed, came_in, handed_in, Stops, Runs, Listens, IsDeaf, ServeLeaves, IsComplete}

on_ok : {T E P : Type 0} (r : Result T E) → false ≡ is_err r → OnOk r P → P
on_ok (Ok x) not on = on
on_ok (Err e) not on = cc

on_err : {T E P : Type 0} (r : Result T E) → true ≡ is_err r → OnErr r P → P
on_err (Ok x) is on = cc
on_err (Err e) is on = on

not_refused : {T E P : Type 0} (r : Result T E) → false ≡ is_err r → (P → IsErr r) → P → ⊥
not_refused r not means p = let e : is_err r ≡ true = means p in cc

refuses : {T E P : Type 0} (r : Result T E) → true ≡ is_err r → (IsErr r → P) → P
refuses r is means = means (sym is)

pub at_once : (options : ServeOptions) (s : Serving) (k : LineSink) → ServeLeaves options s s k k Memory
at_once options s k = inl (refl, (refl, refl))

-- the same state, but for its world
over : Serving → WorldView → Serving
over s w = record s { world = record s.world { world = w } }

pub refused : {T E : Type 0} (options : ServeOptions) (s : Serving) (k : LineSink) (w : WorldView) (r : Result T E) → true ≡ is_err r
    → (IsErr r → RefusesSettings options s.world.world) → OnErr r (w ≡ s.world.world)
    → ServeLeaves options s (serving (timed w s.world.clock) s.coming s.back s.address s.listens s.failed) k k Usage
refused options s k w r is means same =
    inr (inl (refuses r is means, refl, (ap (λ (v : WorldView). serving (timed v s.world.clock) s.coming s.back s.address s.listens s.failed) (on_err r is same), refl)))

-- two states are the same by their parts
same_by_parts : (a b : Serving) → a.world ≡ b.world → a.coming ≡ b.coming → a.back ≡ b.back → a.address ≡ b.address → a.listens ≡ b.listens → a ≡ record b { failed = a.failed }
same_by_parts a b world coming back address listens =
    ap (λ (w : TimedWorld). serving w a.coming a.back a.address a.listens a.failed) world
    ∙ ap (λ (c : Option (List Ends)). serving b.world c a.back a.address a.listens a.failed) coming
    ∙ ap (λ (c : Option (List Ends)). serving b.world b.coming c a.address a.listens a.failed) back
    ∙ ap (λ (x : Option (List ℕ)). serving b.world b.coming b.back x a.listens a.failed) address
    ∙ ap (λ (l : Bool). serving b.world b.coming b.back b.address l a.failed) listens

-- the world took the settings, and then the automatic steps
pub is_set_up : {T E : Type 0} (options : ServeOptions) (s : Serving) (settled started : WorldView) (r : Result T E) → false ≡ is_err r
    → OnOk r (settled ≡ record s.world.world { plane = record s.world.world.plane { settings = options.settings } }) → started ≡ record settled { auto = options.auto }
    → timed started s.world.clock ≡ (set_up options s).world
is_set_up options s settled started r not took auto =
    ap (λ (w : WorldView). timed w s.world.clock) (auto ∙ ap (λ (w : WorldView). record w { auto = options.auto }) (on_ok r not took))

pub deaf : {T E : Type 0} (options : ServeOptions) (old new : Serving) (k : LineSink) (r : Result T E) → false ≡ is_err r → (RefusesSettings options old.world.world → IsErr r)
    → new.world ≡ (set_up options old).world → new.coming ≡ old.coming → new.back ≡ old.back → new.address ≡ old.address → new.listens ≡ old.listens
    → Rose old.failed new.failed → ServeLeaves options old new k k GateFault
deaf options old new k r not means world coming back address listens rose =
    let is : IsDeaf options old new k k GateFault = record {
      is = refl;
      rose = rose;
      same = same_by_parts new (set_up options old) world coming back address listens;
      unwritten = refl;
    } in
    inr (inr (not_refused r not means, inl is))

-- what was served from a state that differs in its count of faults alone
rose_from : (before between now : ℕ) → before ≤ between → Rose between now → Rose before now
rose_from before between now le rose = omega (arith, le, rose)

stops_from : (sessions : ℕ) (old listening new : Serving) (first last : LineSink) (served : List Served) (ended : ServeEnd) → old.failed ≤ listening.failed
    → Stops sessions listening new first last served ended → Stops sessions old new first last served ended
stops_from sessions old listening new first last served Done later s = s
stops_from sessions old listening new first last served GateFault later s = (s.0, rose_from old.failed listening.failed new.failed later s.1)
stops_from sessions old listening new first last served WriteFault later s = s
stops_from sessions old listening new first last served Memory later s = s
stops_from sessions old listening new first last served Usage later s = s

runs_from : (sessions : ℕ) (old listening new : Serving) (first last : LineSink) (ended : ServeEnd) → listening.world ≡ old.world → listening.coming ≡ old.coming
    → listening.back ≡ old.back → old.failed ≤ listening.failed → Runs sessions listening new first last ended → Runs sessions old new first last ended
runs_from sessions old listening new first last ended world coming back later r = record {
  served = r.served;
  serves = record {
    worlds = subst (λ (w : TimedWorld). AreServed w r.served new.world) world r.serves.worlds;
    came = subst (λ (c : Option (List Ends)). TakesAll c new.coming (came_in r.served)) coming r.serves.came;
    handed = subst (λ (c : Option (List Ends)). HandsBack c new.back (handed_in r.served)) back r.serves.handed;
    later = omega (arith, later, r.serves.later);
  };
  few = r.few;
  stops = stops_from sessions old listening new first last r.served ended later r.stops;
}

pub served : {T E : Type 0} (options : ServeOptions) (old listening new : Serving) (first last : LineSink) (ended : ServeEnd) (r : Result T E) → false ≡ is_err r
    → (RefusesSettings options old.world.world → IsErr r) → listening.world ≡ (set_up options old).world → listening.coming ≡ old.coming → listening.back ≡ old.back
    → TellsAddress old.address listening.address options.address → new.address ≡ listening.address → new.listens ≡ true → old.failed ≤ listening.failed
    → Runs options.sessions listening new first last ended → ServeLeaves options old new first last ended
served options old listening new first last ended r not means world coming back told address listens later runs =
    let is : Listens options old new first last ended = record {
      listens = listens;
      address = subst (λ (a : Option (List ℕ)). TellsAddress old.address a options.address) (sym address) told;
      runs = runs_from options.sessions (set_up options old) listening new first last ended world coming back later runs;
    } in
    inr (inr (not_refused r not means, inr is))

-- ---- completeness

stops_complete : (sessions : ℕ) (old new : Serving) (first last : LineSink) (served : List Served) (ended : ServeEnd) → Stops sessions old new first last served ended
    → ¬ (Rose old.failed new.failed) → ¬ (Rose first.failed last.failed) → (ended ≡ Done) ⊎ (ended ≡ Memory)
stops_complete sessions old new first last served Done s gate sink = inl refl
stops_complete sessions old new first last served GateFault s gate sink = absurd (gate s.1)
stops_complete sessions old new first last served WriteFault s gate sink = absurd (sink s.1)
stops_complete sessions old new first last served Memory s gate sink = inr refl
stops_complete sessions old new first last served Usage s gate sink = absurd s

pub complete : (options : ServeOptions) (old new : Serving) (first last : LineSink) (ended : ServeEnd) → ServeLeaves options old new first last ended
    → IsComplete options old new first last ended
complete options old new first last ended (inl (memory, same)) takes gate sink = inr memory
complete options old new first last ended (inr (inl r)) takes gate sink = absurd (takes r.0)
complete options old new first last ended (inr (inr (here, inl d))) takes gate sink = absurd (gate d.rose)
complete options old new first last ended (inr (inr (here, inr l))) takes gate sink =
    stops_complete options.sessions (set_up options old) new first last l.runs.served ended l.runs.stops gate sink
