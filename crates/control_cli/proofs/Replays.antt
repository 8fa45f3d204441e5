-- What the exchanges of a session are over a world.
use Rattle.std.proofs.Common.{◌≡◌, ℕ, ◌+◌, List, [], ◌∷◌, ◌++◌, length, replicate, Option, None, refl, ap, ◌∙◌, arith, length-append}
use Rattle.http_session.specs.declared.report.ClockMode.TheVariants.{Leave}
use Rattle.http_session.specs.Session.{Exchange, moments_in, Run, SessionState, Served, TakesMoments}
use Rattle.api_server.specs.Ask.{WorldView, Asks, After, at_moment, mark_at}
use Rattle.control_cli.specs.Runs.{Replays}

-- each request that was answered has added its mark
marks_of : (old : WorldView) (done : List Exchange) (new : WorldView) → Run Asks After old done new → length new.marks ≡ length old.marks + length done
marks_of old [] new run = grind (arith, ap (λ (w : WorldView). length w.marks) run)
marks_of old (x ∷ done) new (answered, next, asks, idle, rest) =
    let tail = marks_of next done new rest in
    let kept = ap (λ (w : WorldView). length w.marks) idle in
    let noted = ap length asks.marked in
    let one = length-append old.marks (mark_at (at_moment old.plane x.now) ∷ []) in
    omega (arith, tail, kept, noted, one)

-- no moment is taken, and the clock stays
still : (old new : Option (List ℕ)) (done : List Exchange) (more : List (Option ℕ)) → TakesMoments Leave old (moments_in done ++ more) new
    → moments_in done ≡ replicate (length done) None
still old new [] more takes = refl
still old new (x ∷ done) more (middle, here, rest) = rw (here.0) (ap (λ ms. None ∷ ms) (still middle new done more rest))

asked_none : (old new : Option (List ℕ)) (moments : List (Option ℕ)) → TakesMoments Leave old moments new → new ≡ old
asked_none old new [] takes = takes
asked_none old new (now ∷ moments) (middle, here, rest) = asked_none middle new moments rest ∙ here.1

pub replays : (old new : SessionState WorldView) (bytes : List ℕ) (done : List Exchange) (last : WorldView) (tail : List ℕ) (more : List (Option ℕ))
    → Served Asks After Leave old new bytes done last tail more → Replays old new bytes done last tail
replays old new bytes done last tail more served = record {
  run = served.run;
  no_moments = still old.moments new.moments done more served.moments;
  marks = marks_of old.handler done last served.run;
  consumed = served.consumed;
  written = served.written;
  clock = asked_none old.moments new.moments (moments_in done ++ more) served.moments;
}

-- the last of some moments in mode `Leave` is none
pub last_none : (old new : Option (List ℕ)) (moments : List (Option ℕ)) (now : Option ℕ) → TakesMoments Leave old (moments ++ now ∷ []) new → now ≡ None
last_none old new [] now (middle, here, rest) = here.0
last_none old new (m ∷ moments) now (middle, here, rest) = last_none middle new moments now rest
