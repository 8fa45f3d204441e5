-- A run without automatic steps keeps the world's plane kept, and so does one that memory cuts short.
use Rattle.std.proofs.Common.{◌≡◌, ℕ, List, [], ◌∷◌, refl, sym, ap, subst, inl, inr, ◌∙◌}
use Rattle.http_session.specs.declared.message.Request.{Request}
use Rattle.http_session.specs.Session.{Exchange, Run}
use Rattle.manifest_intake.specs.Good.{is_good}
use Rattle.control_rules.specs.Slots.{Plane}
use Rattle.control_rules.specs.Steps.{automatic_steps}
use Rattle.control_rules.specs.Facts.{IsKept}
use Rattle.control_entries.proofs.KeptEvents.{works_kept}
use Rattle.api_server.specs.Ask.{WorldView, Asks, After, IsCutShort}
use Rattle.request_drill.specs.Generated.{generated}
use Rattle.request_drill.specs.Runs.{Stops}
use Rattle.request_drill.specs.Outputs.{Drills, StopsDrill}

no_steps : (w : Plane) → automatic_steps 0 w ≡ w
unfolding automatic_steps
no_steps w = refl

after_same : (old new : WorldView) → old.auto ≡ 0 → After old new → new.plane ≡ old.plane
after_same old new none after =
    ap (λ (w : WorldView). w.plane) after ∙ ap (λ n. automatic_steps n old.plane) none ∙ no_steps old.plane

run_kept : (old : WorldView) (done : List Exchange) (new : WorldView) → old.auto ≡ 0 → Run Asks After old done new → IsKept is_good old.plane
    → IsKept is_good new.plane
run_kept old [] new none run k = subst (λ (w : WorldView). IsKept is_good w.plane) (sym run) k
run_kept old (x ∷ done) new none (answered, next, asks, after, rest) k =
    let still : answered.auto ≡ 0 = asks.auto ∙ none in
    run_kept next done new (ap (λ (w : WorldView). w.auto) after ∙ still) rest
    (subst (IsKept is_good) (sym (after_same answered next still after)) asks.kept)

short_kept : (w v : Plane) (request : Request) → IsCutShort w request v → IsKept is_good w → IsKept is_good v
short_kept w v request (inl same) k = subst (IsKept is_good) (sym same) k
short_kept w v request (inr (makes, works)) k = works_kept is_good w v k works

stops_kept : (bytes : List ℕ) (old new : WorldView) → old.auto ≡ 0 → Stops bytes old new → IsKept is_good old.plane → IsKept is_good new.plane
stops_kept bytes old new none (inl s) k = run_kept old s.done new none s.answers.run k
stops_kept bytes old new none (inr s) k =
    short_kept s.last.plane new.plane s.asked.request s.cut.plane (run_kept old s.done s.last none s.answers.run k)

pub drills_kept : (count : ℕ) (old new : WorldView) (lines : List ℕ) → Drills count old new lines → IsKept is_good old.plane → IsKept is_good new.plane
drills_kept count old new lines d k = run_kept (record old { auto = 0 }) d.done new refl d.runs.answers.run k

pub drill_stops_kept : (count : ℕ) (old new : WorldView) → StopsDrill count old new → IsKept is_good old.plane → IsKept is_good new.plane
drill_stops_kept count old new (inl same) k = subst (λ (w : WorldView). IsKept is_good w.plane) (sym same) k
drill_stops_kept count old new (inr s) k = stops_kept (generated count) (record old { auto = 0 }) new refl s k
