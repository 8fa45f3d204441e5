-- A run that ended at once, and a run that began.
use Rattle.std.proofs.Common.{◌≡◌, ℕ, refl, subst, inl, inr}
use Rattle.http_session.specs.declared.report.ClockMode.TheVariants.{Leave}
use Rattle.http_session.specs.declared.report.SessionEnd.{SessionEnd}
use Rattle.http_session.specs.Session.{SessionState, Finishes}
use Rattle.api_server.specs.Ask.{WorldView, Asks, AskCut, After, AfterCut}
use Rattle.control_cli.specs.declared.status.Status.{Status}
use Rattle.command_words.specs.declared.settings.Options.{Options}
use Rattle.control_cli.specs.declared.status.Status.TheVariants.{Usage}
use Rattle.control_cli.specs.Ends.{status_of}
use Rattle.control_cli.specs.Runs.{RefusesSettings, set_up, ReplayLeaves, ReplayRuns}
use Rattle.control_cli.proofs.Leaves.{leaves_as}

-- ---- a replay

pub refused_at_once : (options : Options) (s : SessionState WorldView) → RefusesSettings options s.handler → ReplayRuns options s s Usage
refused_at_once options s refuses = inr (inl (refuses, refl, refl))

pub runs_on : (options : Options) (old new : SessionState WorldView) (answered : ℕ) (end : SessionEnd) (status : Status) → status ≡ status_of end
    → ¬ (RefusesSettings options old.handler) → Finishes Asks AskCut After AfterCut Leave (set_up options old) new answered end → ReplayRuns options old new status
runs_on options old new answered end status is takes f = inr (inr (takes, leaves_as (set_up options old) new answered end status is f))

-- a replay that ends for its words is one whose settings the world refuses
pub usage_refuses : (options : Options) (old new : SessionState WorldView) (status : Status) → ReplayRuns options old new status → status ≡ Usage
    → RefusesSettings options old.handler
usage_refuses options old new status (inl (short, same)) usage = cc
usage_refuses options old new status (inr (inl (refuses, is, same))) usage = refuses
usage_refuses options old new status (inr (inr (takes, leaves))) usage = absurd (subst (λ s. ReplayLeaves (set_up options old) new s) usage leaves)
