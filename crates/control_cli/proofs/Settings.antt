-- What it says of a world that it took its settings, or refused them.
use Rattle.std.proofs.Common.{◌≡◌, false, true, ℕ, Result, Ok, Err, OnOk, OnErr, ap, subst, ◌∙◌}
use Rattle.std.specs.Result.{is_err, IsErr}
use Rattle.http_session.specs.declared.report.ClockMode.TheVariants.{Leave}
use Rattle.http_session.specs.declared.report.SessionEnd.{SessionEnd}
use Rattle.http_session.specs.Session.{SessionState, Finishes}
use Rattle.api_server.specs.Ask.{WorldView, Asks, AskCut, After, AfterCut}
use Rattle.command_words.specs.declared.settings.Options.{Options}
use Rattle.control_cli.specs.Runs.{set_up}

pub on_ok : {T E P : Type 0} (r : Result T E) → false ≡ is_err r → OnOk r P → P
on_ok (Ok x) not on = on
on_ok (Err e) not on = cc

pub on_err : {T E P : Type 0} (r : Result T E) → true ≡ is_err r → OnErr r P → P
on_err (Ok x) is on = cc
on_err (Err e) is on = on

pub not_refused : {T E P : Type 0} (r : Result T E) → false ≡ is_err r → (P → IsErr r) → P → ⊥
not_refused r not means p = let e : is_err r ≡ true = means p in cc

-- a session on a world that took the settings, and then the automatic steps, is one on the world that is set up
pub on_set_up : {T E : Type 0} (options : Options) (old new : SessionState WorldView) (settled started : WorldView) (r : Result T E) (answered : ℕ) (end : SessionEnd)
    → false ≡ is_err r → OnOk r (settled ≡ record old.handler { plane = record old.handler.plane { settings = options.settings } })
    → started ≡ record settled { auto = options.auto } → Finishes Asks AskCut After AfterCut Leave (record old { handler = started }) new answered end
    → Finishes Asks AskCut After AfterCut Leave (set_up options old) new answered end
on_set_up options old new settled started r answered end not took auto f =
    let is : started ≡ (set_up options old).handler = auto ∙ ap (λ (w : WorldView). record w { auto = options.auto }) (on_ok r not took) in
    subst (λ (w : WorldView). Finishes Asks AskCut After AfterCut Leave (record old { handler = w }) new answered end) is f
