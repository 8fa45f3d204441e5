-- A world that took the standard settings, or refused them.
use Rattle.std.proofs.Common.{◌≡◌, ◌≢◌, ◌∙◌, ℕ, [], false, true, Result, Ok, Err, OnOk, OnErr, ap, subst, sym, inl, inr, refl}
use Rattle.std.specs.Result.{is_err, IsErr}
use Rattle.http_session.specs.Session.{SessionState}
use Rattle.control_rules.specs.declared.settings.Settings.{Settings}
use Rattle.step_scheduler.specs.Standard.{standard_plane_settings}
use Rattle.api_server.specs.Ask.{WorldView}
use Rattle.journal_export.specs.declared.command.ExportEnd.{ExportEnd}
use Rattle.journal_export.specs.declared.command.ExportEnd.TheVariants.{Usage}
use Rattle.journal_export.specs.Exports.{RefusesStandard, set_up, ExportLeaves}

on_ok : {T E P : Type 0} (r : Result T E) → false ≡ is_err r → OnOk r P → P
on_ok (Ok x) not on = on
on_ok (Err e) not on = cc

on_err : {T E P : Type 0} (r : Result T E) → true ≡ is_err r → OnErr r P → P
on_err (Ok x) is on = cc
on_err (Err e) is on = on

as_err : {T E P : Type 0} (r : Result T E) → true ≡ is_err r → (IsErr r → P) → P
as_err (Ok x) is means = cc
as_err (Err e) is means = means refl

no_err : {T E P : Type 0} (r : Result T E) → false ≡ is_err r → (P → IsErr r) → P → ⊥
no_err r not means p = let e : is_err r ≡ true = means p in cc

-- the world refuses these settings
abbrev Refuses : WorldView → Settings → Type 0
Refuses w settings = (w.plane.journal ≢ []) × (w.plane.settings ≢ settings)

module _ {T E : Type 0} (w : WorldView) (settings : Settings) (r : Result T E) (standard : settings ≡ standard_plane_settings) where
  pub refuses : true ≡ is_err r → (IsErr r → Refuses w settings) → RefusesStandard w
  refuses is means = subst (Refuses w) standard (as_err r is means)

  pub takes : false ≡ is_err r → (Refuses w settings → IsErr r) → ¬ (RefusesStandard w)
  takes not means standing = no_err r not means (subst (Refuses w) (sym standard) standing)

  -- one that took them, and then no automatic steps, is set up
  pub started_is : (settled started : WorldView) → false ≡ is_err r → OnOk r (settled ≡ record w { plane = record w.plane { settings = settings } })
      → started ≡ record settled { auto = 0 } → started ≡ set_up w
  started_is settled started not took auto =
      auto ∙ ap (λ (v : WorldView). record v { auto = 0 }) (on_ok r not took)
      ∙ ap (λ (s : Settings). record w { plane = record w.plane { settings = s }; auto = 0 }) standard

pub stays : {T E : Type 0} (r : Result T E) (w v : WorldView) → true ≡ is_err r → OnErr r (v ≡ w) → v ≡ w
stays r w v is on = on_err r is on

-- a world that refuses them leaves all as before
pub refused : (old new : SessionState WorldView) → RefusesStandard old.handler → new ≡ old → ExportLeaves old new Usage
refused old new refuses same = inr (inl (refuses, refl, same))
