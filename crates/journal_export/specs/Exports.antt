-- What an export leaves.
use Rattle.std.specs.Prelude.{◌≡◌, ◌≢◌, ◌⊎◌, ℕ, ◌<◌, List, [], length, take, Option, None}
use Rattle.std.specs.Io.KnownBytes.{Appends}
use Rattle.serve_io.specs.Causes.{Rose}
use Rattle.http_session.specs.declared.report.ClockMode.TheVariants.{Leave}
use Rattle.http_session.specs.declared.report.SessionEnd.{SessionEnd}
use Rattle.http_session.specs.declared.report.SessionEnd.TheVariants as session
use Rattle.http_session.specs.Session.{SessionState, Finishes}
use Rattle.step_scheduler.specs.Standard.{standard_plane_settings}
use Rattle.journal_text.specs.Texts.{journal_text}
use Rattle.api_server.specs.Ask.{WorldView, Asks, AskCut, After, AfterCut}
use Rattle.journal_export.specs.declared.command.ExportEnd.{ExportEnd}
use Rattle.journal_export.specs.declared.command.ExportEnd.TheVariants.{Done, Usage, Cut, BadRequest, ReadFault, WriteFault, TooLong, Memory}

-- ---- the session

-- the world refuses the standard settings: something was written, under others
abbrev pub RefusesStandard : WorldView → Type 0
RefusesStandard w = (w.plane.journal ≢ []) × (w.plane.settings ≢ standard_plane_settings)

-- the world has the standard settings, and makes no automatic steps
abbrev pub set_up : WorldView → WorldView
set_up w = record w { plane = record w.plane { settings = standard_plane_settings }; auto = 0 }

-- the replies go to nobody: what is written isn't kept, and no write fails
abbrev pub unheard : SessionState WorldView → SessionState WorldView
unheard s = record s { taken = None; writes_failed = 0 }

-- the requests of the source were answered over the world that is set up, without moments and for nobody, and that ended so
pub record AnswersAll (old new : SessionState WorldView) (end : SessionEnd) : Type 0 where
  pub answered : ℕ
  pub finishes : Finishes Asks AskCut After AfterCut Leave (unheard (record old { handler = set_up old.handler })) (unheard new) answered end

-- ---- the text

-- the text was written whole, or a write failed behind a proper prefix of it, or nothing was written
abbrev pub Writes : Option (List ℕ) → Option (List ℕ) → ℕ → ℕ → List ℕ → ExportEnd → Type 0
Writes taken_old taken_new failed_old failed_new text Done = Appends taken_old taken_new text
Writes taken_old taken_new failed_old failed_new text WriteFault =
    Rose failed_old failed_new × ((sent : ℕ) × (sent < length text) × Appends taken_old taken_new (take sent text))
Writes taken_old taken_new failed_old failed_new text Memory = Appends taken_old taken_new []
Writes taken_old taken_new failed_old failed_new text other = ⊥

-- how the export of a session ends that isn't whole
abbrev pub end_of : SessionEnd → ExportEnd
end_of session.Clean = Done
end_of session.Closed = Done
end_of session.Cut = Cut
end_of (session.Bad fault) = BadRequest
end_of session.ReadFault = ReadFault
end_of session.WriteFault = WriteFault
end_of session.TooLong = TooLong
end_of session.Memory = Memory

-- behind a session that is whole the text is written; behind another nothing
abbrev pub Ends : SessionEnd → List ℕ → Option (List ℕ) → Option (List ℕ) → ℕ → ℕ → ExportEnd → Type 0
Ends session.Clean text taken_old taken_new failed_old failed_new end = Writes taken_old taken_new failed_old failed_new text end
Ends session.Closed text taken_old taken_new failed_old failed_new end = Writes taken_old taken_new failed_old failed_new text end
Ends other text taken_old taken_new failed_old failed_new end = (end ≡ end_of other) × Appends taken_old taken_new []

-- ---- the export

-- the session ended so, and what was written is the text of the plane behind it, or nothing
pub record Exports (old new : SessionState WorldView) (end : ExportEnd) : Type 0 where
  pub session_end : SessionEnd
  pub answers : AnswersAll old new session_end
  pub ends : Ends session_end (journal_text new.handler.plane) old.taken new.taken old.writes_failed new.writes_failed end

-- Memory ran out before anything else, and all is as before; or the world refuses the standard settings, and all is as before; or it takes them, and the
-- session runs.
abbrev pub ExportLeaves : SessionState WorldView → SessionState WorldView → ExportEnd → Type 0
ExportLeaves old new end =
    ((end ≡ Memory) × (new ≡ old))
    ⊎ ((RefusesStandard old.handler × (end ≡ Usage) × (new ≡ old))
    ⊎ (¬ (RefusesStandard old.handler) × Exports old new end))
