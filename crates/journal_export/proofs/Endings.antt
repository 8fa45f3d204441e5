-- What is written behind a session.
use Rattle.std.proofs.Common.{◌≡◌, ◌≢◌, ℕ, List, [], Option, None, Some, append-nil, refl, sym}
use Rattle.std.specs.Io.KnownBytes.{Appends}
use Rattle.http_session.specs.declared.report.SessionEnd.{SessionEnd}
use Rattle.http_session.specs.declared.report.SessionEnd.TheVariants as session
use Rattle.journal_export.specs.declared.command.ExportEnd.{ExportEnd}
use Rattle.journal_export.specs.Exports.{end_of, Ends}

pub none_written : (taken : Option (List ℕ)) → Appends taken taken []
none_written None = tt
none_written (Some xs) = sym (append-nil xs)

-- behind a session that isn't whole nothing is written
pub ends_quietly : (e : SessionEnd) (text : List ℕ) (taken : Option (List ℕ)) (failed : ℕ) (end : ExportEnd) → (e ≡ session.Clean → ⊥) → (e ≡ session.Closed → ⊥)
    → end ≡ end_of e → Ends e text taken taken failed failed end
ends_quietly session.Clean text taken failed end clean closed is = absurd (clean refl)
ends_quietly session.Closed text taken failed end clean closed is = absurd (closed refl)
ends_quietly session.Cut text taken failed end clean closed is = (is, none_written taken)
ends_quietly (session.Bad fault) text taken failed end clean closed is = (is, none_written taken)
ends_quietly session.ReadFault text taken failed end clean closed is = (is, none_written taken)
ends_quietly session.WriteFault text taken failed end clean closed is = (is, none_written taken)
ends_quietly session.TooLong text taken failed end clean closed is = (is, none_written taken)
ends_quietly session.Memory text taken failed end clean closed is = (is, none_written taken)
