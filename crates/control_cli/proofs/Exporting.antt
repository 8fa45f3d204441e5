-- An export of a stream that ends well is whole, where nothing failed.
use Rattle.std.proofs.Common.{◌≡◌, ℕ, ◌<◌, List, length, Option, Some, None, refl, sym, ap, subst, inl, inr, arith}
use Rattle.std.specs.Prelude.{◌⊎◌}
use Rattle.std.specs.Option.{IfSome}
use Rattle.serve_io.specs.Causes.{Rose}
use Rattle.http_session.specs.declared.message.Asked.{Asked}
use Rattle.http_session.specs.declared.report.SessionEnd.{SessionEnd}
use Rattle.http_session.specs.declared.report.SessionEnd.TheVariants.{Clean, Closed, Cut, Bad, ReadFault, WriteFault, TooLong, Memory}
use Rattle.http_session.specs.declared.stream.StreamEnd.TheVariants as stream
use Rattle.http_session.specs.Stream.{IsStream}
use Rattle.http_session.specs.Session.{SessionState}
use Rattle.api_server.specs.Ask.{WorldView}
use Rattle.journal_export.specs.declared.command.ExportEnd.{ExportEnd}
use Rattle.journal_export.specs.declared.command.ExportEnd.TheVariants as export
use Rattle.journal_export.specs.Exports.{RefusesStandard, set_up, unheard, Writes, Ends, ExportLeaves}
use Rattle.control_cli.specs.declared.status.Status.{Status}
use Rattle.control_cli.specs.declared.status.Status.TheVariants.{Done, Memory as NoMemory}
use Rattle.control_cli.specs.Ends.{status_of, status_of_export}
use Rattle.control_cli.specs.Runs.{IsComplete}
use Rattle.control_cli.specs.Exports.{ExportRuns}
use Rattle.control_cli.proofs.Complete.{ends}

-- done, or out of memory
abbrev IsWell : Status → Type 0
IsWell status = (status ≡ Done) ⊎ (status ≡ NoMemory)

written_well : (old new : Option (List ℕ)) (failed now : ℕ) (text : List ℕ) (end : ExportEnd) → Writes old new failed now text end → ¬ (Rose failed now) → IsWell (status_of_export end)
written_well old new failed now text export.Done w calm = inl refl
written_well old new failed now text export.Usage w calm = absurd w
written_well old new failed now text export.Cut w calm = absurd w
written_well old new failed now text export.BadRequest w calm = absurd w
written_well old new failed now text export.ReadFault w calm = absurd w
written_well old new failed now text export.WriteFault (rose, w) calm = absurd (calm rose)
written_well old new failed now text export.TooLong w calm = absurd w
written_well old new failed now text export.Memory w calm = inr refl

ends_well : (e : SessionEnd) (text : List ℕ) (old new : Option (List ℕ)) (failed now : ℕ) (end : ExportEnd) → Ends e text old new failed now end
    → ¬ (Rose failed now) → IsWell (status_of e) → IsWell (status_of_export end)
ends_well Clean text old new failed now end w calm due = written_well old new failed now text end w calm
ends_well Closed text old new failed now end w calm due = written_well old new failed now text end w calm
ends_well Cut text old new failed now end (is, none) calm due = subst (λ x. IsWell (status_of_export x)) (sym is) due
ends_well (Bad fault) text old new failed now end (is, none) calm due = subst (λ x. IsWell (status_of_export x)) (sym is) due
ends_well ReadFault text old new failed now end (is, none) calm due = subst (λ x. IsWell (status_of_export x)) (sym is) due
ends_well WriteFault text old new failed now end (is, none) calm due = subst (λ x. IsWell (status_of_export x)) (sym is) due
ends_well TooLong text old new failed now end (is, none) calm due = subst (λ x. IsWell (status_of_export x)) (sym is) due
ends_well Memory text old new failed now end (is, none) calm due = subst (λ x. IsWell (status_of_export x)) (sym is) due

exports_well : (old new : SessionState WorldView) (end : ExportEnd) → ExportLeaves old new end → ¬ (RefusesStandard old.handler)
    → (all : List ℕ) → old.left ≡ Some all → (asked : List Asked) → IsStream all asked stream.Clean ⊎ IsStream all asked stream.Closed
    → length all < 4294967295 → ¬ (Rose old.reads_failed new.reads_failed) → ¬ (Rose old.writes_failed new.writes_failed)
    → IsWell (status_of_export end)
exports_well old new end (inl (is, same)) takes all told asked well short reads writes = inr (ap status_of_export is)
exports_well old new end (inr (inl (refuses, is, same))) takes all told asked well short reads writes = absurd (takes refuses)
exports_well old new end (inr (inr (ok, x))) takes all told asked well short reads writes =
    ends_well x.session_end _ old.taken new.taken old.writes_failed new.writes_failed end x.ends writes
    (ends (unheard (record old { handler = set_up old.handler })) (unheard new) x.answers.answered x.session_end x.answers.finishes all told asked well short reads
    (λ rose. omega (arith, rose)))

complete : (old new : SessionState WorldView) (end : ExportEnd) (status : Status) → status ≡ status_of_export end → ExportLeaves old new end
    → ¬ (RefusesStandard old.handler) → IsComplete old new status
complete old new end status is leaves takes = by_left old.left refl
  where
    by_left : (left : Option (List ℕ)) → old.left ≡ left
        → IfSome left (λ all. (asked : List Asked) → (IsStream all asked stream.Clean ⊎ IsStream all asked stream.Closed)
        → length all < 4294967295 → ¬ (Rose old.reads_failed new.reads_failed) → ¬ (Rose old.writes_failed new.writes_failed)
        → (status ≡ Done) ⊎ (status ≡ NoMemory))
    by_left None told = tt
    by_left (Some all) told = λ asked well short reads writes. subst IsWell (sym is) (exports_well old new end leaves takes all told asked well short reads writes)

pub export_runs : (old new : SessionState WorldView) (end : ExportEnd) (status : Status) → status ≡ status_of_export end → ExportLeaves old new end → ExportRuns old new status
export_runs old new end status is leaves = record { end = end; is = is; leaves = leaves; complete = complete old new end status is leaves }
