-- What the answer to an input leaves.
use Rattle.std.proofs.Common.{◌≡◌, ℕ, ◌≤◌, List, length, Option, Ok, Err, refl, sym, subst, inl, inr, arith}
use Rattle.std.specs.Prelude.{◌⊎◌}
use Rattle.std.specs.Io.KnownBytes.{Consumes, Appends}
use Rattle.http_session.specs.Session.{IsAll}
use Rattle.resource_types.specs.declared.manifests.Manifest.{Manifest}
use Rattle.manifest_intake.specs.declared.refusal.ManifestRefusal.{ManifestRefusal}
use Rattle.answers.specs.declared.stop.Stop.TheVariants as stop
use Rattle.manifest_intake.specs.Intake.{Checks}
use Rattle.manifest_check.specs.declared.command.CheckEnd.{CheckEnd}
use Rattle.manifest_check.specs.declared.command.CheckEnd.TheVariants.{Done, Refused}
use Rattle.manifest_check.specs.Lines.{manifest_line, refusal_line, long_line}
use Rattle.serve_io.specs.Gate.{Ends}
use Rattle.manifest_check.specs.Checks.{ends_of, IsTaken, IsRefused, Leaves, Sent, Answers}

-- a line that is due was sent
sent_leaves : (old new : Ends) (line : List ℕ) (whole end : CheckEnd) → (Appends old.taken new.taken line → Leaves old new whole)
    → IsTaken old new line ⊎ IsRefused old new line → Sent old.taken new.taken old.writes_failed new.writes_failed line whole end → Leaves old new end
sent_leaves old new line whole end all due (inl (is, written)) = subst (λ e. Leaves old new e) (sym is) (all written)
sent_leaves old new line whole end all due (inr (is, rose, sent, proper, written)) =
    subst (λ e. Leaves old new e) (sym is) (rose, record { line = line; due = due; sent = sent; proper = proper; written = written })

answer_leaves : (old new : Ends) (line : List ℕ) (whole end : CheckEnd) (bytes : List ℕ) → (Appends old.taken new.taken line → Leaves old new whole)
    → IsTaken old new line ⊎ IsRefused old new line → Consumes old.left new.left bytes → length bytes ≤ 65537
    → Answers old.taken new.taken old.writes_failed new.writes_failed line whole end → Leaves old new end
answer_leaves old new line whole end bytes all due took few (inl sent) = sent_leaves old new line whole end all due sent
answer_leaves old new line whole end bytes all due took few (inr (is, written)) =
    subst (λ e. Leaves old new e) (sym is) (record { bytes = bytes; consumed = took; few = few; written = written })

pub taken_leaves : (left rest t t' : Option (List ℕ)) (rf rf' wf wf' : ℕ) (bytes : List ℕ) (manifest : Manifest) (end : CheckEnd)
    → Checks bytes (Ok manifest) → Consumes left rest bytes → IsAll left bytes → length bytes ≤ 65536
    → Answers t t' wf wf' (manifest_line manifest) Done end → Leaves (ends_of left rf t wf) (ends_of rest rf' t' wf') end
taken_leaves left rest t t' rf rf' wf wf' bytes manifest end checks took all short answers =
    let old : Ends = ends_of left rf t wf in
    let new : Ends = ends_of rest rf' t' wf' in
    let due : IsTaken old new (manifest_line manifest) = (
      manifest,
      record {
        bytes = bytes;
        body = checks.0;
        input = record { consumed = took; all = all; short = short; reading = checks.1 };
        checked = checks.2;
      },
      refl,
    ) in
    answer_leaves old new (manifest_line manifest) Done end bytes (λ written. (manifest_line manifest, due, written)) (inl due) took (omega arith) answers

pub refused_leaves : (left rest t t' : Option (List ℕ)) (rf rf' wf wf' : ℕ) (bytes : List ℕ) (refusal : ManifestRefusal) (end : CheckEnd)
    → Checks bytes (Err (stop.Refused refusal)) → Consumes left rest bytes → IsAll left bytes → length bytes ≤ 65536
    → Answers t t' wf wf' (refusal_line refusal) Refused end → Leaves (ends_of left rf t wf) (ends_of rest rf' t' wf') end
refused_leaves left rest t t' rf rf' wf wf' bytes refusal end checks took all short answers =
    let old : Ends = ends_of left rf t wf in
    let new : Ends = ends_of rest rf' t' wf' in
    let due : IsRefused old new (refusal_line refusal) = inl (
      refusal,
      record {
        bytes = bytes;
        body = checks.0;
        input = record { consumed = took; all = all; short = short; reading = checks.1 };
        checked = checks.2;
      },
      refl,
    ) in
    answer_leaves old new (refusal_line refusal) Refused end bytes (λ written. (refusal_line refusal, due, written)) (inr due) took (omega arith) answers

pub long_leaves : (old new : Ends) (bytes : List ℕ) (end : CheckEnd) → Consumes old.left new.left bytes → length bytes ≡ 65537
    → Sent old.taken new.taken old.writes_failed new.writes_failed long_line Refused end → Leaves old new end
long_leaves old new bytes end took long sent =
    let due : IsRefused old new long_line = inr (record { bytes = bytes; consumed = took; long = long }, refl) in
    sent_leaves old new long_line Refused end (λ written. (long_line, due, written)) (inr due) sent
