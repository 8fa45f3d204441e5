-- A report, from the parts of a plane to the plane.
use Rattle.std.proofs.Common.{◌≡◌, ℕ, List, length, Option, Some, None, Result, Ok, Err, refl, sym, ap, subst, ◌∙◌}
use Rattle.std.specs.Prelude.{◌↔◌, IfOk, OnErr}
use Rattle.std.specs.Option.{option_map}
use Rattle.version_store.specs.declared.write.Applied.{Applied}
use Rattle.version_store.specs.declared.write.Change.TheVariants.{Put}
use Rattle.version_store.specs.declared.write.Expect.{Expect}
use Rattle.version_store.specs.declared.write.Expect.TheVariants as expect
use Rattle.version_store.specs.Apply.{IsMakeable, IsNoRemovalOfNothing}
use Rattle.version_store.specs.State.{Grows}
use Rattle.resource_types.specs.declared.names.Kind.TheVariants as kind
use Rattle.resource_types.specs.declared.names.SlotKey.{SlotKey}
use Rattle.resource_types.specs.declared.objects.Object.{Object}
use Rattle.resource_types.specs.Lookups.{Journal, state}
use Rattle.control_rules.specs.declared.settings.Settings.{Settings}
use Rattle.control_rules.specs.declared.slots.Report.{Report}
use Rattle.control_rules.specs.Standing.{standing}
use Rattle.control_rules.specs.Differences.{ObjectPlan}
use Rattle.control_rules.specs.Slots.{answer_in, entries_in, Plane, present}
use Rattle.control_rules.specs.Steps.{report_plan, report_on, report_of}
use Rattle.manifest_intake.specs.Good.{is_good}
use Rattle.control_entries.proofs.KeptEvents.{report_kept}
use Rattle.step_scheduler.specs.Rows.{Row}
use Rattle.step_scheduler.specs.declared.refusals.ReportError.{ReportError}
use Rattle.step_scheduler.specs.declared.refusals.ReportError.TheVariants as error
use Rattle.step_scheduler.specs.Reported.{reporter_write, IsReportPlan, WritesReport, Hears}
use Rattle.step_scheduler.specs.Causes.{IsTaken}
use Rattle.step_scheduler.proofs.Caused.{report_taken}
use Rattle.step_scheduler.proofs.Promising.{kept_safe, kept_unused}
use Rattle.control_rules.specs.Facts.{IsKept}
use Rattle.step_scheduler.specs.Planes.{PlaneView, plane_of, AreSlots, Is, IsSafeThroughout, RemovesUnusedAlone}
use Rattle.step_scheduler.proofs.Events.{client_writes}

-- the uid of what stands, if anything does
abbrev pub uid_if : Option Object → Option ℕ
uid_if o = option_map (λ (x : Object). x.meta.stamp.uid) o

none_if : (o : Option Object) → None ≡ uid_if o → o ≡ None
none_if None e = refl
none_if (Some o) e = absurd cc

pub record HasUid (o : Option Object) (uid : ℕ) : Type 0 where
  pub object : Object
  pub stands : o ≡ Some object
  pub same : object.meta.stamp.uid ≡ uid

some_if : (o : Option Object) (uid : ℕ) → Some uid ≡ uid_if o → HasUid o uid
some_if None uid e = absurd cc
some_if (Some o) uid e = record { object = o; stands = refl; same = cc }

-- no Revision stands
pub reports_none : (w : Plane) (report : Report) → None ≡ uid_if (standing kind.Revision report.revision (present w)) → Is (report_of w report) w None
unfolding report_of
reports_none w report e =
    let none = none_if (standing kind.Revision report.revision (present w)) e in
    record { plane_is = sym (ap (λ o. (report_on w report o).plane) none); answer_is = sym (ap (λ o. (report_on w report o).answer) none) }

puts_no_removal : (e : Expect) (o : Object) → IsNoRemovalOfNothing e (Put o)
puts_no_removal expect.Absent o = tt
puts_no_removal (expect.At v) o = tt

makeable : (report : Report) (revision : Object) (old : Option Object) → IsMakeable (λ (o : Object). o.key) (report_plan report revision old)
makeable report revision old = record { key = refl; removal = puts_no_removal _ _ }

-- what a report plans can be made
pub report_makeable : (journal before : Journal) (report : Report) (uid : ℕ) (plan : ObjectPlan) → Some uid ≡ uid_if (standing kind.Revision report.revision (state journal)) → IsReportPlan before report uid plan
    → IsMakeable (λ (o : Object). o.key) plan
report_makeable journal before report uid plan e is =
    let h = some_if (standing kind.Revision report.revision (state journal)) uid e in
    subst (IsMakeable (λ (o : Object). o.key)) (sym (is h.object h.same)) (makeable report h.object _)

module _ (settings : Settings) (journal : Journal) (now : ℕ) (rows : List Row) (cursor : Option SlotKey) (k : AreSlots settings journal now rows cursor) where
  abbrev w : Plane
  w = plane_of settings journal now rows cursor

  pub reports_is : (journal' : Journal) (report : Report) (uid : ℕ) (plan : ObjectPlan) (seen : ℕ) (answer : Applied) → Some uid ≡ uid_if (standing kind.Revision report.revision (state journal))
      → WritesReport journal journal' now report uid plan seen answer → Is (report_of w report) (plane_of settings journal' now rows cursor) (Some answer)
  unfolding report_of
  reports_is journal' report uid plan seen answer e h =
      let s = some_if (standing kind.Revision report.revision (state journal)) uid e in
      let plan_is = h.planned s.object s.same in
      let write_is = ap (λ n. reporter_write n now plan) h.count ∙ ap (reporter_write (length journal) now) plan_is in
      record {
        plane_is =
            ap (λ (j : Journal). record w { journal = j }) (h.written ∙ ap (entries_in journal) write_is)
            ∙ sym (ap (λ o. (report_on w report o).plane) s.stands);
        answer_is = ap Some (h.answered ∙ ap (answer_in journal) write_is) ∙ sym (ap (λ o. (report_on w report o).answer) s.stands);
      }

  pub reports_kept : (journal' : Journal) (report : Report) (answer : Option Applied) → Grows journal journal' → Is (report_of w report) (plane_of settings journal' now rows cursor) answer → AreSlots settings journal' now rows cursor
  reports_kept journal' report answer grows is = client_writes settings journal now rows cursor k journal' grows (report_of w report).plane is.plane_is (report_kept is_good w k.kept report)

  -- ---- the report that is heard

  -- no Revision stands
  pub hears_none : (report : Report) → None ≡ uid_if (standing kind.Revision report.revision (state journal)) → Hears w report w (Err error.NoSuchRevision)
  hears_none report e = record { event = reports_none w report e; kept = k.kept; absent = λ none. refl }

  stands_not : (o : Option Object) (uid : ℕ) → Some uid ≡ uid_if o → o ≡ None → ⊥
  stands_not None uid e none = cc
  stands_not (Some o) uid e none = cc

  -- there was no memory
  pub hears_not : (report : Report) (uid : ℕ) → Some uid ≡ uid_if (standing kind.Revision report.revision (state journal)) → (plane : Plane) → plane ≡ w → Hears w report plane (Err error.Memory)
  hears_not report uid e plane same = record { event = same; kept = k.kept; absent = λ none. absurd (stands_not _ uid e none) }

  -- the Health is written
  pub hears : (journal' : Journal) (report : Report) (uid : ℕ) (plan : ObjectPlan) (seen : ℕ) (answer : Applied) → Some uid ≡ uid_if (standing kind.Revision report.revision (state journal))
      → WritesReport journal journal' now report uid plan seen answer → Hears w report (plane_of settings journal' now rows cursor) (Ok answer)
  hears journal' report uid plan seen answer e h =
      record { event = reports_is journal' report uid plan seen answer e h; kept = k.kept; absent = λ none. absurd (stands_not _ uid e none) }

-- a report on a plane is one of the plane by another name
pub hears_at : (report : Report) (u v : PlaneView) (plane : Plane) (answer : Result Applied ReportError) → u ≡ v → Hears u.plane report plane answer → Hears v.plane report plane answer
hears_at report u v plane answer e = subst (λ z. Hears z.plane report plane answer) e

-- where nothing changes
pub hears_same : (report : Report) (u v : PlaneView) (answer : Result Applied ReportError) → u ≡ v → Hears u.plane report u.plane answer → Hears v.plane report v.plane answer
hears_same report u v answer e = subst (λ z. Hears z.plane report z.plane answer) e

-- ---- what follows

none_on : (w v : Plane) (report : Report) (o : Option Object) → v ≡ (report_on w report o).plane → None ≡ (report_on w report o).answer → (v ≡ w) × (o ≡ None)
none_on w v report None e a = (e, refl)
none_on w v report (Some o) e a = absurd cc

none_of : (w v : Plane) (report : Report) → Is (report_of w report) v None → (v ≡ w) × (standing kind.Revision report.revision (present w) ≡ None)
unfolding report_of
none_of w v report is = none_on w v report (standing kind.Revision report.revision (present w)) is.plane_is is.answer_is

module _ (w : Plane) (report : Report) (v : Plane) where
  pub heard_same : (answer : Result Applied ReportError) → Hears w report v answer → OnErr answer (v ≡ w)
  heard_same (Ok a) h = tt
  heard_same (Err error.NoSuchRevision) h = (none_of w v report h.event).0
  heard_same (Err error.Memory) h = h.event

  no_revision : (answer : Result Applied ReportError) → Hears w report v answer → answer ≡ Err error.NoSuchRevision → standing kind.Revision report.revision (present w) ≡ None
  no_revision (Ok a) h e = absurd cc
  no_revision (Err error.NoSuchRevision) h e = (none_of w v report h.event).1
  no_revision (Err error.Memory) h e = absurd cc

  pub heard_absent : (answer : Result Applied ReportError) → Hears w report v answer → (answer ≡ Err error.NoSuchRevision) ↔ (standing kind.Revision report.revision (present w) ≡ None)
  heard_absent answer h = (no_revision answer h, h.absent)

  pub heard_taken : (answer : Result Applied ReportError) → Hears w report v answer → IfOk answer IsTaken
  heard_taken (Ok a) h = report_taken w v h.kept report a h.event
  heard_taken (Err e) h = tt

  heard_kept : (answer : Result Applied ReportError) → Hears w report v answer → IsKept is_good v
  heard_kept (Ok a) h = subst (IsKept is_good) (sym h.event.plane_is) (report_kept is_good w h.kept report)
  heard_kept (Err error.NoSuchRevision) h = subst (IsKept is_good) (sym (none_of w v report h.event).0) h.kept
  heard_kept (Err error.Memory) h = subst (IsKept is_good) (sym h.event) h.kept

  pub heard_safe : (answer : Result Applied ReportError) → Hears w report v answer → IsSafeThroughout v.journal
  heard_safe answer h = kept_safe v (heard_kept answer h)

  pub heard_unused : (answer : Result Applied ReportError) → Hears w report v answer → RemovesUnusedAlone v.journal
  heard_unused answer h = kept_unused v (heard_kept answer h)
