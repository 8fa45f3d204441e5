-- Of a kept plane: a turn that makes no entry, and a settle, end in a quiet state, which is final where it is safe; and no step is answered that
-- the object is the same.
use Rattle.std.proofs.Common.{◌≡◌, ℕ, Bool, length, Some, refl, sym, subst, take}
use Rattle.version_store.specs.declared.write.Applied.TheVariants as applied
use Rattle.resource_types.specs.declared.names.SlotKey.{SlotKey}
use Rattle.resource_types.specs.declared.names.Actor.TheVariants.{Controller}
use Rattle.resource_types.specs.declared.manifests.Manifest.{Manifest}
use Rattle.resource_types.proofs.Ordered.{state-order}
use Rattle.control_rules.specs.Differences.{ObjectPlan}
use Rattle.control_rules.specs.Slots.{state_at, Look, look_of, Plane, present}
use Rattle.control_rules.specs.Steps.{write_of, answer_of, plan_of}
use Rattle.control_rules.specs.Turns.{turn_of, entries_of_turn, IsSettle}
use Rattle.control_rules.specs.Safe.{IsSafe}
use Rattle.control_rules.specs.Facts.{IsKept}
use Rattle.control_rules.specs.Quiet.{IsQuiet}
use Rattle.control_rules.specs.Final.{IsFinal}
use Rattle.control_entries.specs.Ground.{IsStamped}
use Rattle.control_entries.specs.Due.{IsDue}
use Rattle.control_entries.proofs.Due.{write_due}
use Rattle.control_entries.proofs.Answers.{never_same}
use Rattle.control_entries.proofs.Fitting.{lawful_fits, lawful_stamped}
use Rattle.control_entries.proofs.KeptSteps.{turn_kept, turns_kept}
use Rattle.control_quiet.proofs.Final.{quiet_is_final}
use Rattle.control_quiet.proofs.Settles.{ground_from, empty_turn_is_quiet, empty_turn_is_final, settle_is_quiet, settle_is_final}

module _ (is_good : Manifest → Bool) where
  kept_stamped : (w : Plane) → IsKept is_good w → IsStamped w.journal
  kept_stamped w k = lawful_stamped is_good w.settings w.journal k.lawful

  -- ---- turns

  pub kept_turn_is_quiet : (w : Plane) → IsKept is_good w → entries_of_turn w ≡ 0 → IsQuiet (turn_of w).settings (present (turn_of w)) (turn_of w).now
  kept_turn_is_quiet w k none = empty_turn_is_quiet w none (kept_stamped (turn_of w) (turn_kept is_good w k))

  pub kept_turn_is_final : (w : Plane) → IsKept is_good w → entries_of_turn w ≡ 0 → IsSafe (turn_of w).journal (length (turn_of w).journal)
      → IsFinal (turn_of w).settings (present (turn_of w)) (turn_of w).now
  kept_turn_is_final w k none safe = empty_turn_is_final w none (kept_stamped (turn_of w) (turn_kept is_good w k))
      (ground_from (turn_of w).journal safe)

  -- ---- quiet states

  -- a quiet state of a plane whose journal is safe is final
  pub quiet_plane_is_final : (w : Plane) → IsSafe w.journal (length w.journal) → IsQuiet w.settings (present w) w.now → IsFinal w.settings (present w) w.now
  quiet_plane_is_final w safe quiet = quiet_is_final w.settings (present w) w.now (ground_from w.journal safe) quiet

  -- ---- settles

  settled_kept : (w v : Plane) (t : ℕ) → IsKept is_good w → IsSettle w t v → IsKept is_good v
  settled_kept w v t k s = subst (IsKept is_good) (sym s.is) (turns_kept is_good t w k)

  pub kept_settle_is_quiet : (w v : Plane) (t : ℕ) → IsKept is_good w → IsSettle w t v → IsQuiet v.settings (present v) v.now
  kept_settle_is_quiet w v t k s = settle_is_quiet w v t s (kept_stamped v (settled_kept w v t k s))

  pub kept_settle_is_final : (w v : Plane) (t : ℕ) → IsKept is_good w → IsSettle w t v → IsSafe v.journal (length v.journal)
      → IsFinal v.settings (present v) v.now
  kept_settle_is_final w v t k s safe = settle_is_final w v t s (kept_stamped v (settled_kept w v t k s)) (ground_from v.journal safe)

  -- ---- steps

  -- what a slot planned is due to the state that it looked at
  pub kept_plan_is_due : (w : Plane) (key : SlotKey) (look : Look) (plan : ObjectPlan) → IsKept is_good w → look_of key w.slots ≡ Some look
      → plan_of w look ≡ Some plan → IsDue (state_at w.journal look.seen) look.key.name plan
  kept_plan_is_due w key look plan k held planned =
      write_due (state_at w.journal look.seen) (state-order (take look.seen w.journal))
      (lawful_fits is_good w.settings w.journal k.lawful look.seen (k.slots key look held).before) w.settings look.key look.read_at plan planned

  pub kept_never_same : (w : Plane) (key : SlotKey) (look : Look) (plan : ObjectPlan) (version : ℕ) → IsKept is_good w
      → look_of key w.slots ≡ Some look → plan_of w look ≡ Some plan
      → answer_of w (write_of w (Controller look.key) look.seen look.read_at plan) ≡ applied.Same version → ⊥
  kept_never_same w key look plan version k held planned e =
      never_same w.journal k.lawful.stamps look.seen (k.slots key look held).before look.key.name
      (write_of w (Controller look.key) look.seen look.read_at plan) version refl (kept_plan_is_due w key look plan k held planned) e
