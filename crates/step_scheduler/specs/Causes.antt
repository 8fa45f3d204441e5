-- What an answer says of the plane that was asked.
use Rattle.std.specs.Prelude.{◌≡◌, ◌≢◌, ◌↔◌, ℕ, ◌<◌, true, false, Some, None}
use Rattle.version_store.specs.declared.write.Applied.{Applied}
use Rattle.version_store.specs.declared.write.Applied.TheVariants as applied
use Rattle.resource_types.specs.declared.names.Kind.TheVariants as kind
use Rattle.resource_types.specs.declared.names.Name.{Name}
use Rattle.resource_types.specs.declared.names.SlotKey.{SlotKey}
use Rattle.resource_types.specs.Lookups.{State}
use Rattle.control_rules.specs.declared.slots.StepOutcome.{StepOutcome}
use Rattle.control_rules.specs.declared.slots.StepOutcome.TheVariants as outcome
use Rattle.control_rules.specs.Standing.{standing}
use Rattle.control_rules.specs.Slots.{is_key, Look, look_of, Plane, present}

-- The causes of a step's answer. A plan that was made is never answered that there is nothing to write; one that is stale gives way to an entry that its
-- look didn't see.
pub record IsCaused (w : Plane) (key : SlotKey) (answer : StepOutcome) : Type 0 where
  pub unknown : (answer ≡ outcome.Unknown) ↔ (is_key key (present w) ≡ false)
  pub nothing : (l : Look) → look_of key w.slots ≡ Some l → l.planned ≡ true → answer ≢ outcome.Nothing
  pub stale : (l : Look) (newer : ℕ) → look_of key w.slots ≡ Some l → answer ≡ outcome.Stale newer → l.seen < newer
  pub some : answer ≢ outcome.Empty

-- the answer is that the write was made, or that the object stands already
abbrev pub IsTaken : Applied → Type 0
IsTaken (applied.Done version) = Unit {0}
IsTaken (applied.Same version) = Unit {0}
IsTaken (applied.Stale newer) = ⊥
IsTaken (applied.Exists version) = ⊥
IsTaken (applied.Absent last) = ⊥

-- no Revision of the name stands
abbrev pub HasNoRevision : State → Name → Type 0
HasNoRevision st name = standing kind.Revision name st ≡ None
