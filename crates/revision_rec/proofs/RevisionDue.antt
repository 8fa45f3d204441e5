-- What is due to a Revision, by the first difference that holds.
use Rattle.std.proofs.Common.{◌≡◌, ◌&&◌, ℕ, true, false, Option, Some, None, refl, ◌∙◌}
use Rattle.resource_types.specs.declared.names.Kind.TheVariants as kind
use Rattle.resource_types.specs.declared.names.Name.{Name}
use Rattle.resource_types.specs.declared.objects.Object.{Object}
use Rattle.resource_types.specs.Lookups.{State, is_free}
use Rattle.control_rules.specs.Standing.{standing, is_orphan}
use Rattle.control_rules.specs.Readings.{revision_status_in}
use Rattle.control_rules.specs.Statuses.{Reported, reported_in, reported_of, revision_status}
use Rattle.resource_types.specs.declared.status.ObjectStatus.{ObjectStatus}
use Rattle.control_rules.specs.Differences.{guarded_removal, status_change}
use Rattle.control_rules.specs.NextRevision.{revision_next}
use Rattle.controller_parts.proofs.Firsts.{given-none, given-some, when-true, when-false, first-some, first-none}

module _ (st : State) (n : Name) (now : ℕ) where
  pub due_nothing : standing kind.Revision n st ≡ None → revision_next st n now ≡ None
  unfolding revision_next
  due_nothing e = given-none _ e

  pub due_removal : (v : Object) → standing kind.Revision n st ≡ Some v → (is_orphan st v && is_free st n) ≡ true → revision_next st n now ≡ Some (guarded_removal v)
  unfolding revision_next
  due_removal v e h = given-some _ e ∙ first-some _ (when-true _ h)

  pub due_status : (v : Object) → standing kind.Revision n st ≡ Some v → (is_orphan st v && is_free st n) ≡ false → revision_next st n now ≡ status_change v (revision_status_in st v) now
  unfolding revision_next
  due_status v e h = given-some _ e ∙ first-none _ (when-false _ h)

-- the status of what is looked at is the one that is due
pub due_as : (st : State) (v : Object) (told : Option Reported) (health : Option Object) (s : ObjectStatus)
    → health ≡ standing kind.Health v.key.name st → told ≡ reported_in v.meta.stamp.uid health → s ≡ revision_status v.meta.stamp.generation told
    → s ≡ revision_status_in st v
unfolding reported_of
due_as st v told health s e g h = rw (h, g, e) refl
