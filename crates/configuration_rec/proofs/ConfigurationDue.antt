-- What is due to a Configuration, by the first difference that holds.
use Rattle.std.proofs.Common.{◌≡◌, ℕ, true, false, Some, None, refl, ◌∙◌}
use Rattle.resource_types.specs.declared.names.Kind.TheVariants as kind
use Rattle.resource_types.specs.declared.names.Name.{Name}
use Rattle.resource_types.specs.declared.objects.Object.{Object}
use Rattle.resource_types.specs.Objects.{has_been_ready}
use Rattle.resource_types.specs.Lookups.{State}
use Rattle.control_rules.specs.Standing.{standing, is_orphan}
use Rattle.control_rules.specs.Readings.{revision_name, configuration_status_in, stored_status}
use Rattle.control_rules.specs.Differences.{creation, removal, status_change}
use Rattle.control_rules.specs.NextConfiguration.{made_revision, configuration_next}
use Rattle.configuration_rec.specs.Statuses.{configuration_status_by}
use Rattle.controller_parts.proofs.Firsts.{given-none, given-some, missing-none, missing-some, when-true, when-false, first-some, first-none}

module _ (st : State) (n : Name) (now : ℕ) where
  pub due_nothing : standing kind.Configuration n st ≡ None → configuration_next st n now ≡ None
  unfolding configuration_next
  due_nothing e = given-none _ e

  pub due_removal : (c : Object) → standing kind.Configuration n st ≡ Some c → is_orphan st c ≡ true → configuration_next st n now ≡ Some (removal c)
  unfolding configuration_next
  due_removal c e h = given-some _ e ∙ first-some _ (when-true _ h)

  pub due_creation : (c : Object) → standing kind.Configuration n st ≡ Some c → is_orphan st c ≡ false → standing kind.Revision (revision_name c) st ≡ None → configuration_next st n now ≡ Some (creation (made_revision c))
  unfolding configuration_next
  due_creation c e h k = given-some _ e ∙ first-none _ (when-false _ h) ∙ first-some _ (missing-none _ k)

  pub due_status : (c : Object) → standing kind.Configuration n st ≡ Some c → is_orphan st c ≡ false → (v : Object) → standing kind.Revision (revision_name c) st ≡ Some v
      → configuration_next st n now ≡ status_change c (configuration_status_in has_been_ready stored_status st c) now
  unfolding configuration_next
  due_status c e h v k = given-some _ e ∙ first-none _ (when-false _ h) ∙ first-none _ (missing-some _ k)

  -- with the status by what stands under the Revision's name
  pub due_status_by : (c : Object) → standing kind.Configuration n st ≡ Some c → is_orphan st c ≡ false → (v : Object) (name : Name) → name ≡ revision_name c → standing kind.Revision name st ≡ Some v
      → configuration_next st n now ≡ status_change c (configuration_status_by st c name.name v) now
  due_status_by c e h v name i k = due_status c e h v (rw i at k) ∙ rw (i, rw i at k) refl
