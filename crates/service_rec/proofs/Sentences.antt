-- What is said of a child, case by case.
use Rattle.std.proofs.Common.{◌≡◌, ℕ, true, false, List, ◌++◌, codes, append_assoc, refl, sym, ap, ◌∙◌}
use Rattle.std.specs.Prelude.{◌==◌}
use Rattle.resource_types.specs.declared.conditions.CondName.{CondName}
use Rattle.resource_types.specs.declared.conditions.Truth.{Truth}
use Rattle.resource_types.specs.declared.conditions.Truth.TheVariants as truth
use Rattle.resource_types.specs.declared.objects.Object.{Object}
use Rattle.resource_types.specs.Objects.{status_of}
use Rattle.control_rules.specs.Standing.{is_owned_by_uid}
use Rattle.control_rules.specs.Statuses.{stated, about}
use Rattle.service_rec.specs.Sights.{own_ready, seen_condition}

-- the sort, the name and what is said of them, grouped as it is told
sentence : (name : CondName) (t : Truth) (reason what simple behind : List ℕ) → stated name t reason (about what simple behind) ≡ stated name t reason ((what ++ simple) ++ behind)
sentence name t reason what simple behind = ap (stated name t reason) (sym (append_assoc what simple behind))

module _ (name : CondName) (what simple : List ℕ) (uid : ℕ) (o : Object) where
  pub not_owned : is_owned_by_uid uid o ≡ false
      → stated name truth.False (codes "NotOwned") (about what simple (codes " is not owned by this service")) ≡ seen_condition name (what ++ simple) uid o
  not_owned e = sentence name truth.False (codes "NotOwned") what simple (codes " is not owned by this service") ∙ sym (rw e refl)

  pub out_of_date : is_owned_by_uid uid o ≡ true → ((status_of o.body).observed == o.meta.stamp.generation) ≡ false
      → stated name truth.Unknown (codes "OutOfDate") (about what simple (codes " is not observed yet")) ≡ seen_condition name (what ++ simple) uid o
  out_of_date e f = sentence name truth.Unknown (codes "OutOfDate") what simple (codes " is not observed yet") ∙ sym (rw (e, f) refl)

  pub said_itself : is_owned_by_uid uid o ≡ true → ((status_of o.body).observed == o.meta.stamp.generation) ≡ true → own_ready name o ≡ seen_condition name (what ++ simple) uid o
  said_itself e f = sym (rw (e, f) refl)
