-- What is due to a Configuration whose Revisions are collected.
use Rattle.std.proofs.Common.{◌≡◌, ℕ, Some, None, ◌∙◌}
use Rattle.resource_types.specs.declared.names.Kind.TheVariants as kind
use Rattle.resource_types.specs.declared.names.Name.{Name}
use Rattle.resource_types.specs.declared.objects.Object.{Object}
use Rattle.resource_types.specs.Objects.{has_been_ready}
use Rattle.resource_types.specs.Lookups.{State}
use Rattle.control_rules.specs.declared.settings.GcSettings.{GcSettings}
use Rattle.control_rules.specs.Standing.{standing}
use Rattle.control_rules.specs.Collection.{collection_choice}
use Rattle.control_rules.specs.Differences.{guarded_removal}
use Rattle.control_rules.specs.NextCollector.{collector_next}
use Rattle.controller_parts.proofs.Firsts.{given-none, given-some}

module _ (gc : GcSettings) (st : State) (n : Name) (now : ℕ) where
  pub due_nothing : standing kind.Configuration n st ≡ None → collector_next gc st n now ≡ None
  unfolding collector_next
  due_nothing e = given-none _ e

  module _ (c : Object) (stands : standing kind.Configuration n st ≡ Some c) where
    pub due_none : collection_choice has_been_ready gc st c now ≡ None → collector_next gc st n now ≡ None
    unfolding collector_next
    due_none e = given-some _ stands ∙ given-none _ e

    pub due_removal : (v : Object) → collection_choice has_been_ready gc st c now ≡ Some v → collector_next gc st n now ≡ Some (guarded_removal v)
    unfolding collector_next
    due_removal v e = given-some _ stands ∙ given-some _ e
