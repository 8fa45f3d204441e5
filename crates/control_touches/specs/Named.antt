-- How the objects of a state are named and owned.
use Rattle.std.specs.Prelude.{◌≡◌, true, Some}
use Rattle.resource_types.specs.declared.names.Kind.TheVariants as kind
use Rattle.resource_types.specs.declared.names.Name.{Name}
use Rattle.resource_types.specs.declared.metadata.Owner.{Owner}
use Rattle.resource_types.specs.declared.objects.Object.{Object}
use Rattle.resource_types.specs.Lookups.{State}
use Rattle.control_rules.specs.Standing.{standing}
use Rattle.control_rules.specs.Readings.{simple_revision_name}
use Rattle.control_rules.specs.FurtherFacts.{IsServed}
use Rattle.control_entries.specs.Ground.{IsOrdered}
use Rattle.control_touches.specs.Touches.{is_under}

-- The objects stand in order. Configurations and Routes are owned by Services of their names, if at all. The Revision of a Configuration is named
-- under it, and so is each Revision under its owner.
pub record AreNamed (st : State) : Type 0 where
  pub ordered : IsOrdered st
  pub served : (n : Name) (c : Object) → standing kind.Configuration n st ≡ Some c → IsServed c
  pub routed : (n : Name) (r : Object) → standing kind.Route n st ≡ Some r → IsServed r
  pub current : (n : Name) (c : Object) → standing kind.Configuration n st ≡ Some c → is_under n.name (simple_revision_name c) ≡ true
  pub owned : (n : Name) (v : Object) (w : Owner) → standing kind.Revision n st ≡ Some v → v.meta.owner ≡ Some w → (w.kind ≡ kind.Configuration) × (is_under w.name n.name ≡ true)
