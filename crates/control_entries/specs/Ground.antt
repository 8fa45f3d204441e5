-- What each lawful journal and its state have: order, stamps, and bodies that fit their keys.
use Rattle.std.specs.Prelude.{◌≡◌, Some}
use Rattle.version_store.specs.Index.{AreInOrder}
use Rattle.resource_types.specs.declared.names.Key.{Key}
use Rattle.resource_types.specs.declared.objects.Object.{Object}
use Rattle.resource_types.specs.contracts.names.KeyOrd.TheImpl as key_order
use Rattle.resource_types.specs.Objects.{kind_of_body}
use Rattle.resource_types.specs.Lookups.{Journal, State, find, state}
use Rattle.control_rules.specs.Slots.{AreStamped}

-- the objects stand in order of key, as they do after every journal
abbrev pub IsOrdered : State → Type 0
IsOrdered st = AreInOrder (λ (o : Object). o.key) key_order.ghosts.cmp st

-- each object's body is of the kind of its key
abbrev pub AreFitting : State → Type 0
AreFitting st = (key : Key) (o : Object) → find key st ≡ Some o → kind_of_body o.body ≡ key.kind

-- a journal whose entries have their stamps, and after which bodies fit their keys
pub record IsStamped (j : Journal) : Type 0 where
  pub stamped : AreStamped j
  pub fitting : AreFitting (state j)
