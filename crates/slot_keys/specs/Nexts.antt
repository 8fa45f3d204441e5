-- The first of the names that come after the cursor.
use Rattle.std.specs.Prelude.{Bool, Option, Some, None, cond}
use Rattle.std.specs.Ordering.{is_lt}
use Rattle.std.specs.declared.cmp.Ordering.{Ordering}
use Rattle.resource_types.specs.declared.names.Controller.{Controller}
use Rattle.resource_types.specs.declared.names.Name.{Name}
use Rattle.resource_types.specs.declared.names.SlotKey.{SlotKey}
use Rattle.resource_types.specs.contracts.names.NameOrd.TheImpl as name_order
use Rattle.control_rules.specs.Slots.{slot_key}
use Rattle.control_rules.specs.Steps.{is_after}
use Rattle.slot_keys.specs.declared.nearest.NameParts.{NameParts}

-- what is borrowed of a name, as one of its own
abbrev pub name_as : NameParts → Name
name_as parts = record { space = parts.space.now; name = parts.name.now }

-- how names are ordered: by namespace, and then by simple name
abbrev pub name_cmp : Name → Name → Ordering
name_cmp = name_order.ghosts.cmp

-- whether the controller's key of the name comes after the one that was stepped last
abbrev pub comes_after : Option SlotKey → Controller → Name → Bool
comes_after cursor c n = is_after cursor (slot_key c n)

-- the lesser of two names, or the one that there is
abbrev pub lesser : Option Name → Option Name → Option Name
lesser None other = other
lesser (Some n) None = Some n
lesser (Some n) (Some m) = cond (is_lt (name_cmp n m)) (Some n) (Some m)

-- the least so far with one more name, which counts where it passes the test
abbrev pub with_name : (Name → Bool) → Name → Option Name → Option Name
with_name counts n least = cond (counts n) (lesser (Some n) least) least
