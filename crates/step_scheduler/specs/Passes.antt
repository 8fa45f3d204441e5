-- The keys of a pass that are visited. Rounds of the others change nothing.
use Rattle.std.specs.Prelude.{◌≡◌, ◌&&◌, ◌||◌, not, Bool, true, cond, Option, Some, None}
use Rattle.std.specs.Ordering.{is_lt}
use Rattle.resource_types.specs.declared.names.Controller.{Controller}
use Rattle.resource_types.specs.declared.names.Name.{Name}
use Rattle.resource_types.specs.declared.names.SlotKey.{SlotKey}
use Rattle.resource_types.specs.contracts.names.ControllerPartialEq.TheImpl as controller_eq
use Rattle.resource_types.specs.contracts.names.ControllerOrd.TheImpl as controller_order
use Rattle.resource_types.specs.contracts.names.SlotKeyOrd.TheImpl as slot_order
use Rattle.resource_types.specs.Lookups.{State}
use Rattle.control_rules.specs.Slots.{slot_key, is_key, Plane, present}
use Rattle.control_rules.specs.Steps.{is_after}
use Rattle.control_rules.specs.Turns.{round}

-- whether the key is one of the controller's that comes after the last one
abbrev pub is_next : Controller → Option SlotKey → State → SlotKey → Bool
is_next c last st key = (controller_eq.ghosts.eq key.controller c && is_after last key) && is_key key st

-- whether the controller's pass has the key behind it: an earlier controller's, or one that doesn't come after the last
abbrev pub is_passed : Controller → Option SlotKey → SlotKey → Bool
is_passed c last key = is_lt (controller_order.ghosts.cmp key.controller c) || not (is_after last key)

-- whether the one key comes before the other
abbrev pub is_before : SlotKey → SlotKey → Bool
is_before one other = is_lt (slot_order.ghosts.cmp one other)

-- the lesser of two keys, where there are two
abbrev pub lesser : Option SlotKey → Option SlotKey → Option SlotKey
lesser None b = b
lesser (Some a) None = Some a
lesser (Some a) (Some b) = cond (is_before b a) (Some b) (Some a)

-- the next key of the controller's pass behind the last one: rounds of those between change nothing
pub record IsVisited (w : Plane) (c : Controller) (last : Option SlotKey) (key : SlotKey) : Type 0 where
  pub own : key.controller ≡ c
  pub after : is_after last key ≡ true
  pub known : is_key key (present w) ≡ true
  pub skipped : (n : Name) → is_after last (slot_key c n) ≡ true → is_before (slot_key c n) key ≡ true → round (slot_key c n) w ≡ w

-- where there is none, rounds of all that are left change nothing
abbrev pub IsVisit : Plane → Controller → Option SlotKey → Option SlotKey → Type 0
IsVisit w c last None = (n : Name) → is_after last (slot_key c n) ≡ true → round (slot_key c n) w ≡ w
IsVisit w c last (Some key) = IsVisited w c last key
