-- What a plane is, and the keys of its controllers.
use Rattle.std.specs.Prelude.{ℕ, Bool, ◌&&◌, List, [], ◌∷◌, ◌++◌, map, cond, Option, Some, None, bytes_eq}
use Rattle.std.specs.List.{list_any, filter}
use Rattle.version_store.specs.State as store
use Rattle.resource_types.specs.declared.names.Kind.{Kind}
use Rattle.resource_types.specs.declared.names.Kind.TheVariants as kind
use Rattle.resource_types.specs.declared.names.Controller.{Controller}
use Rattle.resource_types.specs.declared.names.Controller.TheVariants as controller
use Rattle.resource_types.specs.declared.names.Name.{Name}
use Rattle.resource_types.specs.declared.names.SlotKey.{SlotKey}
use Rattle.resource_types.specs.declared.objects.Object.{Object}
use Rattle.resource_types.specs.contracts.names.NameOrd.TheImpl as name_order
use Rattle.resource_types.specs.contracts.names.SlotKeyOrd.TheImpl as slot_order
use Rattle.resource_types.specs.Objects.{is_of, pins_of}
pub use Rattle.resource_types.specs.Journal.{Entry as ObjectEntry, Write as ObjectWrite, state_at, AreStamped, answer_to as answer_in, entries_after as entries_in, entry_for as entry_in, last_version as last_in, newest_guard as newest_in}
use Rattle.resource_types.specs.Lookups.{Journal, State, state}
use Rattle.control_rules.specs.declared.settings.Settings.{Settings}
use Rattle.control_rules.specs.declared.slots.Slot.{Slot}
use Rattle.control_rules.specs.declared.slots.Slot.TheVariants as slot
use Rattle.control_rules.specs.Standing.{beside}

-- ---- names

-- whether two names are one
abbrev pub same_name : Name → Name → Bool
same_name a b = bytes_eq a.space b.space && bytes_eq a.name b.name

-- ---- the keys of a controller

-- the names of the objects of a kind, in order
abbrev pub names_of : Kind → State → List Name
names_of kind st = map (λ (o : Object). o.key.name) (filter (is_of kind) st)

-- the names of the Routes that hold a Revision
abbrev pub holders : Object → List Name
holders o = map (beside o.key.name) (pins_of o.body)

-- the same of these objects, one behind the other
abbrev pub all_holders : State → List Name
all_holders [] = []
all_holders (o ∷ os) = holders o ++ all_holders os

-- the names in order, each once
unfoldable pub in_order : List Name → List Name
in_order [] = []
in_order (n ∷ ns) = store.put (λ (m : Name). m) name_order.ghosts.cmp n (in_order ns)

-- the names that a controller works on, in order: those of Services, Configurations, Revisions, Configurations; and of Routes, of Tables and of all pins
unfoldable pub names_for : Controller → State → List Name
names_for controller.Service st = names_of kind.Service st
names_for controller.Configuration st = names_of kind.Configuration st
names_for controller.Revision st = names_of kind.Revision st
names_for controller.Collector st = names_of kind.Configuration st
names_for controller.Route st = in_order (names_of kind.Route st ++ (names_of kind.Table st ++ all_holders (filter (is_of kind.Revision) st)))

-- a controller's key of a name
abbrev pub slot_key : Controller → Name → SlotKey
slot_key c n = record { controller = c; name = n }

-- whether the name is one that the controller works on
unfoldable pub is_key : SlotKey → State → Bool
is_key key st = list_any (same_name key.name) (names_for key.controller st)

-- the keys of a controller, in order
abbrev pub keys_for : Controller → State → List SlotKey
keys_for c st = map (slot_key c) (names_for c st)

-- the keys of all controllers, in order
unfoldable pub all_keys : State → List SlotKey
all_keys st =
    keys_for controller.Service st
    ++ (keys_for controller.Configuration st
    ++ (keys_for controller.Revision st
    ++ (keys_for controller.Collector st
    ++ keys_for controller.Route st)))

-- ---- slots

-- what a slot holds that isn't idle: when its controller looked, and whether it has planned since
pub record Look : Type 0 where
  pub key : SlotKey
  pub planned : Bool
  pub seen : ℕ
  pub read_at : ℕ

-- the slots that aren't idle, in order of key
abbrev pub Slots : Type 0
Slots = List Look

-- what the slot of a key holds; nothing where it is idle
abbrev pub look_of : SlotKey → Slots → Option Look
look_of key slots = store.find (λ (l : Look). l.key) slot_order.ghosts.cmp key slots

-- the slots once that of the look holds it
abbrev pub held : Look → Slots → Slots
held look slots = store.put (λ (l : Look). l.key) slot_order.ghosts.cmp look slots

-- the slots once that of the key is idle
abbrev pub idle_at : SlotKey → Slots → Slots
idle_at key slots = store.without (λ (l : Look). l.key) slot_order.ghosts.cmp key slots

-- what is told of a slot
abbrev pub slot_of : Option Look → Slot
slot_of None = slot.Idle
slot_of (Some l) = cond l.planned (slot.Planned l.seen l.read_at) (slot.Looked l.seen l.read_at)

-- ---- planes

-- a plane: all that was written, the moment, the slots that aren't idle, the key that was stepped last, and the settings
pub record Plane : Type 0 where
  pub journal : Journal
  pub now : ℕ
  pub slots : Slots
  pub cursor : Option SlotKey
  pub settings : Settings

-- what stands now
abbrev pub present : Plane → State
present w = state w.journal

-- a new plane
abbrev pub new_plane : Settings → Plane
new_plane settings = record { journal = []; now = 0; slots = []; cursor = None; settings = settings }
