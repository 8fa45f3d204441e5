-- The set of touched keys, and what it says.
use Rattle.std.specs.Prelude.{◌≡◌, ◌⊎◌, ℕ, ◌≤◌, ◌&&◌, ◌||◌, Bool, true, false, List, length, None}
use Rattle.std.specs.Option.{is_some}
use Rattle.version_store.specs.State as store
use Rattle.resource_types.specs.declared.names.Controller.{Controller}
use Rattle.resource_types.specs.declared.names.Controller.TheVariants as controller
use Rattle.resource_types.specs.declared.names.SlotKey.{SlotKey}
use Rattle.resource_types.specs.contracts.names.SlotKeyOrd.TheImpl as slot_order
use Rattle.resource_types.specs.Lookups.{Journal, State, state}
use Rattle.control_rules.specs.declared.settings.Settings.{Settings}
use Rattle.control_rules.specs.Next.{next_write}
use Rattle.control_rules.specs.Slots.{state_at, is_key}
use Rattle.control_touches.specs.Touches.{is_touched_since}
use Rattle.touched_keys.specs.declared.marks.Mark.{Mark}

-- whether the key is among those that are marked
abbrev pub is_marked : SlotKey → List Mark → Bool
is_marked pick marks = is_some (store.find (λ (m : Mark). m.key) slot_order.ghosts.cmp pick marks)

-- the marks once the key is marked
abbrev pub marked : SlotKey → List Mark → List Mark
marked pick marks = store.put (λ (m : Mark). m.key) slot_order.ghosts.cmp (record { key = pick }) marks

-- the marks without the key
abbrev pub unmarked : SlotKey → List Mark → List Mark
unmarked pick marks = store.without (λ (m : Mark). m.key) slot_order.ghosts.cmp pick marks

-- what contracts see of the set: the keys that are marked, up to which entry they are, and whether the moment moved since
pub record MarksView : Type 0 where
  pub keys : List Mark
  pub upto : ℕ
  pub moved : Bool

-- whether it is the Collector
abbrev pub is_collector : Controller → Bool
is_collector controller.Service = false
is_collector controller.Configuration = false
is_collector controller.Revision = false
is_collector controller.Collector = true
is_collector controller.Route = false

-- whether the key is touched: it is one, and it is marked, or an entry touches it that isn't taken in, or the moment moved and it is the Collector's
abbrev pub is_touched_in : Journal → MarksView → SlotKey → Bool
is_touched_in j m pick =
    is_key pick (state j)
    && (is_marked pick m.keys || (is_touched_since j m.upto pick || (m.moved && is_collector pick.controller)))

-- What a set keeps: in the state after the entries that are taken in, nothing is due to a key that isn't marked; where the moment moved since, save
-- to Collectors.
pub record AreMarks (settings : Settings) (j : Journal) (now : ℕ) (m : MarksView) : Type 0 where
  pub within : m.upto ≤ length j
  pub calm : (pick : SlotKey) → is_marked pick m.keys ≡ false → (m.moved && is_collector pick.controller) ≡ false → next_write settings pick (state_at j m.upto) now ≡ None

-- marks were added, each of a key that passes
pub record Adds (P : SlotKey → Type 0) (before after : List Mark) : Type 0 where
  pub kept : (pick : SlotKey) → is_marked pick before ≡ true → is_marked pick after ≡ true
  pub only : (pick : SlotKey) → is_marked pick after ≡ true → (is_marked pick before ≡ true) ⊎ P pick

-- each key that passes is marked
abbrev pub MarksKeys : State → (SlotKey → Type 0) → List Mark → Type 0
MarksKeys st P keys = (pick : SlotKey) → is_key pick st ≡ true → P pick → is_marked pick keys ≡ true

-- All that was written is taken in, and the moment.
pub record IsTakenIn (count : ℕ) (m : MarksView) : Type 0 where
  pub upto : m.upto ≡ count
  pub moved : m.moved ≡ false

-- Marks were added, and else nothing changed.
pub record IsMarkedMore (old new : MarksView) : Type 0 where
  pub kept : (pick : SlotKey) → is_marked pick old.keys ≡ true → is_marked pick new.keys ≡ true
  pub upto : new.upto ≡ old.upto
  pub moved : new.moved ≡ old.moved

-- the same keys are touched
abbrev pub TouchesSame : Journal → MarksView → MarksView → Type 0
TouchesSame j old new = (pick : SlotKey) → is_touched_in j new pick ≡ is_touched_in j old pick
