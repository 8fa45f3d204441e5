-- Which keys of a plane are touched: to each other key nothing is due.
use Rattle.std.specs.Prelude.{◌≡◌, ◌≢◌, ◌⊎◌, Bool, true, false, List, length, None}
use Rattle.std.specs.List.{filter}
use Rattle.resource_types.specs.declared.names.Controller.TheVariants as controller
use Rattle.resource_types.specs.declared.names.Name.{Name}
use Rattle.resource_types.specs.declared.names.SlotKey.{SlotKey}
use Rattle.control_rules.specs.Next.{next_write}
use Rattle.control_rules.specs.Slots.{slot_key, all_keys, Plane, present}
use Rattle.touched_keys.specs.Marks.{is_touched_in, IsTakenIn}
use Rattle.step_scheduler.specs.Planes.{PlaneView}

-- whether the key is touched
abbrev pub is_touched : PlaneView → SlotKey → Bool
is_touched v key = is_touched_in v.plane.journal v.marks key

-- the touched keys of all controllers, in order
abbrev pub touched_keys : PlaneView → List SlotKey
touched_keys v = filter (is_touched v) (all_keys (present v.plane))

-- no key is touched
abbrev pub IsUntouched : PlaneView → Type 0
IsUntouched v = (key : SlotKey) → is_touched v key ≡ false

-- nothing is due to the key, in the present state and at the present moment
abbrev pub HasNothing : Plane → SlotKey → Type 0
HasNothing w key = next_write w.settings key (present w) w.now ≡ None

-- all entries are taken in, and the moment
abbrev pub TookIn : PlaneView → Type 0
TookIn v = IsTakenIn (length v.plane.journal) v.marks

-- the same keys are touched
abbrev pub TouchesSame : PlaneView → PlaneView → Type 0
TouchesSame old new = (key : SlotKey) → is_touched new key ≡ is_touched old key

-- beyond those before, at most keys that pass are touched
abbrev pub TouchesAtMost : (SlotKey → Type 0) → PlaneView → PlaneView → Type 0
TouchesAtMost P old new = (key : SlotKey) → is_touched new key ≡ true → (is_touched old key ≡ true) ⊎ P key

-- the key of the Revision of the name
abbrev pub IsRevisionKey : Name → SlotKey → Type 0
IsRevisionKey name key = key ≡ slot_key controller.Revision name

-- the key of a Collector
abbrev pub IsCollectorKey : SlotKey → Type 0
IsCollectorKey key = key.controller ≡ controller.Collector

-- where nothing was written, the same keys are touched
abbrev pub TouchesByEntries : PlaneView → PlaneView → Type 0
TouchesByEntries old new = new.plane.journal ≡ old.plane.journal → TouchesSame old new

-- the key isn't touched any more; each other is as it was
pub record DropsMark (key : SlotKey) (old new : PlaneView) : Type 0 where
  pub dropped : is_touched new key ≡ false
  pub others : (pick : SlotKey) → pick ≢ key → is_touched new pick ≡ is_touched old pick
