-- What contracts see of a change.
use Rattle.std.specs.Prelude.{◌≡◌, ℕ, ◌<◌, ◌&&◌, ◌||◌, Bool, not, true, cond, List, [], length, slice_get, Option, Some}
use Rattle.std.specs.List.{list_any}
use Rattle.resource_types.specs.declared.names.Kind.TheVariants as kind
use Rattle.resource_types.specs.declared.specification.Target.{Target}
use Rattle.resource_types.specs.Objects.{same_kind, pins_of}
use Rattle.control_rules.specs.Standing.{beside, of_its_kind, read}
use Rattle.resource_types.specs.declared.names.Key.{Key}
use Rattle.resource_types.specs.declared.names.SlotKey.{SlotKey}
use Rattle.resource_types.specs.declared.objects.Object.{Object}
use Rattle.resource_types.specs.Lookups.{State, is_empty, of_kind, in_space}
use Rattle.resource_types.specs.declared.names.Controller.{Controller}
use Rattle.resource_types.specs.declared.names.Controller.TheVariants as controller
use Rattle.resource_types.specs.declared.names.Name.{Name}
use Rattle.control_rules.specs.Slots.{slot_key, is_key}
use Rattle.control_touches.specs.Touches.{is_under, is_lost, is_alike, is_pinned, is_on, is_meaning, targets_in, targets_at, touches}
use Rattle.touched_keys.specs.declared.marks.Mark.{Mark}
use Rattle.touched_keys.specs.Marks.{is_marked}

-- what stands now, the key that was changed, and what stood there before and after
pub record ChangeView : Type 0 where
  pub state : State
  pub key : Key
  pub old : Option Object
  pub new : Option Object

-- the change touches the key
abbrev pub IsTouched : ChangeView → SlotKey → Type 0
IsTouched c pick = touches c.state c.key c.old c.new pick ≡ true

-- each key of the controller by the name of one of the objects is marked, where the change touches it
abbrev pub MarksEach : ChangeView → Controller → List Object → List Mark → Type 0
MarksEach c by os keys = (i : ℕ) (o : Object) → slice_get os i ≡ Some o → IsTouched c (slot_key by o.key.name) → is_marked (slot_key by o.key.name) keys ≡ true

-- the same of the first n objects
abbrev pub MarksFirst : ℕ → ChangeView → Controller → List Object → List Mark → Type 0
MarksFirst n c by os keys = (i : ℕ) (o : Object) → i < n → slice_get os i ≡ Some o → IsTouched c (slot_key by o.key.name) → is_marked (slot_key by o.key.name) keys ≡ true

-- each key of the controller is marked, where the change touches it
abbrev pub MarksAll : ChangeView → Controller → List Mark → Type 0
MarksAll c by keys = (n : Name) → is_key (slot_key by n) c.state ≡ true → IsTouched c (slot_key by n) → is_marked (slot_key by n) keys ≡ true

-- each key of a Route that has a pin at what is there is marked, where the change touches it
abbrev pub MarksPins : ChangeView → Option Object → List Mark → Type 0
MarksPins c o keys = (n : Name) → n.space ≡ c.key.name.space → is_pinned n o ≡ true → IsTouched c (slot_key controller.Route n) → is_marked (slot_key controller.Route n) keys ≡ true

-- the same of the first n of these names
abbrev pub MarksNamed : ℕ → ChangeView → List (List ℕ) → List Mark → Type 0
MarksNamed n c names keys = (i : ℕ) (name : List ℕ) → i < n → slice_get names i ≡ Some name → IsTouched c (slot_key controller.Route (beside c.key.name name)) → is_marked (slot_key controller.Route (beside c.key.name name)) keys ≡ true

-- a Revision was changed, and its name is under the name
pub record IsOver (c : ChangeView) (n : Name) : Type 0 where
  pub of : same_kind c.key.kind kind.Revision ≡ true
  pub space : n.space ≡ c.key.name.space
  pub under : is_under n.name c.key.name.name ≡ true

-- each key of the controller by a name that the changed Revision's is under is marked, where the change touches it
abbrev pub MarksOver : ChangeView → Controller → List Mark → Type 0
MarksOver c by keys = (n : Name) → IsOver c n → IsTouched c (slot_key by n) → is_marked (slot_key by n) keys ≡ true

-- the same of the names that are shorter than this
abbrev pub MarksOverBelow : ℕ → ChangeView → Controller → List Mark → Type 0
MarksOverBelow end c by keys = (n : Name) → length n.name < end → IsOver c n → IsTouched c (slot_key by n) → is_marked (slot_key by n) keys ≡ true

-- ---- which walks are needed

-- whether one of the targets names a Revision
abbrev pub has_names : List Target → Bool
has_names ts = list_any (λ (t : Target). not (is_empty t.revision)) ts

-- whether a target of what was or is there names a Revision
abbrev pub names_revisions : ChangeView → Bool
names_revisions c = has_names (targets_in c.old) || has_names (targets_in c.new)

-- whether Revisions of other names than its own may be touched
abbrev pub walks_revisions : ChangeView → Bool
walks_revisions c = (same_kind c.key.kind kind.Configuration && is_lost c.old c.new) || names_revisions c

-- whether targets of Routes may read otherwise what was changed
abbrev pub is_read_by_targets : ChangeView → Bool
is_read_by_targets c = same_kind c.key.kind kind.Configuration || (same_kind c.key.kind kind.Revision && not (is_alike c.old c.new))

-- the pins of what is there; none where it isn't a Revision
abbrev pub pins_in : Option Object → List (List ℕ)
pins_in o = read [] pins_of (of_its_kind kind.Revision o)

-- ---- Routes that read what was changed

-- the targets of an object, where it is a Route
abbrev pub route_targets : Object → List Target
route_targets o = targets_in (of_its_kind kind.Route (Some o))

-- the Routes in the namespace of the change
abbrev pub routes_beside : ChangeView → List Object
routes_beside c = in_space c.key.name.space (of_kind kind.Route c.state)

-- whether one of the targets of the Route reads what was changed: is on the Configuration, or else means the Revision
abbrev pub is_any_reading : ChangeView → Name → List Target → Bool
is_any_reading c r ts = cond (same_kind c.key.kind kind.Configuration) (list_any (is_on c.key.name.name) ts) (list_any (is_meaning c.state r c.key.name.name) ts)

-- whether that is so of the targets of the object
abbrev pub is_reader : ChangeView → Object → Bool
is_reader c o = is_any_reading c o.key.name (route_targets o)

-- the object is in the namespace of the change, and its targets are those of the Route of its name
pub record IsRouteBeside (c : ChangeView) (o : Object) : Type 0 where
  pub space : o.key.name.space ≡ c.key.name.space
  pub targets : targets_at c.state o.key.name ≡ route_targets o

-- each of the Routes that reads what was changed is marked
abbrev pub MarksReaders : ChangeView → List Object → List Mark → Type 0
MarksReaders c os keys = (i : ℕ) (o : Object) → slice_get os i ≡ Some o → is_reader c o ≡ true → is_marked (slot_key controller.Route o.key.name) keys ≡ true

-- the same of the first n Routes
abbrev pub MarksReadersFirst : ℕ → ChangeView → List Object → List Mark → Type 0
MarksReadersFirst n c os keys = (i : ℕ) (o : Object) → i < n → slice_get os i ≡ Some o → is_reader c o ≡ true → is_marked (slot_key controller.Route o.key.name) keys ≡ true
