-- Which keys an entry touches: those to which it may make something due.
use Rattle.std.specs.Prelude.{ℕ, ◌==◌, ◌&&◌, ◌||◌, not, nat_eq, Bool, true, false, List, [], ◌∷◌, ◌++◌, length, drop, codes, Option, cond, bytes_eq, Some, None}
use Rattle.std.specs.List.{list_any, starts_with}
use Rattle.version_store.specs.State as store
use Rattle.resource_types.specs.declared.names.Kind.{Kind}
use Rattle.resource_types.specs.declared.names.Kind.TheVariants as kind
use Rattle.resource_types.specs.declared.names.Key.{Key}
use Rattle.resource_types.specs.declared.names.Name.{Name}
use Rattle.resource_types.specs.declared.names.Controller.{Controller}
use Rattle.resource_types.specs.declared.names.Controller.TheVariants as controller
use Rattle.resource_types.specs.declared.names.SlotKey.{SlotKey}
use Rattle.resource_types.specs.declared.conditions.CondName.TheVariants as condition
use Rattle.resource_types.specs.declared.conditions.Truth.TheVariants as truth
use Rattle.resource_types.specs.declared.specification.Target.{Target}
use Rattle.resource_types.specs.declared.objects.Object.{Object}
use Rattle.resource_types.specs.contracts.names.KeyOrd.TheImpl as key_order
use Rattle.resource_types.specs.Objects.{same_kind, is_of, pins_of, targets_of, has_been_ready, has_condition}
use Rattle.resource_types.specs.Lookups.{Journal, State, state, find, is_empty, is_given, is_naming}
use Rattle.control_rules.specs.Standing.{beside, listed, of_its_kind, read, standing, status_at}
use Rattle.control_rules.specs.Slots.{ObjectEntry, state_at, same_name}

-- ---- names

-- whether the text begins with the name and a dash: so are the Revisions of a Configuration named
unfoldable pub is_under : List ℕ → List ℕ → Bool
is_under name text = starts_with nat_eq text name && starts_with nat_eq (drop (length name) text) (codes "-")

-- whether the key has the name, and is of one of the kinds
unfoldable pub is_one : List Kind → Name → Key → Bool
is_one kinds n k = list_any (same_kind k.kind) kinds && same_name k.name n

-- whether the key is of the kind, in the namespace, and its simple name passes the test
unfoldable pub is_one_of : Kind → List ℕ → (List ℕ → Bool) → Key → Bool
is_one_of kind space test k = same_kind k.kind kind && (bytes_eq k.name.space space && test k.name.name)

-- ---- what was there before, and what is there now

-- whether one of two tests holds and the other doesn't
unfoldable pub is_changed : Bool → Bool → Bool
is_changed before now = cond before (not now) now

-- whether a target of what is there, of the kind, named the Revision and does no more, or does now
unfoldable pub is_renamed : Kind → Name → Option Object → Option Object → Bool
is_renamed kind v old new = is_changed (is_given (is_naming kind v) old) (is_given (is_naming kind v) new)

-- whether that is so of a Service or a Route
unfoldable pub is_retargeted : Name → Option Object → Option Object → Bool
is_retargeted v old new = is_renamed kind.Service v old new || is_renamed kind.Route v old new

-- the targets of what is there, if anything is
unfoldable pub targets_in : Option Object → List Target
targets_in o = read [] targets_of o

-- whether that is so of a Revision whose simple name passes the test
unfoldable pub is_retargeted_at : List ℕ → (List ℕ → Bool) → Option Object → Option Object → Bool
is_retargeted_at space test old new =
    list_any (λ (t : Target). test t.revision && is_retargeted (record { space = space; name = t.revision }) old new) (targets_in old ++ targets_in new)

-- whether it is the Configuration of the uid
unfoldable pub is_configuration : ℕ → Object → Bool
is_configuration uid o = is_of kind.Configuration o && (o.meta.stamp.uid == uid)

-- whether a Configuration went, or gave way to another
unfoldable pub is_lost : Option Object → Option Object → Bool
is_lost old new = is_given (λ o. not (is_given (is_configuration o.meta.stamp.uid) new)) old

-- ---- the targets of a Route

-- the targets of the Route of the name
unfoldable pub targets_at : State → Name → List Target
targets_at st r = targets_in (standing kind.Route r st)

-- whether the target is on the Configuration
unfoldable pub is_on : List ℕ → Target → Bool
is_on name t = is_empty t.revision && bytes_eq t.configuration name

-- the Revision that a target means: the one that it names, or else the latest ready one of its Configuration
unfoldable pub meant_name : State → Name → Target → List ℕ
meant_name st r t = cond (is_empty t.revision) (status_at kind.Configuration st (beside r t.configuration)).ready t.revision

-- whether the target means the Revision
unfoldable pub is_meaning : State → Name → List ℕ → Target → Bool
is_meaning st r name t = bytes_eq (meant_name st r t) name

-- whether the Route has a pin at what is there
unfoldable pub is_pinned : Name → Option Object → Bool
is_pinned r o = listed r.name (read [] pins_of (of_its_kind kind.Revision o))

-- what Routes read of a Revision but its pins: its uid, whether it was ready once, and whether it is ready
abbrev pub sight_of : Option Object → Option (ℕ × (Bool × Bool))
sight_of None = None
sight_of (Some v) = Some (v.meta.stamp.uid, (has_been_ready v, has_condition condition.Ready truth.True v))

-- whether that is the same of two
abbrev pub is_same_sight : Option (ℕ × (Bool × Bool)) → Option (ℕ × (Bool × Bool)) → Bool
is_same_sight None None = true
is_same_sight None (Some b) = false
is_same_sight (Some a) None = false
is_same_sight (Some a) (Some b) = (a.0 == b.0) && not (is_changed a.1.0 b.1.0 || is_changed a.1.1 b.1.1)

-- whether what was there is read as what is there
unfoldable pub is_alike : Option Object → Option Object → Bool
is_alike old new = is_same_sight (sight_of (of_its_kind kind.Revision old)) (sight_of (of_its_kind kind.Revision new))

-- ---- what a change at a key touches, by the controller

-- a Service: itself, its Configuration and its Route
unfoldable pub touches_service : Key → Name → Bool
touches_service k n = is_one (kind.Service ∷ kind.Configuration ∷ kind.Route ∷ []) n k

-- a Configuration: itself, its Service, and a Revision under its name
unfoldable pub touches_configuration : Key → Name → Bool
touches_configuration k n =
    is_one (kind.Service ∷ kind.Configuration ∷ []) n k
    || is_one_of kind.Revision n.space (is_under n.name) k

-- a Revision: itself and its Health, its Configuration that goes, and what names it no more or does now
unfoldable pub touches_revision : Key → Option Object → Option Object → Name → Bool
touches_revision k old new n =
    is_one (kind.Revision ∷ kind.Health ∷ []) n k
    || ((is_one_of kind.Configuration n.space (λ name. is_under name n.name) k && is_lost old new)
    || is_retargeted n old new)

-- the Collector of a Configuration: that, a Revision under its name, and what names such a one no more or does now
unfoldable pub touches_collector : Key → Option Object → Option Object → Name → Bool
touches_collector k old new n =
    is_one (kind.Configuration ∷ []) n k
    || (is_one_of kind.Revision n.space (is_under n.name) k
    || is_retargeted_at n.space (is_under n.name) old new)

-- a Route: itself, its Table and its Service, a Configuration that a target is on, a Revision that gets or loses its pin, and one that a target means
-- and that is read otherwise
unfoldable pub touches_route : State → Key → Option Object → Option Object → Name → Bool
touches_route st k old new r =
    is_one (kind.Route ∷ kind.Table ∷ kind.Service ∷ []) r k
    || (is_one_of kind.Configuration r.space (λ name. list_any (is_on name) (targets_at st r)) k
    || is_one_of kind.Revision r.space (λ name. is_changed (is_pinned r old) (is_pinned r new) || (not (is_alike old new) && list_any (is_meaning st r name) (targets_at st r))) k)

-- by the controller, in the state that now stands
abbrev pub touches_of : State → Key → Option Object → Option Object → Controller → Name → Bool
touches_of st k old new controller.Service n = touches_service k n
touches_of st k old new controller.Configuration n = touches_configuration k n
touches_of st k old new controller.Revision n = touches_revision k old new n
touches_of st k old new controller.Collector n = touches_collector k old new n
touches_of st k old new controller.Route n = touches_route st k old new n

unfoldable pub touches : State → Key → Option Object → Option Object → SlotKey → Bool
touches st k old new pick = touches_of st k old new pick.controller pick.name

-- ---- what entries touch

-- the state after an entry
abbrev pub after_entry : ObjectEntry → State → State
after_entry e st = store.changed (λ (o : Object). o.key) key_order.ghosts.cmp e.key e.object st

-- whether one of the entries touches the key, where `before` stands before them and `st` stands now
unfoldable pub is_touched_by : State → State → List ObjectEntry → SlotKey → Bool
is_touched_by st before [] pick = false
is_touched_by st before (e ∷ es) pick = touches st e.key (find e.key before) e.object pick || is_touched_by st (after_entry e before) es pick

-- whether one of the entries behind the first `from` touches the key
abbrev pub is_touched_since : Journal → ℕ → SlotKey → Bool
is_touched_since j from pick = is_touched_by (state j) (state_at j from) (drop from j) pick
