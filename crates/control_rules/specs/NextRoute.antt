-- The next write of the Route controller: the Route's removal, a foreign Table's, a pin, the Table, the status, a spare pin.
use Rattle.std.specs.Prelude.{ℕ, ◌&&◌, ◌||◌, Bool, false, not, List, [], ◌∷◌, filter, find, Option, Some, None, bytes_eq, cond}
use Rattle.std.specs.Option.{option_or}
use Rattle.std.specs.Ordering.{nat_cmp, is_lt}
use Rattle.std.specs.Cmp.Lexicographic.{slice_cmp}
use Rattle.json_tree.specs.Equal.{is_equal}
use Rattle.resource_types.specs.declared.names.Kind.TheVariants as kind
use Rattle.resource_types.specs.declared.names.Name.{Name}
use Rattle.resource_types.specs.declared.objects.Body.{Body}
use Rattle.resource_types.specs.declared.objects.Body.TheVariants.{Table}
use Rattle.resource_types.specs.declared.objects.Object.{Object}
use Rattle.resource_types.specs.contracts.objects.Body as body_row
use Rattle.resource_types.specs.Objects.{is_of, pins_of, targets_of}
use Rattle.resource_types.specs.Lookups.{State, is_empty, of_kind}
use Rattle.control_rules.specs.Standing.{beside, key_at, listed, standing, is_orphan, is_table_of, active_of, with_pins, published_at, traffic_at}
use Rattle.control_rules.specs.Resolution.{Meant, Reading, stored, assigned, assigned_rows, assigned_targets}
use Rattle.control_rules.specs.Readings.{route_status_in}
use Rattle.control_rules.specs.Differences.{ObjectPlan, first_plan, when, given, new_object, creation, replacement, removal, no_labels, status_change}

-- ---- pins

-- the pins with one more, in order of bytes
unfoldable pub add_pin : List ℕ → List (List ℕ) → List (List ℕ)
add_pin r [] = r ∷ []
add_pin r (p ∷ ps) = cond (is_lt (slice_cmp nat_cmp r p)) (r ∷ p ∷ ps) (p ∷ add_pin r ps)

-- the pins without one
unfoldable pub drop_pin : List ℕ → List (List ℕ) → List (List ℕ)
drop_pin r ps = filter (λ p. not (bytes_eq p r)) ps

-- whether the pins become empty or stop being empty
abbrev pub moves_active : List (List ℕ) → List (List ℕ) → Bool
moves_active old new = cond (is_empty old) (not (is_empty new)) (is_empty new)

-- the active moment, which moves where the pins become empty or stop being empty
abbrev pub active_after : List (List ℕ) → List (List ℕ) → ℕ → Option ℕ → Option ℕ
active_after old new now active = cond (moves_active old new) (Some now) active

-- the body of the Revision with these pins
abbrev pub pinned_body : Object → List (List ℕ) → ℕ → Body
pinned_body v pins now = with_pins pins (active_after (pins_of v.body) pins now (active_of v.body)) v.body

-- the Revision gets the pins
abbrev pub repinned : Object → List (List ℕ) → ℕ → ObjectPlan
repinned v pins now = replacement v (pinned_body v pins now)

-- the Revision, where it lacks the pin
abbrev pub unpinned : List ℕ → Option Object → Option Object
unpinned r None = None
unpinned r (Some v) = cond (listed r (pins_of v.body)) None (Some v)

-- the first Revision that a target means and that lacks the Route's pin
unfoldable pub first_unpinned : State → Name → List Meant → Option Object
first_unpinned st r [] = None
first_unpinned st r (m ∷ ms) = option_or (unpinned r.name (standing kind.Revision (beside r m.name) st)) (first_unpinned st r ms)

-- whether the Revision has the Route's pin, and neither the Table nor the Route's status names it
unfoldable pub is_spare : State → Name → Object → Bool
is_spare st r v =
    (is_of kind.Revision v && bytes_eq v.key.name.space r.space)
    && (listed r.name (pins_of v.body) && not (listed v.key.name.name (published_at st r) || listed v.key.name.name (traffic_at st r)))

-- the first such Revision by name
unfoldable pub first_spare : State → Name → Option Object
first_spare st r = find (is_spare st r) (of_kind kind.Revision st)

-- ---- the Route's targets

-- the targets of the Route, with the Revisions that they mean, where it stands and all are ready
abbrev pub assigned_of : Reading → State → Name → Option Object → Option (List Meant)
assigned_of reading st r None = None
assigned_of reading st r (Some o) = assigned reading st r (targets_of o.body)

-- the same of the Route of the name
unfoldable pub assigned_at : Reading → State → Name → Option (List Meant)
assigned_at reading st r = assigned_of reading st r (standing kind.Route r st)

-- ---- Tables

-- whether the Table is the Route's
abbrev pub is_own_table : Option Object → Object → Bool
is_own_table None t = false
is_own_table (Some o) t = is_table_of o.meta.stamp.uid t.body

-- the Table of the Route
abbrev pub table_of : Name → List ℕ → Object → List Meant → Body
table_of r domain o ms = Table o.meta.stamp.uid (assigned_rows r domain ms) (assigned_targets r domain ms)

-- whether two bodies are equal
unfoldable pub same_body : Body → Body → Bool
same_body old new = is_equal body_row.the_row.coded old new

-- the Table is made, or gets the body where it has another
unfoldable pub published : Name → Option Object → Body → Option ObjectPlan
published r None body = Some (creation (new_object (key_at kind.Table r) None no_labels no_labels body))
published r (Some t) body = when (not (same_body t.body body)) (replacement t body)

-- ---- the differences

-- the Route is removed, where its owner is gone
abbrev pub route_orphaned : State → Name → Option ObjectPlan
route_orphaned st r = given (standing kind.Route r st) (λ o. when (is_orphan st o) (removal o))

-- the Table is removed, where it is not the Route's
abbrev pub table_foreign : State → Name → Option ObjectPlan
table_foreign st r = given (standing kind.Table r st) (λ t. when (not (is_own_table (standing kind.Route r st) t)) (removal t))

-- a Revision that a target means gets the pin that it lacks
abbrev pub pin_lacking : State → Name → ℕ → Option ObjectPlan
pin_lacking st r now =
    given (assigned_at stored st r) (λ ms.
    given (first_unpinned st r ms) (λ v. Some (repinned v (add_pin r.name (pins_of v.body)) now)))

-- the Table is published
abbrev pub table_differs : List ℕ → State → Name → Option ObjectPlan
table_differs domain st r =
    given (standing kind.Route r st) (λ o.
    given (assigned_at stored st r) (λ ms. published r (standing kind.Table r st) (table_of r domain o ms)))

-- the Route gets its status
abbrev pub route_status_differs : List ℕ → State → Name → ℕ → Option ObjectPlan
route_status_differs domain st r now = given (standing kind.Route r st) (λ o. status_change o (route_status_in stored domain st r o) now)

-- a Revision loses the pin that it needs no longer
abbrev pub pin_spare : State → Name → ℕ → Option ObjectPlan
pin_spare st r now = given (first_spare st r) (λ v. Some (repinned v (drop_pin r.name (pins_of v.body)) now))

-- the first difference of the Route of the name
unfoldable pub route_next : List ℕ → State → Name → ℕ → Option ObjectPlan
route_next domain st r now =
    first_plan (route_orphaned st r)
    (first_plan (table_foreign st r)
    (first_plan (pin_lacking st r now)
    (first_plan (table_differs domain st r)
    (first_plan (route_status_differs domain st r now)
    (pin_spare st r now)))))
