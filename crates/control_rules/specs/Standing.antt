-- What stands under a name, and what an object says, by its body.
use Rattle.std.specs.Prelude.{ℕ, ◌==◌, Bool, true, false, not, List, [], ◌∷◌, ◌++◌, map, Option, Some, None, bytes_eq, cond}
use Rattle.resource_types.specs.declared.names.Kind.{Kind}
use Rattle.resource_types.specs.declared.names.Kind.TheVariants as kind
use Rattle.resource_types.specs.declared.names.Name.{Name}
use Rattle.resource_types.specs.declared.names.Key.{Key}
use Rattle.resource_types.specs.declared.metadata.Owner.{Owner}
use Rattle.resource_types.specs.declared.specification.Row.{Row}
use Rattle.resource_types.specs.declared.specification.Target.{Target}
use Rattle.resource_types.specs.declared.specification.Template.{Template}
use Rattle.resource_types.specs.declared.status.ObjectStatus.{ObjectStatus}
use Rattle.resource_types.specs.declared.objects.Body.{Body}
use Rattle.resource_types.specs.declared.objects.Body.TheVariants.{Service, Configuration, Revision, Route, Health, Table}
use Rattle.resource_types.specs.declared.objects.Object.{Object}
use Rattle.resource_types.specs.Objects.{is_of, no_status, pins_of, status_of}
pub use Rattle.resource_types.specs.Objects.{no_template, template_of, with_status}
use Rattle.resource_types.specs.Lookups.{State, find, is_given, owner_stands}

-- ---- names

-- the name in the same namespace
abbrev pub beside : Name → List ℕ → Name
beside n simple = record { space = n.space; name = simple }

-- the key of a kind and a name
abbrev pub key_at : Kind → Name → Key
key_at kind n = record { kind = kind; name = n }

-- whether the text is among the texts
unfoldable pub listed : List ℕ → List (List ℕ) → Bool
listed x [] = false
listed x (y ∷ ys) = cond (bytes_eq x y) true (listed x ys)

-- ---- what stands

-- the object, where it is of the kind by its key and its body
abbrev pub of_its_kind : Kind → Option Object → Option Object
of_its_kind kind None = None
of_its_kind kind (Some o) = cond (is_of kind o) (Some o) None

-- the object of the kind that stands under the name
unfoldable pub standing : Kind → Name → State → Option Object
standing kind n st = of_its_kind kind (find (key_at kind n) st)

-- what is read of the object's body, or what is read of none
abbrev pub read : {A : Type 0} → A → (Body → A) → Option Object → A
read none get None = none
read none get (Some o) = get o.body

-- the pins of the Revision
abbrev pub pins_at : State → Name → List (List ℕ)
pins_at st v = read [] pins_of (standing kind.Revision v st)

-- the status of the object of the kind
abbrev pub status_at : Kind → State → Name → ObjectStatus
status_at kind st n = read no_status status_of (standing kind n st)

-- ---- owners

-- whether the object's owner has the uid
abbrev pub is_owned_by_uid : ℕ → Object → Bool
is_owned_by_uid uid o = is_given (λ (w : Owner). w.uid == uid) o.meta.owner

-- whether the object has an owner, and it does not stand
unfoldable pub is_orphan : State → Object → Bool
is_orphan st o = is_given (λ (w : Owner). not (owner_stands st o.key.name.space w)) o.meta.owner

-- ---- templates and targets

-- a Configuration with the template
abbrev pub with_template : Template → Body → Body
with_template new (Service template traffic status) = Service template traffic status
with_template new (Configuration template status) = Configuration new status
with_template new (Revision spec generation pins active status) = Revision spec generation pins active status
with_template new (Route traffic status) = Route traffic status
with_template new (Health uid resources container ever) = Health uid resources container ever
with_template new (Table route rows targets) = Table route rows targets

-- a Route with the targets
abbrev pub with_targets : List Target → Body → Body
with_targets new (Service template traffic status) = Service template traffic status
with_targets new (Configuration template status) = Configuration template status
with_targets new (Revision spec generation pins active status) = Revision spec generation pins active status
with_targets new (Route traffic status) = Route new status
with_targets new (Health uid resources container ever) = Health uid resources container ever
with_targets new (Table route rows targets) = Table route rows targets

-- ---- Revisions

-- the moment at which a Revision's pins last became empty or stopped being empty
abbrev pub active_of : Body → Option ℕ
active_of (Service template traffic status) = None
active_of (Configuration template status) = None
active_of (Revision spec generation pins active status) = active
active_of (Route traffic status) = None
active_of (Health uid resources container ever) = None
active_of (Table route rows targets) = None

-- a Revision with the pins and the moment
abbrev pub with_pins : List (List ℕ) → Option ℕ → Body → Body
with_pins new moment (Service template traffic status) = Service template traffic status
with_pins new moment (Configuration template status) = Configuration template status
with_pins new moment (Revision spec generation pins active status) = Revision spec generation new moment status
with_pins new moment (Route traffic status) = Route traffic status
with_pins new moment (Health uid resources container ever) = Health uid resources container ever
with_pins new moment (Table route rows targets) = Table route rows targets

-- ---- Tables

-- the simple names of the Revisions of these targets
abbrev pub target_names : List Target → List (List ℕ)
target_names targets = map (λ (t : Target). t.revision) targets

-- whether it is a Table of the Route's uid
abbrev pub is_table_of : ℕ → Body → Bool
is_table_of uid (Service template traffic status) = false
is_table_of uid (Configuration template status) = false
is_table_of uid (Revision spec generation pins active status) = false
is_table_of uid (Route traffic status) = false
is_table_of uid (Health owner resources container ever) = false
is_table_of uid (Table route rows targets) = route == uid

-- the targets of a Table
abbrev pub published_targets : Body → List Target
published_targets (Service template traffic status) = []
published_targets (Configuration template status) = []
published_targets (Revision spec generation pins active status) = []
published_targets (Route traffic status) = []
published_targets (Health uid resources container ever) = []
published_targets (Table route rows targets) = targets

-- the simple names of the Revisions that a Table names: those of its rows and of its targets
abbrev pub published_of : Body → List (List ℕ)
published_of (Service template traffic status) = []
published_of (Configuration template status) = []
published_of (Revision spec generation pins active status) = []
published_of (Route traffic status) = []
published_of (Health uid resources container ever) = []
published_of (Table route rows targets) = map (λ (r : Row). r.revision) rows ++ target_names targets

-- the simple names of the Revisions that the Table of the name names
abbrev pub published_at : State → Name → List (List ℕ)
published_at st r = read [] published_of (standing kind.Table r st)

-- the simple names of the Revisions that the status of the Route of the name names
abbrev pub traffic_at : State → Name → List (List ℕ)
traffic_at st r = target_names (status_at kind.Route st r).traffic
