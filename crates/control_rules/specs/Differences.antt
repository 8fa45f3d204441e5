-- The differences of a controller, and the plans that they lead to.
use Rattle.std.specs.Prelude.{ℕ, Bool, true, false, not, List, [], ◌∷◌, map, codes, Option, Some, None, cond}
use Rattle.version_store.specs.declared.write.Expect.TheVariants as expect
use Rattle.version_store.specs.declared.write.Change.TheVariants.{Put, Remove}
use Rattle.json_tree.specs.declared.members.Table.{Table}
use Rattle.json_tree.specs.Equal.{is_equal}
use Rattle.resource_types.specs.declared.names.Kind.{Kind}
use Rattle.resource_types.specs.declared.names.Key.{Key}
use Rattle.resource_types.specs.declared.metadata.Owner.{Owner}
use Rattle.resource_types.specs.declared.conditions.Condition.{Condition}
use Rattle.resource_types.specs.declared.status.ObjectStatus.{ObjectStatus}
use Rattle.resource_types.specs.declared.objects.Body.{Body}
use Rattle.resource_types.specs.declared.objects.Object.{Object}
use Rattle.resource_types.specs.contracts.status.ObjectStatus as status_row
pub use Rattle.resource_types.specs.Journal.{Plan as ObjectPlan}
use Rattle.resource_types.specs.Objects.{status_of}
use Rattle.resource_types.specs.Spec.{no_stamp}
use Rattle.conditions.specs.Times.{settled}
use Rattle.control_rules.specs.Standing.{with_status}

-- ---- differences

-- the first of two that is there
unfoldable pub first_plan : Option ObjectPlan → Option ObjectPlan → Option ObjectPlan
first_plan None other = other
first_plan (Some plan) other = Some plan

-- a plan, where the test holds
unfoldable pub when : Bool → ObjectPlan → Option ObjectPlan
when test plan = cond test (Some plan) None

-- a plan for what is there
unfoldable pub given : {A : Type 0} → Option A → (A → Option ObjectPlan) → Option ObjectPlan
given None plan = None
given (Some a) plan = plan a

-- a plan, where nothing is there
unfoldable pub missing : {A : Type 0} → Option A → ObjectPlan → Option ObjectPlan
missing None plan = Some plan
missing (Some a) plan = None

-- ---- plans

-- an object of the key that is made
abbrev pub new_object : Key → Option Owner → Table (List ℕ) → Table (List ℕ) → Body → Object
new_object key owner labels annotations body =
    record { key = key; meta = record { stamp = no_stamp; owner = owner; labels = labels; annotations = annotations }; body = body }

-- the object of the kind as an owner
abbrev pub owner_by : Kind → Object → Owner
owner_by kind o = record { kind = kind; name = o.key.name.name; uid = o.meta.stamp.uid }

-- the object is made where none stands under its key
abbrev pub creation : Object → ObjectPlan
creation o = record { key = o.key; expect = expect.Absent; guarded = false; change = Put o }

-- the object with another body
abbrev pub rebodied : Object → Body → Object
rebodied o body = record { key = o.key; meta = o.meta; body = body }

-- the object that stands gets the body, and keeps all else
abbrev pub replacement : Object → Body → ObjectPlan
replacement o body = record { key = o.key; expect = expect.At o.meta.stamp.version; guarded = false; change = Put (rebodied o body) }

-- the object that stands is removed
abbrev pub removal : Object → ObjectPlan
removal o = record { key = o.key; expect = expect.At o.meta.stamp.version; guarded = false; change = Remove }

-- the object that stands is removed, unless a guard has changed since
abbrev pub guarded_removal : Object → ObjectPlan
guarded_removal o = record { key = o.key; expect = expect.At o.meta.stamp.version; guarded = true; change = Remove }

-- ---- labels

-- the label that names a Service
abbrev pub service_label : List ℕ
service_label = codes "serving.knative.dev/service"

-- no labels
abbrev pub no_labels : Table (List ℕ)
no_labels = record { entries = [] }

-- one label
abbrev pub one_label : List ℕ → List ℕ → Table (List ℕ)
one_label name value = record { entries = (name, value) ∷ [] }

-- ---- statuses

-- the condition without its time
abbrev pub timeless : Condition → Condition
timeless c = record { name = c.name; truth = c.truth; reason = c.reason; message = c.message; info = c.info; since = 0 }

-- the status with these conditions
abbrev pub with_conditions : List Condition → ObjectStatus → ObjectStatus
with_conditions conditions s = record { observed = s.observed; created = s.created; ready = s.ready; url = s.url; traffic = s.traffic; conditions = conditions }

-- the status without its times
abbrev pub untimed : ObjectStatus → ObjectStatus
untimed s = with_conditions (map timeless s.conditions) s

-- whether two statuses are equal apart from times
unfoldable pub same_untimed : ObjectStatus → ObjectStatus → Bool
same_untimed old new = is_equal status_row.the_row.coded (untimed old) (untimed new)

-- the new status with its times, which move where truths do
abbrev pub timed : ObjectStatus → ObjectStatus → ℕ → ObjectStatus
timed old new now = with_conditions (settled old.conditions new.conditions now) new

-- the body of the object with the new status and its times
abbrev pub restated : Object → ObjectStatus → ℕ → Body
restated o new now = with_status (timed (status_of o.body) new now) o.body

-- the object that stands gets the status, where it has another apart from times
abbrev pub status_change : Object → ObjectStatus → ℕ → Option ObjectPlan
status_change o new now = when (not (same_untimed (status_of o.body) new)) (replacement o (restated o new now))
