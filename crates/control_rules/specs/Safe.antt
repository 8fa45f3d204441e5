-- What holds of the Tables and the statuses at every position, and of what a removal removes.
use Rattle.std.specs.Prelude.{◌≡◌, ◌≢◌, ℕ, ◌<◌, Bool, true, false, List, [], map, filter, Some, None, slice_get}
use Rattle.std.specs.List.{sum_by}
use Rattle.resource_types.specs.declared.names.Kind.TheVariants as kind
use Rattle.resource_types.specs.declared.names.Name.{Name}
use Rattle.resource_types.specs.declared.names.Actor.TheVariants.{Reporter}
use Rattle.resource_types.specs.declared.conditions.Part.{Part}
use Rattle.resource_types.specs.declared.specification.Row.{Row}
use Rattle.resource_types.specs.declared.specification.Target.{Target}
use Rattle.resource_types.specs.declared.objects.Body.{Body}
use Rattle.resource_types.specs.declared.objects.Body.TheVariants.{Service, Configuration, Revision, Route, Health, Table}
use Rattle.resource_types.specs.declared.objects.Object.{Object}
use Rattle.resource_types.specs.Lookups.{Journal, State, is_empty, is_target, is_latest}
use Rattle.control_rules.specs.Standing.{beside, listed, standing, pins_at, published_at, traffic_at, published_targets}
use Rattle.control_rules.specs.Slots.{ObjectEntry, state_at}
use Rattle.control_rules.specs.Steps.{are_true}

-- among the first n entries a report said of the uid that both parts are in order
pub record WasReported (j : Journal) (n uid : ℕ) : Type 0 where
  pub place : ℕ
  pub entry : ObjectEntry
  pub object : Object
  pub resources : Part
  pub container : Part
  pub ever : Bool
  pub before : place < n
  pub is : slice_get j place ≡ Some entry
  pub by : entry.actor ≡ Reporter
  pub puts : entry.object ≡ Some object
  pub body : object.body ≡ Health uid resources container ever
  pub ready : are_true resources container ≡ true

-- the rows of a Table
abbrev pub rows_of : Body → List Row
rows_of (Service template traffic status) = []
rows_of (Configuration template status) = []
rows_of (Revision spec generation pins active status) = []
rows_of (Route traffic status) = []
rows_of (Health uid resources container ever) = []
rows_of (Table route rows targets) = rows

-- the rows without tag sum to 100, and each tag has exactly one row, of 100
pub record IsDivided (rows : List Row) (targets : List Target) : Type 0 where
  pub whole : sum_by (λ (row : Row). row.percent) (filter (λ (row : Row). is_empty row.tag) rows) ≡ 100
  pub hundred : (i : ℕ) (row : Row) → slice_get rows i ≡ Some row → row.tag ≢ [] → row.percent ≡ 100
  pub once : (a b : ℕ) (x y : Row) → slice_get rows a ≡ Some x → slice_get rows b ≡ Some y → x.tag ≢ [] → x.tag ≡ y.tag → a ≡ b
  pub each : (i : ℕ) (t : Target) → slice_get targets i ≡ Some t → t.tag ≢ [] → listed t.tag (map (λ (row : Row). row.tag) rows) ≡ true

-- At a position: each Table is divided. What a Table names stands with the Table's pin, has the uid of the row, and was reported ready. What the
-- status of a Route names stands with the Route's pin. (What has a pin stands.)
pub record IsSafe (j : Journal) (n : ℕ) : Type 0 where
  pub divided : (r : Name) (t : Object) → standing kind.Table r (state_at j n) ≡ Some t → IsDivided (rows_of t.body) (published_targets t.body)
  pub published : (r : Name) (x : List ℕ) → listed x (published_at (state_at j n) r) ≡ true → listed r.name (pins_at (state_at j n) (beside r x)) ≡ true
  pub same : (r : Name) (t : Object) (i : ℕ) (row : Row) (v : Object) → standing kind.Table r (state_at j n) ≡ Some t → slice_get (rows_of t.body) i ≡ Some row
      → standing kind.Revision (beside r row.revision) (state_at j n) ≡ Some v → row.uid ≡ v.meta.stamp.uid
  pub reported : (r : Name) (x : List ℕ) (v : Object) → listed x (published_at (state_at j n) r) ≡ true
      → standing kind.Revision (beside r x) (state_at j n) ≡ Some v → WasReported j n v.meta.stamp.uid
  pub served : (r : Name) (x : List ℕ) → listed x (traffic_at (state_at j n) r) ≡ true → listed r.name (pins_at (state_at j n) (beside r x)) ≡ true

-- no Table, no Route's status and no stored target names the Revision, and it is neither the latest created nor the latest ready one of a Configuration
pub record IsUnused (st : State) (v : Name) : Type 0 where
  pub published : (r : List ℕ) → listed v.name (published_at st (beside v r)) ≡ false
  pub served : (r : List ℕ) → listed v.name (traffic_at st (beside v r)) ≡ false
  pub targeted : is_target st v ≡ false
  pub past : (n : List ℕ) (c : Object) → standing kind.Configuration (beside v n) st ≡ Some c → is_latest st v.name c ≡ false

-- where the entry behind the first n removes a Revision, it was unused
abbrev pub RemovesUnused : Journal → ℕ → Type 0
RemovesUnused j n = (e : ObjectEntry) → slice_get j n ≡ Some e → e.key.kind ≡ kind.Revision → e.object ≡ None → IsUnused (state_at j n) e.key.name
