-- What else holds of each lawful journal, and carries the proofs of the facts of a plane.
use Rattle.std.specs.Prelude.{◌≡◌, ℕ, ◌+◌, ◌<◌, ◌≤◌, true, length, Some, slice_get}
use Rattle.resource_types.specs.declared.names.Kind.TheVariants as kind
use Rattle.resource_types.specs.declared.names.Name.{Name}
use Rattle.resource_types.specs.declared.names.Key.{Key}
use Rattle.resource_types.specs.declared.names.SlotKey.{SlotKey}
use Rattle.resource_types.specs.declared.names.Actor.TheVariants.{Reporter, Controller}
use Rattle.resource_types.specs.declared.metadata.Owner.{Owner}
use Rattle.resource_types.specs.declared.conditions.Condition.{Condition}
use Rattle.resource_types.specs.declared.objects.Object.{Object}
use Rattle.resource_types.specs.Objects.{generation_of, kind_of_body, status_of}
use Rattle.resource_types.specs.Spec.{same_spec}
use Rattle.resource_types.specs.Lookups.{Journal, find}
use Rattle.control_rules.specs.Standing.{standing}
use Rattle.control_rules.specs.Readings.{revision_name}
use Rattle.control_rules.specs.Fits.{RouteFits, CollectorFits}
use Rattle.control_rules.specs.Slots.{ObjectEntry, state_at}
use Rattle.control_rules.specs.Lawful.{moment_at}

-- ---- the objects that stand

-- an object has its key, and its body is of the key's kind; its version and its uid are positions up to here; its conditions differ in name
pub record IsSound (n : ℕ) (k : Key) (o : Object) : Type 0 where
  pub key : o.key ≡ k
  pub fits : kind_of_body o.body ≡ k.kind
  pub version : o.meta.stamp.version ≤ n
  pub uid : o.meta.stamp.uid ≤ o.meta.stamp.version
  pub once : (a b : ℕ) (c d : Condition) → slice_get (status_of o.body).conditions a ≡ Some c → slice_get (status_of o.body).conditions b ≡ Some d → c.name ≡ d.name → a ≡ b

-- the object stood at m: with its uid, no greater a generation, and the same spec where the generation is the same
pub record Stood (j : Journal) (m : ℕ) (key : Key) (o : Object) : Type 0 where
  pub then : Object
  pub stands : find key (state_at j m) ≡ Some then
  pub uid : then.meta.stamp.uid ≡ o.meta.stamp.uid
  pub generation : then.meta.stamp.generation ≤ o.meta.stamp.generation
  pub spec : then.meta.stamp.generation ≡ o.meta.stamp.generation → same_spec then o ≡ true

-- an owner of a Configuration or a Route is a Service of its name
abbrev pub IsServed : Object → Type 0
IsServed o = (w : Owner) → o.meta.owner ≡ Some w → (w.kind ≡ kind.Service) × (w.name ≡ o.key.name.name)

-- a Revision was made by a Configuration that stood at an earlier position, under the name that was due, for its generation
pub record WasMade (j : Journal) (n : ℕ) (v : Object) : Type 0 where
  pub place : ℕ
  pub name : Name
  pub maker : Object
  pub before : place < n
  pub stands : standing kind.Configuration name (state_at j place) ≡ Some maker
  pub owner : v.meta.owner ≡ Some (record { kind = kind.Configuration; name = name.name; uid = maker.meta.stamp.uid })
  pub generation : generation_of v.body ≡ maker.meta.stamp.generation
  pub named : v.key.name ≡ revision_name maker

-- ---- the entries

-- what a controller writes was, when it looked, the object that stands when it writes
abbrev pub IsAsLooked : Journal → ℕ → ObjectEntry → Type 0
IsAsLooked j n e = (key : SlotKey) → e.actor ≡ Controller key → find e.key (state_at j n) ≡ find e.key (state_at j e.seen)

-- a Health is written by a reporter alone
abbrev pub IsHealthReported : ObjectEntry → Type 0
IsHealthReported e = e.key.kind ≡ kind.Health → e.actor ≡ Reporter

-- a Revision that stands before and after an entry keeps its owner and its generation
abbrev pub KeepsRevision : Journal → ℕ → Type 0
KeepsRevision j n = (v : Name) (o p : Object) → standing kind.Revision v (state_at j n) ≡ Some o → standing kind.Revision v (state_at j (n + 1)) ≡ Some p
    → (p.meta.owner ≡ o.meta.owner) × (generation_of p.body ≡ generation_of o.body)

-- ---- all of it, at each position of a lawful journal

pub record FurtherFacts (j : Journal) : Type 0 where
  pub sound : (n : ℕ) (key : Key) (o : Object) → n ≤ length j → find key (state_at j n) ≡ Some o → IsSound n key o
  pub stood : (m n : ℕ) (key : Key) (o : Object) → n ≤ length j → find key (state_at j n) ≡ Some o → o.meta.stamp.uid ≤ m → m ≤ n → Stood j m key o
  pub serve : (n : ℕ) (name : Name) (o : Object) → n ≤ length j → standing kind.Configuration name (state_at j n) ≡ Some o → IsServed o
  pub serve_route : (n : ℕ) (name : Name) (o : Object) → n ≤ length j → standing kind.Route name (state_at j n) ≡ Some o → IsServed o
  pub made : (n : ℕ) (name : Name) (v : Object) → n ≤ length j → standing kind.Revision name (state_at j n) ≡ Some v → WasMade j n v
  pub looked : (n : ℕ) (e : ObjectEntry) → slice_get j n ≡ Some e → IsAsLooked j n e
  pub keeps : (n : ℕ) → n < length j → KeepsRevision j n
  pub health : (n : ℕ) (e : ObjectEntry) → slice_get j n ≡ Some e → IsHealthReported e
  pub route_fits : (n : ℕ) → n ≤ length j → RouteFits (state_at j n)
  pub collector_fits : (n : ℕ) → n ≤ length j → CollectorFits (state_at j n) (moment_at j n)
