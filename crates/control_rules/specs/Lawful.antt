-- Which journals may come about.
use Rattle.std.specs.Prelude.{◌≡◌, ◌≢◌, ◌⊎◌, ℕ, ◌+◌, ◌<◌, ◌≤◌, Bool, true, false, Option, Some, None, is_some, option_map, slice_get}
use Rattle.version_store.specs.declared.item.Stamp.{Stamp}
use Rattle.version_store.specs.Journal.{entry_at_version, changes_guard}
use Rattle.version_store.specs.Apply.{IsMakeable, object_after}
use Rattle.version_store.specs.declared.write.Change.{Change}
use Rattle.version_store.specs.declared.write.Change.TheVariants.{Put, Remove}
use Rattle.resource_types.specs.declared.names.Kind.TheVariants as kind
use Rattle.resource_types.specs.declared.names.Key.{Key}
use Rattle.resource_types.specs.declared.names.SlotKey.{SlotKey}
use Rattle.resource_types.specs.declared.names.Actor.{Actor}
use Rattle.resource_types.specs.declared.names.Actor.TheVariants.{Client, Reporter, Controller}
use Rattle.resource_types.specs.declared.conditions.Part.{Part}
use Rattle.resource_types.specs.declared.objects.Object.{Object}
use Rattle.resource_types.specs.declared.manifests.Manifest.{Manifest}
use Rattle.resource_types.specs.contracts.item.ObjectItem.TheImpl as object_item
use Rattle.resource_types.specs.Objects.{is_of_client, status_of}
pub use Rattle.resource_types.specs.Objects.{owner_of, status_over}
use Rattle.resource_types.specs.Spec.{stamped, same_but_stamp}
use Rattle.resource_types.specs.Manifests.{client_kind}
pub use Rattle.resource_types.specs.Manifests.{asked_of}
use Rattle.resource_types.specs.Lookups.{Journal, State, find, is_in_use, version_of}
use Rattle.control_rules.specs.declared.settings.Settings.{Settings}
use Rattle.control_rules.specs.Standing.{key_at, standing}
use Rattle.control_rules.specs.Differences.{ObjectPlan}
use Rattle.control_rules.specs.Next.{next_write}
use Rattle.control_rules.specs.Slots.{ObjectEntry, state_at, AreStamped, is_key}
use Rattle.control_rules.specs.Steps.{health_of}

-- ---- moments

-- the moment of an entry, or 0
abbrev pub moment_of : Option ObjectEntry → ℕ
moment_of None = 0
moment_of (Some e) = e.moment

-- the moment of the entry of a version; 0 before the first
abbrev pub moment_at : Journal → ℕ → ℕ
moment_at j version = moment_of (entry_at_version j version)

-- ---- what clients and reporters write

-- who wrote saw all entries before, at the moment of the entry
pub record IsPresent (n : ℕ) (e : ObjectEntry) : Type 0 where
  pub seen : e.seen ≡ n
  pub read_at : e.read_at ≡ e.moment

-- a client puts an object with the owner and the status of the one that stands; where none stands, with none
pub record PutsObject (is_good : Manifest → Bool) (st : State) (e : ObjectEntry) : Type 0 where
  pub object : Object
  pub puts : e.object ≡ Some object
  pub client : is_of_client object ≡ true
  pub good : is_good (asked_of object) ≡ true
  pub owner : object.meta.owner ≡ owner_of (find e.key st)
  pub status : status_of object.body ≡ status_over (find e.key st)

-- a client removes an object that stands, of a kind that clients write
pub record RemovesObject (st : State) (e : ObjectEntry) : Type 0 where
  pub object : Object
  pub removes : e.object ≡ None
  pub stands : find e.key st ≡ Some object
  pub client : is_of_client object ≡ true

-- a client removes a Revision that stands and isn't in use
pub record RemovesRevision (st : State) (e : ObjectEntry) : Type 0 where
  pub object : Object
  pub removes : e.object ≡ None
  pub key : e.key ≡ key_at kind.Revision e.key.name
  pub stands : standing kind.Revision e.key.name st ≡ Some object
  pub unused : is_in_use st e.key.name ≡ false

-- a reporter puts the Health of a Revision that stands
pub record Reports (st : State) (e : ObjectEntry) : Type 0 where
  pub revision : Object
  pub resources : Part
  pub container : Part
  pub stamp : Stamp
  pub key : e.key ≡ key_at kind.Health e.key.name
  pub stands : standing kind.Revision e.key.name st ≡ Some revision
  pub puts : e.object ≡ Some (stamped (health_of e.key.name revision.meta.stamp.uid resources container (find e.key st)) stamp)

-- ---- what a client may write

-- a put of a good object, with the owner and the status of the one that stands; where none stands, with none
pub record MayPut (is_good : Manifest → Bool) (st : State) (k : Key) (o : Object) : Type 0 where
  pub key : o.key ≡ k
  pub client : is_of_client o ≡ true
  pub good : is_good (asked_of o) ≡ true
  pub owner : o.meta.owner ≡ owner_of (find k st)
  pub status : status_of o.body ≡ status_over (find k st)

-- a kind that clients write, or a Revision that isn't in use
abbrev pub MayRemove : State → Key → Type 0
MayRemove st key = (is_some (client_kind key.kind) ≡ true) ⊎ ((key.kind ≡ kind.Revision) × (is_in_use st key.name ≡ false))

abbrev pub MayChange : (Manifest → Bool) → State → Key → Change Object → Type 0
MayChange is_good st key (Put o) = MayPut is_good st key o
MayChange is_good st key Remove = MayRemove st key

-- a plan that a client may have written
pub record MayWrite (is_good : Manifest → Bool) (st : State) (plan : ObjectPlan) : Type 0 where
  pub makeable : IsMakeable (λ (o : Object). o.key) plan
  pub change : MayChange is_good st plan.key plan.change

-- ---- what a controller writes

-- none of the entries from `seen` on and before n has the key as its actor
abbrev pub IsAlone : Journal → ℕ → ℕ → SlotKey → Type 0
IsAlone j seen n key = (i : ℕ) (f : ObjectEntry) → seen ≤ i → i < n → slice_get j i ≡ Some f → f.actor ≢ Controller key

-- none of these entries makes a Service or a Route, or changes its spec
abbrev pub IsUnguarded : Journal → ℕ → ℕ → Type 0
IsUnguarded j seen n = (i : ℕ) (f : ObjectEntry) → seen ≤ i → i < n → slice_get j i ≡ Some f → changes_guard object_item.ghosts (find f.key (state_at j i)) f.object ≡ false

-- the version of what stands, if anything does
abbrev pub version_if : Option Object → Option ℕ
version_if o = option_map version_of o

-- The entry behind the first n is what the controller was to write in the state that it saw, at the moment at which it looked. What it writes is
-- as it was when it looked, and so are the targets, where that counts.
pub record Controls (settings : Settings) (j : Journal) (n : ℕ) (e : ObjectEntry) (by : SlotKey) : Type 0 where
  pub plan : ObjectPlan
  pub before : e.seen ≤ n
  pub from : moment_at j e.seen ≤ e.read_at
  pub upto : e.read_at ≤ moment_at j (e.seen + 1)
  pub named : is_key by (state_at j n) ≡ true
  pub planned : next_write settings by (state_at j e.seen) e.read_at ≡ Some plan
  pub key : e.key ≡ plan.key
  pub object : e.object ≡ object_after object_item.ghosts (find plan.key (state_at j n)) (n + 1) plan.change e.moment
  pub looked : version_if (find e.key (state_at j n)) ≡ version_if (find e.key (state_at j e.seen))
  pub alone : IsAlone j e.seen n by
  pub guard : plan.guarded ≡ true → IsUnguarded j e.seen n

-- ---- what is a change

-- where the first stands, the second is a change: an object that isn't the same apart from its stamp, or a removal of what stands
abbrev pub IsChange : Option Object → Option Object → Type 0
IsChange None None = ⊥
IsChange None (Some object) = Unit {0}
IsChange (Some stands) None = Unit {0}
IsChange (Some stands) (Some object) = same_but_stamp object stands ≡ false

-- ---- lawful journals

-- The manifests that are good are those that are valid, with defaults, and regular: the layers that know these rules say which.
module _ (is_good : Manifest → Bool) (settings : Settings) where
  -- an entry behind the first n is lawful, by its actor
  abbrev pub IsLawfulAs : Actor → Journal → ℕ → ObjectEntry → Type 0
  IsLawfulAs Client j n e = IsPresent n e × (PutsObject is_good (state_at j n) e ⊎ (RemovesObject (state_at j n) e ⊎ RemovesRevision (state_at j n) e))
  IsLawfulAs Reporter j n e = IsPresent n e × Reports (state_at j n) e
  IsLawfulAs (Controller key) j n e = Controls settings j n e key

  -- moments don't fall, each entry has its stamp, each changes what stood under its key, and each is lawful
  pub record IsLawful (j : Journal) : Type 0 where
    pub moments : (i : ℕ) (e f : ObjectEntry) → slice_get j i ≡ Some e → slice_get j (i + 1) ≡ Some f → e.moment ≤ f.moment
    pub stamps : AreStamped j
    pub changes : (n : ℕ) (e : ObjectEntry) → slice_get j n ≡ Some e → IsChange (find e.key (state_at j n)) e.object
    pub entries : (n : ℕ) (e : ObjectEntry) → slice_get j n ≡ Some e → IsLawfulAs e.actor j n e
