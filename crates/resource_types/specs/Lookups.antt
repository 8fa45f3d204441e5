-- The questions on the objects that stand.
use Rattle.std.specs.Prelude.{◌≡◌, ◌<◌, ◌&&◌, ◌||◌, ◌⊎◌, ◌==◌, ℕ, Bool, true, false, not, cond, List, [], ◌∷◌, Option, Some, None, nat_lt, bytes_eq, slice_get}
use Rattle.std.specs.List.{filter, list_any}
use Rattle.std.specs.declared.cmp.Ordering.TheVariants.{Less}
use Rattle.version_store.specs.State as store
use Rattle.resource_types.specs.declared.names.Kind.{Kind}
use Rattle.resource_types.specs.declared.names.Kind.TheVariants as kind
use Rattle.resource_types.specs.declared.names.Name.{Name}
use Rattle.resource_types.specs.declared.names.Key.{Key}
use Rattle.resource_types.specs.declared.metadata.Owner.{Owner}
use Rattle.resource_types.specs.declared.specification.Target.{Target}
use Rattle.resource_types.specs.declared.objects.Object.{Object}
use Rattle.resource_types.specs.contracts.names.NameOrd.TheImpl as name_order
use Rattle.resource_types.specs.contracts.names.KeyOrd.TheImpl as key_order
pub use Rattle.resource_types.specs.Journal.{Journal, State, state, state_at}
use Rattle.resource_types.specs.Objects.{same_kind, is_of, pins_of, generation_of, targets_of, has_been_ready}

-- ---- what stands

-- the object of the key
abbrev pub find : Key → State → Option Object
find key st = store.find (λ o. o.key) key_order.ghosts.cmp key st

-- the objects whose key is of the kind, in order of name
abbrev pub of_kind : Kind → State → State
of_kind kind st = store.of_kind (λ o. o.key) (λ k. k.kind) same_kind kind st

-- the objects in a namespace
abbrev pub in_space : List ℕ → State → State
in_space space objects = filter (λ o. bytes_eq o.key.name.space space) objects

-- the objects behind a key, in order of key
abbrev pub behind : Key → State → State
behind key st = store.behind (λ o. o.key) key_order.ghosts.cmp key st

-- a key of its parts
abbrev pub key_of : Kind → List ℕ → List ℕ → Key
key_of kind space name = record { kind = kind; name = record { space = space; name = name } }

-- an answer on what is there
abbrev pub given : {A B : Type 0} → Option A → (A → Option B) → Option B
given None answer = None
given (Some x) answer = answer x

-- whether something is there and passes the test
abbrev pub is_given : {A : Type 0} → (A → Bool) → Option A → Bool
is_given test None = false
is_given test (Some x) = test x

-- the answer, where the test holds
abbrev pub when : {A : Type 0} → Bool → A → Option A
when test x = cond test (Some x) None

-- whether nothing is in the list
abbrev pub is_empty : {A : Type 0} → List A → Bool
is_empty [] = true
is_empty (x ∷ xs) = false

-- the version of an object
abbrev pub version_of : Object → ℕ
version_of o = o.meta.stamp.version

-- ---- owners

-- whether the owner is the object, by kind, name and uid
abbrev pub is_owner : Object → Owner → Bool
is_owner o owner = (same_kind owner.kind o.key.kind && bytes_eq owner.name o.key.name.name) && (owner.uid == o.meta.stamp.uid)

-- whether it is a Revision that the object owns, in its namespace
abbrev pub is_owned_by : Object → Object → Bool
is_owned_by c r = (is_of kind.Revision r && bytes_eq r.key.name.space c.key.name.space) && is_given (is_owner c) r.meta.owner

-- whether an object of the owner's kind, name and uid stands in the namespace
abbrev pub owner_stands : State → List ℕ → Owner → Bool
owner_stands st space owner = is_given (λ o. is_of owner.kind o && (o.meta.stamp.uid == owner.uid)) (find (key_of owner.kind space owner.name) st)

-- ---- the Revisions of a Configuration

-- the owned Revision of the name that has the Configuration's generation
abbrev pub current : State → Object → List ℕ → Option ℕ
current st c name =
    given (find (key_of kind.Revision c.key.name.space name) st)
    (λ r. when (is_owned_by c r && (generation_of r.body == c.meta.stamp.generation)) (version_of r))

-- the owned Revision of the name that has the Configuration's generation, as an object
abbrev pub current_revision : State → Object → List ℕ → Option Object
current_revision st c name =
    given (find (key_of kind.Revision c.key.name.space name) st)
    (λ r. when (is_owned_by c r && (generation_of r.body == c.meta.stamp.generation)) r)

-- whether the object is of a greater generation than the best so far
abbrev pub is_newer : Option Object → Object → Bool
is_newer None r = true
is_newer (Some best) r = nat_lt (generation_of best.body) (generation_of r.body)

-- the best so far, or the object where it counts and is newer
abbrev pub later : Bool → Option Object → Object → Option Object
later counted best r = cond (counted && is_newer best r) (Some r) best

-- the best so far and the objects, in their order
abbrev pub latest_from : (Object → Bool) → Option Object → State → Option Object
latest_from counts best [] = best
latest_from counts best (r ∷ rs) = latest_from counts (later (counts r) best r) rs

-- of the Revisions that count, the one of greatest generation, and of equal ones the first by name
abbrev pub latest : (Object → Bool) → State → Option Object
latest counts st = latest_from counts None (of_kind kind.Revision st)

-- of the Revisions that the Configuration owns, the latest
abbrev pub latest_created : State → Object → Option Object
latest_created st c = latest (is_owned_by c) st

-- of the Revisions that the Configuration owns and that were ready once, the latest
abbrev pub latest_ready : State → Object → Option Object
latest_ready st c = latest (λ r. is_owned_by c r && has_been_ready r) st

-- the Revision r comes before o: it is of a greater generation, or of the same one and the first by name; or it is o
abbrev pub IsAhead : Object → Object → Type 0
IsAhead r o =
    (generation_of o.body < generation_of r.body)
    ⊎ (((generation_of o.body ≡ generation_of r.body) × (name_order.ghosts.cmp r.key.name o.key.name ≡ Less)) ⊎ (r ≡ o))

-- a Revision that stands and counts, and comes before all others that do
pub record IsNewest (counts : Object → Bool) (st : State) (r : Object) : Type 0 where
  pub stands : (place : ℕ) × (slice_get (of_kind kind.Revision st) place ≡ Some r)
  pub counted : counts r ≡ true
  pub ahead : (place : ℕ) (o : Object) → slice_get (of_kind kind.Revision st) place ≡ Some o → counts o ≡ true → IsAhead r o

-- an answer is the newest Revision that counts; there is none exactly where none counts
abbrev pub IsLatest : (Object → Bool) → State → Option Object → Type 0
IsLatest counts st None = (place : ℕ) (o : Object) → slice_get (of_kind kind.Revision st) place ≡ Some o → counts o ≡ false
IsLatest counts st (Some r) = IsNewest counts st r

-- ---- Revisions that are free, and in use

-- whether the target names the Revision of the simple name: a target on a Configuration names none
abbrev pub is_target_on : List ℕ → Target → Bool
is_target_on name t = not (is_empty t.revision) && bytes_eq t.revision name

-- whether the object is of the kind, in the Revision's namespace, and a target of it names the Revision
abbrev pub is_naming : Kind → Name → Object → Bool
is_naming kind name o = (is_of kind o && bytes_eq o.key.name.space name.space) && list_any (is_target_on name.name) (targets_of o.body)

-- whether a target of a Service or Route that stands names the Revision
abbrev pub is_target : State → Name → Bool
is_target st name = list_any (is_naming kind.Service name) (of_kind kind.Service st) || list_any (is_naming kind.Route name) (of_kind kind.Route st)

-- whether a Revision of the name stands without pins, and no target names it
abbrev pub is_free : State → Name → Bool
is_free st name = is_given (λ r. (is_of kind.Revision r && is_empty (pins_of r.body)) && not (is_target st name)) (find (key_of kind.Revision name.space name.name) st)

-- whether the object has the simple name
abbrev pub is_called : List ℕ → Option Object → Bool
is_called name o = is_given (λ o. bytes_eq o.key.name.name name) o

-- whether the Revision of the name is latest created or latest ready of the Configuration
abbrev pub is_latest : State → List ℕ → Object → Bool
is_latest st name c = is_called name (latest_created st c) || is_called name (latest_ready st c)

-- whether the owner is a Configuration that stands, of which the Revision of the name is a latest one
abbrev pub is_latest_of : State → Name → Owner → Bool
is_latest_of st name owner =
    is_given (λ c. (is_of kind.Configuration c && is_owner c owner) && is_latest st name.name c) (find (key_of kind.Configuration name.space owner.name) st)

-- whether a Revision of the name stands and is not free, or is a latest one of the Configuration that owns it
abbrev pub is_in_use : State → Name → Bool
is_in_use st name =
    is_given (λ r. is_of kind.Revision r && (not (is_free st name) || is_given (is_latest_of st name) r.meta.owner)) (find (key_of kind.Revision name.space name.name) st)
