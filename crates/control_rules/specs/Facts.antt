-- What is kept of a plane beside its lawful journal, and what follows of each lawful journal.
use Rattle.std.specs.Prelude.{◌≡◌, ◌≢◌, ℕ, ◌+◌, ◌<◌, ◌≤◌, Bool, true, List, length, Option, Some, None, is_some, slice_get}
use Rattle.version_store.specs.Index.{AreInOrder}
use Rattle.resource_types.specs.declared.names.Kind.TheVariants as kind
use Rattle.resource_types.specs.declared.names.Controller.TheVariants as controller
use Rattle.resource_types.specs.declared.names.Name.{Name}
use Rattle.resource_types.specs.declared.names.Key.{Key}
use Rattle.resource_types.specs.declared.names.SlotKey.{SlotKey}
use Rattle.resource_types.specs.declared.names.Actor.TheVariants.{Controller}
use Rattle.resource_types.specs.declared.conditions.CondName.TheVariants as condition
use Rattle.resource_types.specs.declared.conditions.Truth.TheVariants as truth
use Rattle.resource_types.specs.declared.metadata.Owner.{Owner}
use Rattle.resource_types.specs.declared.objects.Object.{Object}
use Rattle.resource_types.specs.declared.manifests.Manifest.{Manifest}
use Rattle.resource_types.specs.contracts.names.SlotKeyOrd.TheImpl as slot_order
use Rattle.resource_types.specs.Objects.{is_of_client, has_been_ready, has_condition, generation_of, no_status, status_of}
use Rattle.resource_types.specs.Lookups.{Journal, find, latest_created, latest_ready}
use Rattle.serve_names.specs.Moments.{last_moment}
use Rattle.control_rules.specs.Standing.{beside, listed, standing, pins_at}
use Rattle.control_rules.specs.Statuses.{reported_of, reported_in, ever_of}
use Rattle.control_rules.specs.Slots.{ObjectEntry, state_at, slot_key, Look, look_of, Plane}
use Rattle.control_rules.specs.Steps.{says_ready, plan_of}
use Rattle.control_rules.specs.Lawful.{moment_at, asked_of, IsAlone, IsLawful}
use Rattle.control_rules.specs.Safe.{WasReported, IsSafe, RemovesUnused}
use Rattle.control_rules.specs.Times.{HasTransitionTimes}

-- ---- what a plane keeps

-- what a slot holds looks back at the journal, which wasn't empty: no entry since is its own, and its moment lies between those of the entries round it
pub record LooksBack (w : Plane) (l : Look) : Type 0 where
  pub some : 1 ≤ l.seen
  pub before : l.seen ≤ length w.journal
  pub from : moment_at w.journal l.seen ≤ l.read_at
  pub upto : l.seen < length w.journal → l.read_at ≤ moment_at w.journal (l.seen + 1)
  pub past : l.read_at ≤ w.now
  pub alone : IsAlone w.journal l.seen (length w.journal) l.key
  pub planned : l.planned ≡ true → is_some (plan_of w l) ≡ true

-- The journal is lawful, its moments are no later than the present one, which a clock can show, and the slots look back, in order of key.
-- All other facts below follow of these.
pub record IsKept (is_good : Manifest → Bool) (w : Plane) : Type 0 where
  pub lawful : IsLawful is_good w.settings w.journal
  pub past : moment_at w.journal (length w.journal) ≤ w.now
  pub clock : w.now ≤ last_moment
  pub ordered : AreInOrder (λ (l : Look). l.key) slot_order.ghosts.cmp w.slots
  pub slots : (key : SlotKey) (l : Look) → look_of key w.slots ≡ Some l → LooksBack w l

-- ---- what holds at each position of a lawful journal

-- objects with one uid have one key; they were made by one entry
abbrev pub HaveDistinctUids : Journal → Type 0
HaveDistinctUids j = (m n : ℕ) (a b : Key) (o p : Object) → m ≤ length j → n ≤ length j → find a (state_at j m) ≡ Some o → find b (state_at j n) ≡ Some p → o.meta.stamp.uid ≡ p.meta.stamp.uid
    → (a ≡ b) × (o.meta.stamp.created ≡ p.meta.stamp.created)

-- what a client could have written is good
abbrev pub AreGood : (Manifest → Bool) → Journal → ℕ → Type 0
AreGood is_good j n = (key : Key) (o : Object) → find key (state_at j n) ≡ Some o → is_of_client o ≡ true → is_good (asked_of o) ≡ true

-- Reports stand behind readiness. A Health with `ever` has its uid reported, and one with both parts True has `ever`. A Revision whose status has
-- `HasBeenReady` True has a Health of its uid with `ever`, and one whose status has `Ready` True has `HasBeenReady` True.
pub record IsWellReported (j : Journal) (n : ℕ) : Type 0 where
  pub ever : (v : Name) (uid : ℕ) → ever_of (reported_in uid (standing kind.Health v (state_at j n))) ≡ true → WasReported j n uid
  pub both : (v : Name) (uid : ℕ) → says_ready (reported_in uid (standing kind.Health v (state_at j n))) ≡ true → ever_of (reported_in uid (standing kind.Health v (state_at j n))) ≡ true
  pub been : (v : Name) (o : Object) → standing kind.Revision v (state_at j n) ≡ Some o → has_been_ready o ≡ true → ever_of (reported_of (state_at j n) o) ≡ true
  pub ready : (v : Name) (o : Object) → standing kind.Revision v (state_at j n) ≡ Some o → has_condition condition.Ready truth.True o ≡ true → has_been_ready o ≡ true

-- the generation of a Revision, or 0
abbrev pub generation_if : Option Object → ℕ
generation_if None = 0
generation_if (Some o) = generation_of o.body

-- two Revisions of one owner differ in generation
abbrev pub HaveDistinctGenerations : Journal → ℕ → Type 0
HaveDistinctGenerations j n = (v w : Name) (o p : Object) (x y : Owner) → standing kind.Revision v (state_at j n) ≡ Some o → standing kind.Revision w (state_at j n) ≡ Some p
    → o.meta.owner ≡ Some x → p.meta.owner ≡ Some y → x.uid ≡ y.uid → generation_of o.body ≡ generation_of p.body → v ≡ w

-- while a Configuration of one uid stands, the generations of its latest created and of its latest ready Revision don't fall
pub record LatestDoesNotFall (j : Journal) : Type 0 where
  pub created : (m n : ℕ) (k : Name) (c d : Object) → m ≤ n → n ≤ length j → standing kind.Configuration k (state_at j m) ≡ Some c → standing kind.Configuration k (state_at j n) ≡ Some d
      → c.meta.stamp.uid ≡ d.meta.stamp.uid → generation_if (latest_created (state_at j m) c) ≤ generation_if (latest_created (state_at j n) d)
  pub ready : (m n : ℕ) (k : Name) (c d : Object) → m ≤ n → n ≤ length j → standing kind.Configuration k (state_at j m) ≡ Some c → standing kind.Configuration k (state_at j n) ≡ Some d
      → c.meta.stamp.uid ≡ d.meta.stamp.uid → generation_if (latest_ready (state_at j m) c) ≤ generation_if (latest_ready (state_at j n) d)

-- the entry isn't by the Route controller on the name
abbrev pub IsOthers : Name → ObjectEntry → Type 0
IsOthers r e = e.actor ≢ Controller (slot_key controller.Route r)

-- Pins are the Route's own: an entry of another neither adds nor removes one, and so removes no Revision that has one. Tables are the Route's own, and
-- so is the status of a Route that stands before and after; one that an entry of another makes has none.
pub record AreOwn (j : Journal) (n : ℕ) (e : ObjectEntry) (r : Name) : Type 0 where
  pub pins : IsOthers r e → (x : List ℕ) → listed r.name (pins_at (state_at j (n + 1)) (beside r x)) ≡ listed r.name (pins_at (state_at j n) (beside r x))
  pub table : IsOthers r e → standing kind.Table r (state_at j (n + 1)) ≡ standing kind.Table r (state_at j n)
  pub status : IsOthers r e → (o p : Object) → standing kind.Route r (state_at j n) ≡ Some o → standing kind.Route r (state_at j (n + 1)) ≡ Some p → status_of p.body ≡ status_of o.body
  pub made : IsOthers r e → (p : Object) → standing kind.Route r (state_at j n) ≡ None → standing kind.Route r (state_at j (n + 1)) ≡ Some p → status_of p.body ≡ no_status

-- the facts of a plane: the first follow of the lawful journal, and the slots look back
pub record PlaneFacts (is_good : Manifest → Bool) (w : Plane) : Type 0 where
  pub kept : IsKept is_good w
  pub good : (n : ℕ) → n ≤ length w.journal → AreGood is_good w.journal n
  pub uids : HaveDistinctUids w.journal
  pub reported : (n : ℕ) → n ≤ length w.journal → IsWellReported w.journal n
  pub generations : (n : ℕ) → n ≤ length w.journal → HaveDistinctGenerations w.journal n
  pub latest : LatestDoesNotFall w.journal
  pub own : (n : ℕ) (e : ObjectEntry) (r : Name) → slice_get w.journal n ≡ Some e → AreOwn w.journal n e r
  pub safe : (n : ℕ) → n ≤ length w.journal → IsSafe w.journal n
  pub removes : (n : ℕ) → RemovesUnused w.journal n
  pub times : (n : ℕ) → n ≤ length w.journal → HasTransitionTimes w.journal n
