-- What the proof that settles end stands on: facts of each state that comes about, and that a round keeps them.
use Rattle.std.specs.Prelude.{◌≡◌, ℕ, suc, ◌+◌, ◌≤◌, true, length, Some, None}
use Rattle.version_store.specs.Apply.{object_after}
use Rattle.version_store.specs.State as store
use Rattle.resource_types.specs.declared.names.Kind.TheVariants as kind
use Rattle.resource_types.specs.declared.names.Name.{Name}
use Rattle.resource_types.specs.declared.names.Key.{Key}
use Rattle.resource_types.specs.declared.names.SlotKey.{SlotKey}
use Rattle.resource_types.specs.declared.objects.Object.{Object}
use Rattle.resource_types.specs.contracts.names.KeyOrd.TheImpl as key_order
use Rattle.resource_types.specs.contracts.item.ObjectItem.TheImpl as object_item
use Rattle.resource_types.specs.Objects.{generation_of, kind_of_body, targets_of}
use Rattle.resource_types.specs.Lookups.{Journal, State, state, find, is_owned_by}
use Rattle.control_rules.specs.declared.settings.Settings.{Settings}
use Rattle.control_rules.specs.Standing.{standing}
use Rattle.control_rules.specs.Statuses.{reported_in}
use Rattle.control_rules.specs.FurtherFacts.{IsServed}
use Rattle.control_rules.specs.Differences.{ObjectPlan}
use Rattle.control_rules.specs.Next.{next_write}
use Rattle.control_rules.specs.Rounds.{round_at, KnowsKeys}

-- what holds of the state after n entries
pub record IsSoundState (n : ℕ) (st : State) : Type 0 where
  pub key : (k : Key) (o : Object) → find k st ≡ Some o → (o.key ≡ k) × (kind_of_body o.body ≡ k.kind)
  -- owners of Configurations and Routes are Services of their names
  pub serve : (n : Name) (o : Object) → standing kind.Configuration n st ≡ Some o → IsServed o
  pub serve_route : (n : Name) (o : Object) → standing kind.Route n st ≡ Some o → IsServed o
  -- no Revision is of a later generation than its Configuration, and two of one Configuration differ in generation
  pub tops : (n : Name) (c : Object) (m : Name) (v : Object) → standing kind.Configuration n st ≡ Some c → standing kind.Revision m st ≡ Some v → is_owned_by c v ≡ true → generation_of v.body ≤ c.meta.stamp.generation
  pub distinct : (c : Object) (l m : Name) (v w : Object) → standing kind.Revision l st ≡ Some v → standing kind.Revision m st ≡ Some w → is_owned_by c v ≡ true → is_owned_by c w ≡ true → generation_of v.body ≡ generation_of w.body → l ≡ m
  -- no Health is of a uid to come
  pub past : (m : Name) → reported_in (suc n) (standing kind.Health m st) ≡ None
  pub few : (m : Name) (o : Object) → standing kind.Route m st ≡ Some o → length (targets_of o.body) ≤ 16

-- the state once the plan is written as the entry behind the first n, at the moment
abbrev pub state_written : ℕ → ℕ → State → ObjectPlan → State
state_written n now st plan =
    store.changed (λ (o : Object). o.key) key_order.ghosts.cmp plan.key (object_after object_item.ghosts (find plan.key st) (n + 1) plan.change now) st

-- What journals are considered: facts of their states; with a journal also the one after a round; a round that has a plan makes its entry
pub record AreGrounds (settings : Settings) (now : ℕ) (Holds : Journal → Type 0) : Type 0 where
  pub sound : (j : Journal) → Holds j → IsSoundState (length j) (state j)
  pub keeps : (key : SlotKey) (j : Journal) → Holds j → Holds (round_at settings now key j)
  pub longer : (key : SlotKey) (j : Journal) (plan : ObjectPlan) → Holds j → next_write settings key (state j) now ≡ Some plan → length (round_at settings now key j) ≡ suc (length j)
  pub writes : (key : SlotKey) (j : Journal) (plan : ObjectPlan) → Holds j → next_write settings key (state j) now ≡ Some plan → state (round_at settings now key j) ≡ state_written (length j) now (state j) plan
  pub knows : KnowsKeys
