-- Since when each condition has its truth.
use Rattle.std.specs.Prelude.{◌≡◌, ℕ, ◌<◌, ◌≤◌, Bool, true, false, Some, slice_get}
use Rattle.resource_types.specs.declared.names.Key.{Key}
use Rattle.resource_types.specs.declared.conditions.Condition.{Condition}
use Rattle.resource_types.specs.declared.objects.Object.{Object}
use Rattle.resource_types.specs.Objects.{has_condition, status_of}
use Rattle.resource_types.specs.Lookups.{Journal, find, is_given}
use Rattle.control_rules.specs.Slots.{ObjectEntry, state_at}

-- whether the status of what stands under the key after n entries has the condition with that truth
abbrev pub has_truth_at : Journal → Key → Condition → ℕ → Bool
has_truth_at j key c n = is_given (has_condition c.name c.truth) (find key (state_at j n))

-- an entry on the key, whose look was at that moment, gave the condition its truth, which it has had since
pub record IsSince (j : Journal) (n : ℕ) (key : Key) (c : Condition) : Type 0 where
  pub place : ℕ
  pub entry : ObjectEntry
  pub before : place < n
  pub is : slice_get j place ≡ Some entry
  pub on : entry.key ≡ key
  pub since : c.since ≡ entry.read_at
  pub new : has_truth_at j key c place ≡ false
  pub stays : (i : ℕ) → place < i → i ≤ n → has_truth_at j key c i ≡ true

-- each condition that stands after n entries has its time
abbrev pub HasTransitionTimes : Journal → ℕ → Type 0
HasTransitionTimes j n = (key : Key) (o : Object) (i : ℕ) (c : Condition) → find key (state_at j n) ≡ Some o → slice_get (status_of o.body).conditions i ≡ Some c → IsSince j n key c
