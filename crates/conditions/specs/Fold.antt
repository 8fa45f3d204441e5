-- The fold of conditions to `Ready`.
use Rattle.std.specs.Prelude.{ℕ, Bool, false, if◌then◌else◌, List, [], Option, Some, None}
use Rattle.std.specs.List.{list_any, find}
use Rattle.resource_types.specs.declared.conditions.Truth.{Truth}
use Rattle.resource_types.specs.declared.conditions.Truth.TheVariants as truth
use Rattle.resource_types.specs.declared.conditions.CondName.TheVariants as condition
use Rattle.resource_types.specs.declared.conditions.Condition.{Condition}
use Rattle.resource_types.specs.contracts.conditions.TruthPartialEq.TheImpl as truth_eq

-- whether the condition has the truth
abbrev pub has_truth : Truth → Condition → Bool
has_truth t c = truth_eq.ghosts.eq c.truth t

-- False where a part is False, else Unknown where a part is Unknown, else True
abbrev pub fold_truth : List Condition → Truth
fold_truth parts =
    if list_any (has_truth truth.False) parts then truth.False
    else (if list_any (has_truth truth.Unknown) parts then truth.Unknown else truth.True)

-- the part that explains a truth: the first that has it, and none explains True
abbrev pub first_with : Truth → List Condition → Option Condition
first_with truth.True parts = None
first_with truth.False parts = find (has_truth truth.False) parts
first_with truth.Unknown parts = find (has_truth truth.Unknown) parts

-- the part that explains the fold
abbrev pub cause_of : List Condition → Option Condition
cause_of parts = first_with (fold_truth parts) parts

-- the reason of a part, or an empty one
abbrev pub reason_of : Option Condition → List ℕ
reason_of None = []
reason_of (Some c) = c.reason

-- the message of a part, or an empty one
abbrev pub message_of : Option Condition → List ℕ
message_of None = []
message_of (Some c) = c.message

-- the condition `Ready` of these parts
abbrev pub fold_of : List Condition → Condition
fold_of parts = record {
  name = condition.Ready;
  truth = fold_truth parts;
  reason = reason_of (cause_of parts);
  message = message_of (cause_of parts);
  info = false;
  since = 0;
}
