-- The moments at which the truths of conditions changed.
use Rattle.std.specs.Prelude.{ℕ, Bool, ◌&&◌, List, map, Option, Some, None}
use Rattle.std.specs.List.{find}
use Rattle.resource_types.specs.declared.conditions.Condition.{Condition}
use Rattle.resource_types.specs.contracts.conditions.CondNamePartialEq.TheImpl as condition_eq
use Rattle.resource_types.specs.contracts.conditions.TruthPartialEq.TheImpl as truth_eq

-- whether two conditions have the same name and truth
abbrev pub is_unchanged : Condition → Condition → Bool
is_unchanged new old = condition_eq.ghosts.eq old.name new.name && truth_eq.ghosts.eq old.truth new.truth

-- the time of a condition, or the moment
abbrev pub time_or : ℕ → Option Condition → ℕ
time_or moment None = moment
time_or moment (Some c) = c.since

-- since when a condition has its truth
abbrev pub since_of : List Condition → Condition → ℕ → ℕ
since_of old new moment = time_or moment (find (is_unchanged new) old)

-- a condition with the time at which its truth changed
abbrev pub with_time : List Condition → ℕ → Condition → Condition
with_time old moment c = record { name = c.name; truth = c.truth; reason = c.reason; message = c.message; info = c.info; since = since_of old c moment }

-- the new conditions, each with its time
abbrev pub settled : List Condition → List Condition → ℕ → List Condition
settled old new moment = map (with_time old moment) new
