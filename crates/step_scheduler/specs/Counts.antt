-- Counts of looks and of turns. They stand still at their type's end.
use Rattle.std.specs.Prelude.{ℕ, zero, suc, ◌+◌, ◌-◌, ◌^◌, nat_lt, cond, Result, Ok, Err}
use Rattle.control_rules.specs.declared.slots.StepOutcome.{StepOutcome}
use Rattle.control_rules.specs.declared.slots.StepOutcome.TheVariants as outcome

-- one more, where the count isn't the greatest
abbrev pub one_more : ℕ → ℕ
one_more n = cond (nat_lt n (2 ^ 64 - 1)) (n + 1) n

-- so many more, one after another
unfoldable pub more_by : ℕ → ℕ → ℕ
more_by zero n = n
more_by (suc t) n = one_more (more_by t n)

-- the count of looks after a step: a step that looks is one more
abbrev pub looks_with : StepOutcome → ℕ → ℕ
looks_with (outcome.Looked seen) n = one_more n
looks_with outcome.Planned n = n
looks_with outcome.Nothing n = n
looks_with (outcome.Wrote version) n = n
looks_with (outcome.Stale newer) n = n
looks_with outcome.Unknown n = n
looks_with outcome.Empty n = n

-- the same where the step may have been out of memory
abbrev pub looks_after : {E : Type 0} → Result StepOutcome E → ℕ → ℕ
looks_after (Ok answer) n = looks_with answer n
looks_after (Err e) n = n

-- the count of turns after a turn that may have been out of memory
abbrev pub turns_after : {E : Type 0} → Result ℕ E → ℕ → ℕ
turns_after (Ok entries) n = one_more n
turns_after (Err e) n = n
