-- What it is for turns over a journal to come to rest.
use Rattle.std.specs.Prelude.{◌≡◌, ℕ, ◌≤◌}
use Rattle.resource_types.specs.Lookups.{Journal}
use Rattle.control_rules.specs.declared.settings.Settings.{Settings}
use Rattle.control_rules.specs.Rounds.{turn_at, turns_at}

-- after some number of turns, within the bound, a turn more changes nothing
pub record SettlesWithin (settings : Settings) (now : ℕ) (j : Journal) (bound : ℕ) : Type 0 where
  pub turns : ℕ
  pub within : turns ≤ bound
  pub still : turn_at settings now (turns_at settings now turns j) ≡ turns_at settings now turns j
