-- What turns do to the journal, whatever the slots hold: each round writes what is due in the present state.
use Rattle.std.specs.Prelude.{◌≡◌, ℕ, zero, suc, false, List, [], ◌∷◌, length, Option, Some, None}
use Rattle.resource_types.specs.declared.names.Controller.{Controller}
use Rattle.resource_types.specs.declared.names.Controller.TheVariants as controller
use Rattle.resource_types.specs.declared.names.SlotKey.{SlotKey}
use Rattle.resource_types.specs.declared.names.Actor.TheVariants as actor
use Rattle.resource_types.specs.Lookups.{Journal, State, state}
use Rattle.control_rules.specs.declared.settings.Settings.{Settings}
use Rattle.control_rules.specs.Differences.{ObjectPlan}
use Rattle.control_rules.specs.Next.{next_write}
use Rattle.control_rules.specs.Slots.{ObjectWrite, entries_in, is_key, keys_for, Plane}
use Rattle.control_rules.specs.Turns.{turns_of}

-- a controller's write from a look at the present state
abbrev pub write_now : ℕ → Journal → SlotKey → ObjectPlan → ObjectWrite
write_now now j key plan = record { plan = plan; actor = actor.Controller key; seen = length j; read_at = now; moment = now }

-- the journal once the plan is written, if there is one
abbrev pub extended : ℕ → Journal → SlotKey → Option ObjectPlan → Journal
extended now j key None = j
extended now j key (Some plan) = entries_in j (write_now now j key plan)

-- a round of a key
unfoldable pub round_at : Settings → ℕ → SlotKey → Journal → Journal
round_at settings now key j = extended now j key (next_write settings key (state j) now)

-- a round of each of these keys in turn
unfoldable pub rounds_at : Settings → ℕ → List SlotKey → Journal → Journal
rounds_at settings now [] j = j
rounds_at settings now (key ∷ keys) j = rounds_at settings now keys (round_at settings now key j)

-- a pass of a controller
abbrev pub pass_at : Settings → ℕ → Controller → Journal → Journal
pass_at settings now c j = rounds_at settings now (keys_for c (state j)) j

-- a turn
unfoldable pub turn_at : Settings → ℕ → Journal → Journal
turn_at settings now j =
    pass_at settings now controller.Route
    (pass_at settings now controller.Collector
    (pass_at settings now controller.Revision
    (pass_at settings now controller.Configuration
    (pass_at settings now controller.Service j))))

-- so many turns
unfoldable pub turns_at : Settings → ℕ → ℕ → Journal → Journal
turns_at settings now zero j = j
turns_at settings now (suc t) j = turns_at settings now t (turn_at settings now j)

-- nothing is due to a name that is no key of its controller
abbrev pub KnowsKeys : Type 0
KnowsKeys = (settings : Settings) (key : SlotKey) (st : State) (now : ℕ) → is_key key st ≡ false → next_write settings key st now ≡ None

-- turns do to the journal what their rounds do, whatever the slots held
abbrev pub TurnsFollow : Type 0
TurnsFollow = (w : Plane) (t : ℕ) → (turns_of t w).journal ≡ turns_at w.settings w.now t w.journal
