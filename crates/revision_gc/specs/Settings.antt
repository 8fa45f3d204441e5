-- The settings of collection, and the texts that give them.
use Rattle.std.specs.Prelude.{ℕ, ◌*◌, Bool, false, List, codes, bytes_eq, nat_lt, Option, Some, None, Result, Ok, Err, cond}
use Rattle.serve_names.specs.Counts.{count_of}
use Rattle.serve_names.specs.Durations.{duration_of}
use Rattle.control_rules.specs.declared.settings.GcSettings.{GcSettings}
use Rattle.revision_gc.specs.declared.settings.SettingsError.{SettingsError}
use Rattle.revision_gc.specs.declared.settings.SettingsError.TheVariants as error

-- 48 hours after the creation, 15 hours after the active moment, 20 and 1,000
abbrev pub standard_settings : GcSettings
standard_settings = record { create = Some (48 * 3600); active = Some (15 * 3600); least = 20; most = Some 1000 }

-- whether the text is `disabled`
abbrev pub is_disabled : List ℕ → Bool
is_disabled text = bytes_eq text (codes "disabled")

-- a number that counts, where there is one
abbrev pub counting : Option ℕ → Option (Option ℕ)
counting None = None
counting (Some number) = Some (Some number)

-- a time: a duration, or none where it is disabled; nothing of another text
abbrev pub time_in : List ℕ → Option (Option ℕ)
time_in text = cond (is_disabled text) (Some None) (counting (duration_of text))

-- the most: a count, or none where it is disabled; nothing of another text
abbrev pub most_in : List ℕ → Option (Option ℕ)
most_in text = cond (is_disabled text) (Some None) (counting (count_of text))

-- whether the most counts and is below the least
abbrev pub is_below : Option ℕ → ℕ → Bool
is_below None least = false
is_below (Some most) least = nat_lt most least

-- ---- step by step

-- go on with what is there, or stop with the error
abbrev pub there : {A : Type 0} → SettingsError → Option A → Result A SettingsError
there fault None = Err fault
there fault (Some x) = Ok x

-- go on, unless the test holds
abbrev pub unless : Bool → SettingsError → Result (Unit {0}) SettingsError
unless test fault = cond test (Err fault) (Ok tt)

-- the next step, where there was no error
infixl 10 ◌>>=◌
abbrev pub ◌>>=◌ : {A B E : Type 0} → Result A E → (A → Result B E) → Result B E
(Ok x) >>= f = f x
(Err e) >>= f = Err e

-- the settings of the four texts, or the first error
unfoldable pub settings_of : List ℕ → List ℕ → List ℕ → List ℕ → Result GcSettings SettingsError
settings_of create_text active_text least_text most_text = do
  create ← there error.CreateTime (time_in create_text)
  active ← there error.ActiveTime (time_in active_text)
  least ← there error.Least (count_of least_text)
  most ← there error.Most (most_in most_text)
  fits ← unless (is_below most least) error.LeastAboveMost
  Ok (record { create = create; active = active; least = least; most = most })
