-- Moments as texts.
use Rattle.std.specs.Prelude.{◌≡◌, ◌+◌, ◌-◌, ◌/◌, ◌%◌, ℕ, zero, suc, Bool, nat_le, List, [], ◌∷◌, ◌++◌, pos, if◌then◌else◌}
use Rattle.jiff.specs.Words.{epoch_day, date_text}
use Rattle.jiff_core.specs.declared.civil.date.Date.{Date}
use Rattle.jiff_core.specs.Calendar.{day_count}
use Rattle.jiff_fmt.specs.Text.{pad2, pad4}
pub use Rattle.serve_io.specs.Clock.{last_moment}

-- a time of day, as `T` and `10:00:00Z`, of seconds below 86,400
abbrev pub clock_text : ℕ → List ℕ
clock_text s = 84 ∷ (pad2 (s / 3600) ++ (58 ∷ (pad2 (s / 60 % 60) ++ (58 ∷ (pad2 (s % 60) ++ 90 ∷ [])))))

-- `2024-05-01T10:00:00Z`: the civil date that lies the moment's whole days after 1970-01-01, and what is left of the last day
abbrev pub IsMomentText : ℕ → List ℕ → Type 0
IsMomentText moment bytes = (date : Date) × (epoch_day date ≡ pos (moment / 86400))
    × (bytes ≡ date_text date ++ clock_text (moment % 86400))

-- the greatest number up to n of which p is true, or 0
unfoldable pub last_such : (ℕ → Bool) → ℕ → ℕ
last_such p zero = 0
last_such p (suc n) = if p (suc n) then suc n else last_such p n

-- the month has begun on the day, which is counted from 1970-01-01
abbrev pub has_begun : ℕ → ℕ → ℕ → Bool
has_begun day year month = nat_le (day_count (pos year) month 1) (day_count (pos 1970) 1 1 + day)

-- the day's year: the last one whose January has begun
unfoldable pub year_of : ℕ → ℕ
year_of day = last_such (λ year. has_begun day year 1) 9999

-- the last month of that year that has begun
unfoldable pub month_of : ℕ → ℕ
month_of day = last_such (λ month. has_begun day (year_of day) month) 12

-- the place in that month, from 1
unfoldable pub monthday_of : ℕ → ℕ
monthday_of day = day_count (pos 1970) 1 1 + day - day_count (pos (year_of day)) (month_of day) 1 + 1

-- `2024-05-01`
abbrev pub day_bytes : ℕ → List ℕ
day_bytes day = pad4 (year_of day) ++ 45 ∷ [] ++ pad2 (month_of day) ++ 45 ∷ [] ++ pad2 (monthday_of day)

-- `2024-05-01T10:00:00Z`, the same by counting: it is `IsMomentText` of the moment
unfoldable pub moment_bytes : ℕ → List ℕ
moment_bytes moment = day_bytes (moment / 86400) ++ clock_text (moment % 86400)
