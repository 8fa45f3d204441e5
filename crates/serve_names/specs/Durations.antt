-- Durations: up to three numbers with their units, in the order of hours, minutes and seconds.
use Rattle.std.specs.Prelude.{◌≡◌, ◌==◌, ◌&&◌, ◌⊎◌, ◌<◌, ◌≤◌, ◌+◌, ◌*◌, ℕ, Bool, List, [], ◌∷◌, ◌++◌, length, nat_lt, nat_le, Option, Some, None, if◌then◌else◌, take, drop, slice_index}
use Rattle.std.specs.List.{prefix_len}
use Rattle.std.specs.Str.Parse.{digits_value}
use Rattle.serve_names.specs.Counts.{is_digit, count_of}
use Rattle.serve_names.specs.Moments.{last_moment}

-- a count with its unit behind it, or nothing, which counts 0
abbrev pub IsPart : ℕ → ℕ → List ℕ → Type 0
IsPart unit number bytes = ((bytes ≡ []) × (number ≡ 0))
    ⊎ ((digits : List ℕ) × ((bytes ≡ digits ++ unit ∷ []) × (count_of digits ≡ Some number)))

-- the bytes are a duration of so many seconds: one part at least, and no more seconds than the last moment has
pub record IsDuration (total : ℕ) (bytes : List ℕ) : Type 0 where
  pub hours : ℕ
  pub minutes : ℕ
  pub seconds : ℕ
  pub hours_text : List ℕ
  pub minutes_text : List ℕ
  pub seconds_text : List ℕ
  pub has_hours : IsPart 104 hours hours_text
  pub has_minutes : IsPart 109 minutes minutes_text
  pub has_seconds : IsPart 115 seconds seconds_text
  pub joined : bytes ≡ hours_text ++ (minutes_text ++ seconds_text)
  pub some : 0 < length bytes
  pub sum : total ≡ hours * 3600 + minutes * 60 + seconds
  pub within : total ≤ last_moment

-- how many digits stand first
abbrev pub run_of : List ℕ → ℕ
run_of bytes = prefix_len is_digit bytes

-- a count with the unit behind it stands first
abbrev pub has_part : ℕ → List ℕ → Bool
has_part unit bytes = nat_lt 0 (run_of bytes) && (nat_le (run_of bytes) 10
    && (nat_lt (run_of bytes) (length bytes) && slice_index bytes (run_of bytes) == unit))

abbrev pub part_of : ℕ → List ℕ → ℕ
part_of unit bytes = if has_part unit bytes then digits_value 10 (take (run_of bytes) bytes) else 0

abbrev pub after_part : ℕ → List ℕ → List ℕ
after_part unit bytes = if has_part unit bytes then drop (run_of bytes + 1) bytes else bytes

abbrev pub total_of : List ℕ → ℕ
total_of bytes = part_of 104 bytes * 3600 + part_of 109 (after_part 104 bytes) * 60 + part_of 115 (after_part 109 (after_part 104 bytes))

abbrev pub is_duration : List ℕ → Bool
is_duration bytes = nat_lt 0 (length bytes) && (length (after_part 115 (after_part 109 (after_part 104 bytes))) == 0
    && nat_le (total_of bytes) last_moment)

-- the seconds of the duration that the bytes are
unfoldable pub duration_of : List ℕ → Option ℕ
duration_of bytes = if is_duration bytes then Some (total_of bytes) else None
