-- The order of pins.
use Rattle.std.specs.Prelude.{ℕ, Bool, List}
use Rattle.std.specs.Ordering.{is_lt, nat_cmp}
use Rattle.std.specs.Cmp.Lexicographic.{slice_cmp}

-- whether the pin stands behind the new one
abbrev pub is_behind : List ℕ → List ℕ → Bool
is_behind new pin = is_lt (slice_cmp nat_cmp new pin)
