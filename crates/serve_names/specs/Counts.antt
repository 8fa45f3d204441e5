-- Numbers in decimal digits.
use Rattle.std.specs.Prelude.{◌&&◌, ℕ, Bool, List, length, nat_le, Option, Some, None, if◌then◌else◌}
use Rattle.std.specs.List.{list_all}
use Rattle.std.specs.Str.Parse.{digits_value}

abbrev pub is_digit : ℕ → Bool
is_digit b = nat_le 48 b && nat_le b 57

-- 1 to 10 decimal digits
abbrev pub is_count : List ℕ → Bool
is_count bytes = nat_le 1 (length bytes) && (nat_le (length bytes) 10 && list_all is_digit bytes)

-- the number that they write
abbrev pub count_of : List ℕ → Option ℕ
count_of bytes = if is_count bytes then Some (digits_value 10 bytes) else None
