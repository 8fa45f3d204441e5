-- Uids.
use Rattle.std.specs.Prelude.{◌==◌, ◌&&◌, ◌||◌, ℕ, Bool, false, not, List, ◌++◌, length, nat_le, codes, slice_index}
use Rattle.std.specs.List.{list_all}
use Rattle.std.specs.Fmt.{digits}
use Rattle.serve_names.specs.Padding.{at_least}

-- what stands before the number
abbrev pub prefix : List ℕ
prefix = codes "00000000-0000-4000-8000-"

-- the prefix, and the number in twelve lower-case hexadecimal digits at least
unfoldable pub uid_bytes : ℕ → List ℕ
uid_bytes uid = prefix ++ at_least 12 (digits 16 false uid)

-- a decimal digit, or `a` to `f`
abbrev pub is_hex_digit : ℕ → Bool
is_hex_digit b = (nat_le 48 b && nat_le b 57) || (nat_le 97 b && nat_le b 102)

-- 12 to 16 such digits, of which a 0 stands first only where they are 12
abbrev pub is_hex_number : List ℕ → Bool
is_hex_number bytes = nat_le 12 (length bytes) && (nat_le (length bytes) 16
    && (list_all is_hex_digit bytes && (length bytes == 12 || not (slice_index bytes 0 == 48))))
