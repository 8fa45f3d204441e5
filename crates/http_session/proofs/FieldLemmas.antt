use Rattle.std.proofs.Common.{◌≡◌, ℕ, ◌+◌, ◌*◌, ◌-◌, ◌<◌, ◌≤◌, List, [], ◌∷◌, length, take, get_or, arith, true, suc, zero}
use Rattle.std.proofs.lemmas.Int.Digits.{digits_value_more}
use Rattle.std.specs.Prelude.{min}
use Rattle.std.specs.List.{list_all}
use Rattle.std.specs.Char.{is_ascii_digit, digit_value}
use Rattle.std.specs.Str.Parse.{digits_value}

-- ---- numbers

digit_bounds : (c : ℕ) → is_ascii_digit c ≡ true → (48 ≤ c) × (c ≤ 57)
digit_bounds c h = grind arith

digit_is : (c : ℕ) → 48 ≤ c → c ≤ 57 → digit_value c ≡ c - 48
digit_is c low high = grind arith

pub digit_at : (bytes : List ℕ) (i : ℕ) → list_all is_ascii_digit bytes ≡ true → i < length bytes
    → (48 ≤ get_or bytes i 0) × (get_or bytes i 0 ≤ 57)
digit_at [] i h k = absurd (omega arith)
digit_at (b ∷ bytes) zero h k = grind (arith, digit_bounds b)
digit_at (b ∷ bytes) (suc i) h k = digit_at bytes i (grind arith) (omega arith)

pub capped_more : (bytes : List ℕ) (i n : ℕ) → list_all is_ascii_digit bytes ≡ true → i < length bytes
    → n ≡ min (digits_value 10 (take i bytes)) 65537
    → min (n * 10 + (get_or bytes i 0 - 48)) 65537 ≡ min (digits_value 10 (take (i + 1) bytes)) 65537
capped_more bytes i n all k e =
    let d = digit_at bytes i all k in
    let same = digit_is (get_or bytes i 0) d.0 d.1 in
    let more = digits_value_more 10 bytes i k in
    omega arith
