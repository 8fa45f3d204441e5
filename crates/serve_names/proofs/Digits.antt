-- The number that digits write.
use Rattle.std.proofs.Common.{◌≡◌, ◌+◌, ◌-◌, ◌*◌, ◌^◌, ◌<◌, ◌≤◌, ◌&&◌, ℕ, refl, arith, List, [], ◌∷◌, length, true, take, get_or}
use Rattle.std.specs.List.{list_all}
use Rattle.std.specs.Str.Parse.{digits_value, AllDigits}
use Rattle.std.proofs.lemmas.Int.Digits.{digits_value_more, digits_value-lt}
use Rattle.std.proofs.lemmas.Str.Parse.{digits_value-take-le, digit_at}
use Rattle.std.proofs.lemmas.Str.{digit_value_digit}
use Rattle.std.specs.Char.{digit_value}
use Rattle.std.proofs.Math.Nat.{pow-le-pow_right}
use Rattle.std.proofs.lemmas.Bool.Decides.{nat_tests}
use Rattle.std.proofs.Common.{Bool, false, nat_le}
use Rattle.serve_names.specs.Counts.{is_digit}

both : (a b : Bool) → (a && b) ≡ true → (a ≡ true) × (b ≡ true)
both true b e = (refl, e)
both false b e = cc

pub all_digits : (bytes : List ℕ) → list_all is_digit bytes ≡ true → AllDigits 10 bytes
all_digits [] e = tt
all_digits (b ∷ bs) e =
    let parts = both (nat_le 48 b && nat_le b 57) (list_all is_digit bs) e in
    let small : digit_value b < 10 = let one = both (nat_le 48 b) (nat_le b 57) parts.0 in grind (arith, nat_tests) in
    (small, all_digits bs parts.1)

pub count_small : (bytes : List ℕ) → list_all is_digit bytes ≡ true → length bytes ≤ 10 → digits_value 10 bytes < 10 ^ 10
count_small bytes e few =
    let own = digits_value-lt 10 bytes (all_digits bytes e) in
    let more : 10 ^ length bytes ≤ 10 ^ 10 = pow-le-pow_right (omega arith) few in
    omega arith

-- one digit more, and the number stays below that of all
pub count_step : (bytes : List ℕ) (i number : ℕ) → list_all is_digit bytes ≡ true → length bytes ≤ 10 → i < length bytes → number ≡ digits_value 10 (take i bytes)
    → (digits_value 10 (take (i + 1) bytes) ≡ number * 10 + (get_or bytes i 0 - 48)) × (number * 10 + (get_or bytes i 0 - 48) < 10 ^ 10)
count_step bytes i number e few lt is =
    let all = all_digits bytes e in
    let at = digit_at bytes i all lt in
    let value = digit_value_digit (get_or bytes i 0) at in
    let more = digits_value_more 10 bytes i lt in
    let below = digits_value-take-le 10 bytes (i + 1) (omega arith) in
    let small = count_small bytes e few in
    (rw is (omega arith), rw is (omega arith))
