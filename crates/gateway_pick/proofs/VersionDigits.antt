-- The number that the digits of a version write.
use Rattle.std.proofs.Common.{◌≡◌, ◌+◌, ◌-◌, ◌*◌, ◌^◌, ◌<◌, ◌≤◌, ℕ, arith, List, length, true, take, get_or}
use Rattle.std.specs.List.{list_all}
use Rattle.std.specs.Str.Parse.{digits_value}
use Rattle.std.proofs.lemmas.Int.Digits.{digits_value_more, digits_value-lt}
use Rattle.std.proofs.lemmas.Str.Parse.{digits_value-take-le, digit_at}
use Rattle.std.proofs.lemmas.Str.{digit_value_digit}
use Rattle.std.proofs.Math.Nat.{pow-le-pow_right}
use Rattle.serve_names.specs.Counts.{is_digit}
use Rattle.serve_names.proofs.Digits.{all_digits}

version_small : (bytes : List ℕ) → list_all is_digit bytes ≡ true → length bytes ≤ 19 → digits_value 10 bytes < 10 ^ 19
version_small bytes e few =
    let own = digits_value-lt 10 bytes (all_digits bytes e) in
    let more : 10 ^ length bytes ≤ 10 ^ 19 = pow-le-pow_right (omega arith) few in
    omega arith

-- one digit more, and the number stays below that of all
pub version_step : (bytes : List ℕ) (i number : ℕ) → list_all is_digit bytes ≡ true → length bytes ≤ 19 → i < length bytes → number ≡ digits_value 10 (take i bytes)
    → (digits_value 10 (take (i + 1) bytes) ≡ number * 10 + (get_or bytes i 0 - 48)) × (number * 10 + (get_or bytes i 0 - 48) < 10 ^ 19)
version_step bytes i number e few lt is =
    let all = all_digits bytes e in
    let at = digit_at bytes i all lt in
    let value = digit_value_digit (get_or bytes i 0) at in
    let more = digits_value_more 10 bytes i lt in
    let below = digits_value-take-le 10 bytes (i + 1) (omega arith) in
    let small = version_small bytes e few in
    (rw is (omega arith), rw is (omega arith))
