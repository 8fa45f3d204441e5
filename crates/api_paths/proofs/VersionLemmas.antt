-- Versions in a good query, and the numbers that they write.
use Rattle.std.proofs.Common.{◌≡◌, ◌+◌, ◌-◌, ◌*◌, ◌^◌, ◌<◌, ◌≤◌, ◌&&◌, ◌||◌, not, cond, ℕ, refl, arith, List, [], ◌∷◌, length, Bool, true, false, nat_le, take, get_or, Some, find, codes}
use Rattle.std.specs.List.{list_all}
use Rattle.std.specs.Str.Parse.{digits_value, AllDigits}
use Rattle.std.specs.Char.{digit_value}
use Rattle.std.proofs.lemmas.Int.Digits.{digits_value_more, digits_value-lt}
use Rattle.std.proofs.lemmas.Str.Parse.{digits_value-take-le, digit_at}
use Rattle.std.proofs.lemmas.Str.{digit_value_digit}
use Rattle.std.proofs.Math.Nat.{pow-le-pow_right}
use Rattle.std.proofs.lemmas.Bool.Decides.{nat_tests}
use Rattle.serve_names.specs.Counts.{is_digit}
use Rattle.api_paths.specs.Queries.{parts_of, is_named, value_of, is_version, is_good_list}

left : (a b : Bool) → (a && b) ≡ true → a ≡ true
left true b e = refl
left false b e = e

right : (a b : Bool) → (a && b) ≡ true → b ≡ true
right true b e = e
right false b e = cc

-- ---- numbers

all_digits : (bytes : List ℕ) → list_all is_digit bytes ≡ true → AllDigits 10 bytes
all_digits [] e = tt
all_digits (b ∷ bs) e =
    let digit = left (nat_le 48 b && nat_le b 57) (list_all is_digit bs) e in
    let low = left (nat_le 48 b) (nat_le b 57) digit in
    let high = right (nat_le 48 b) (nat_le b 57) digit in
    let small : digit_value b < 10 = grind (arith, nat_tests) in
    (small, all_digits bs (right (nat_le 48 b && nat_le b 57) (list_all is_digit bs) e))

version_small : (bytes : List ℕ) → list_all is_digit bytes ≡ true → length bytes ≤ 19 → digits_value 10 bytes < 10 ^ 19
version_small bytes e few =
    let own = digits_value-lt 10 bytes (all_digits bytes e) in
    let more : 10 ^ length bytes ≤ 10 ^ 19 = pow-le-pow_right (omega arith) few in
    omega arith

pub few_digits : (bytes : List ℕ) → is_version bytes ≡ true → length bytes ≤ 19
few_digits bytes e = let few = left (nat_le (length bytes) 19) (list_all is_digit bytes) e in grind (arith, nat_tests)

-- one digit more, and the number stays below that of all
pub version_step : (bytes : List ℕ) (i number : ℕ) → is_version bytes ≡ true → i < length bytes → number ≡ digits_value 10 (take i bytes)
    → (digits_value 10 (take (i + 1) bytes) ≡ number * 10 + (get_or bytes i 0 - 48)) × (number * 10 + (get_or bytes i 0 - 48) < 10 ^ 19)
version_step bytes i number e lt is =
    let digits = right (nat_le (length bytes) 19) (list_all is_digit bytes) e in
    let all = all_digits bytes digits in
    let at = digit_at bytes i all lt in
    let value = digit_value_digit (get_or bytes i 0) at in
    let more = digits_value_more 10 bytes i lt in
    let below = digits_value-take-le 10 bytes (i + 1) (omega arith) in
    let small = version_small bytes digits (few_digits bytes e) in
    (rw is (omega arith), rw is (omega arith))

-- ---- the version of a good query

module _ (named good : List ℕ → Bool) where
  step : (x p : List ℕ) (xs : List (List ℕ)) (is_it is_good : Bool) → good x ≡ is_good
      → ((not is_it || is_good) && list_all (λ y. not (named y) || good y) xs) ≡ true → cond is_it (Some x) (find named xs) ≡ Some p
      → (list_all (λ y. not (named y) || good y) xs ≡ true → find named xs ≡ Some p → good p ≡ true) → good p ≡ true
  step x p xs true true is all found others = let same : x ≡ p = cc in rw (← same) is
  step x p xs true false is all found others = absurd cc
  step x p xs false g is all found others = others all found

  found_is_good : (xs : List (List ℕ)) (p : List ℕ) → list_all (λ y. not (named y) || good y) xs ≡ true → find named xs ≡ Some p → good p ≡ true
  found_is_good [] p all found = absurd cc
  found_is_good (x ∷ xs) p all found = step x p xs (named x) (good x) refl all found (found_is_good xs p)

pub version_is_good : (query part : List ℕ) → is_good_list query ≡ true → find (is_named (codes "resourceVersion")) (parts_of query) ≡ Some part → is_version (value_of part) ≡ true
version_is_good query part e found =
    found_is_good (is_named (codes "resourceVersion")) (λ p. is_version (value_of p)) (parts_of query) part (right _ _ (right _ _ e)) found
