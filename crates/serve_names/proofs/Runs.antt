-- The digits that stand first.
use Rattle.std.proofs.Common.{◌≡◌, ◌+◌, ◌<◌, ◌≤◌, ◌&&◌, ◌^◌, ℕ, Bool, true, false, suc, cond, refl, arith, List, [], ◌∷◌, length, take, Some, None, nat_lt, nat_le}
use Rattle.std.specs.List.{list_all}
use Rattle.std.specs.Str.Parse.{digits_value}
use Rattle.std.proofs.lemmas.Bool.Decides.{nat_tests}
use Rattle.std.proofs.lemmas.Grind.{common_steps}
use Rattle.serve_names.specs.Counts.{count_of, is_digit}
use Rattle.serve_names.specs.Durations.{run_of}
use Rattle.serve_names.proofs.Digits.{count_small}

pub run_digits : (bytes : List ℕ) → list_all is_digit (take (run_of bytes) bytes) ≡ true
run_digits [] = refl
run_digits (b ∷ bs) = go (is_digit b) refl (run_digits bs)
  where
    go : (t : Bool) → is_digit b ≡ t → list_all is_digit (take (run_of bs) bs) ≡ true → list_all is_digit (take (run_of (b ∷ bs)) (b ∷ bs)) ≡ true
    go true is next =
        let step : 1 + run_of bs ≡ suc (run_of bs) = omega arith in
        rw is (rw step (rw is next))
    go false is next = rw is refl

pub count_here : (bytes : List ℕ) → 0 < run_of bytes → run_of bytes ≤ 10 → run_of bytes < length bytes → count_of (take (run_of bytes) bytes) ≡ Some (digits_value 10 (take (run_of bytes) bytes))
count_here bytes some few less =
    let all = run_digits bytes in
    let len : length (take (run_of bytes) bytes) ≡ run_of bytes = grind (arith, common_steps) in
    let least : nat_lt 0 (length (take (run_of bytes) bytes)) ≡ true = grind (arith, nat_tests) in
    let most : nat_le (length (take (run_of bytes) bytes)) 10 ≡ true = grind (arith, nat_tests) in
    λ i. cond (least i && (most i && all i)) (Some (digits_value 10 (take (run_of bytes) bytes))) None

pub value_small : (bytes : List ℕ) → run_of bytes ≤ 10 → run_of bytes < length bytes → digits_value 10 (take (run_of bytes) bytes) < 10 ^ 10
value_small bytes few less =
    let len : length (take (run_of bytes) bytes) ≡ run_of bytes = grind (arith, common_steps) in
    count_small (take (run_of bytes) bytes) (run_digits bytes) (omega arith)
