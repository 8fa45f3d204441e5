-- The first place at which a byte stands, and the two parts round it.
use Rattle.std.proofs.Common.{◌≡◌, ℕ, ◌+◌, ◌-◌, ◌<◌, ◌≤◌, Bool, true, false, cond, ltb, List, length, take, drop, [], position, Some, None, refl, sym, ap, ◌∙◌, arith, length-drop}
use Rattle.std.specs.List.{position_or_len}
use Rattle.std.proofs.lemmas.List.{take_all, drop_all}
use borrow.Author.Tests.{ltb-true, ltb-false}

chosen : (t : Bool) (n i : ℕ) → Some i ≡ cond t (Some n) None → (t ≡ true) × (i ≡ n)
chosen true n i e = (refl, cc)
chosen false n i e = absurd cc

none_chosen : (t : Bool) (n : ℕ) → None ≡ cond t (Some n) None → t ≡ false
none_chosen true n e = absurd cc
none_chosen false n e = refl

module _ (p : ℕ → Bool) (xs : List ℕ) where
  pub found_at : (i : ℕ) → Some i ≡ position p xs → (i ≡ position_or_len p xs) × (i < length xs)
  found_at i e =
      let h = chosen (ltb (position_or_len p xs) (length xs)) (position_or_len p xs) i e in
      let lt : position_or_len p xs < length xs = ltb-true (position_or_len p xs) (length xs) h.0 in
      (h.1, rw h.1 lt)

  pub found_nowhere : None ≡ position p xs → length xs ≤ position_or_len p xs
  found_nowhere e = ltb-false (position_or_len p xs) (length xs) (none_chosen (ltb (position_or_len p xs) (length xs)) (position_or_len p xs) e)

  pub before_found : (i : ℕ) → Some i ≡ position p xs → take i xs ≡ take (position_or_len p xs) xs
  before_found i e = ap (λ k. take k xs) (found_at i e).0

  pub before_none : None ≡ position p xs → xs ≡ take (position_or_len p xs) xs
  before_none e = sym (take_all (position_or_len p xs) xs (found_nowhere e))

  pub after_found : (i : ℕ) → Some i ≡ position p xs → take (length xs - (i + 1)) (drop (i + 1) xs) ≡ drop (position_or_len p xs + 1) xs
  after_found i e =
      let fits : length (drop (i + 1) xs) ≤ length xs - (i + 1) = omega (arith, length-drop (i + 1) xs) in
      take_all (length xs - (i + 1)) (drop (i + 1) xs) fits ∙ ap (λ k. drop (k + 1) xs) (found_at i e).0

  pub after_none : None ≡ position p xs → [] ≡ drop (position_or_len p xs + 1) xs
  after_none e =
      let past : length xs ≤ position_or_len p xs + 1 = let all = found_nowhere e in omega arith in
      sym (drop_all (position_or_len p xs + 1) xs past)
