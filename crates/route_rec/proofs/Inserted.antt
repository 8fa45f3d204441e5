-- A pin stands before the first one that is greater, or last.
use Rattle.std.proofs.Common.{◌≡◌, ℕ, ◌+◌, ◌≤◌, suc, Bool, true, false, List, [], ◌∷◌, length, Option, Some, None, arith, refl, ap, ◌∙◌}
use Rattle.std.specs.Prelude.{cond, nat_lt, not, unwrap_or}
use Rattle.std.specs.List.{insert, position, position_or_len, prefix_len}
use Rattle.std.proofs.lemmas.Bool.Decides.{nat_tests}
use Rattle.control_rules.specs.NextRoute.{add_pin}
use Rattle.route_rec.specs.Pinning.{is_behind}

before_first : (new pin : List ℕ) (pins : List (List ℕ)) → is_behind new pin ≡ true → insert (pin ∷ pins) (position_or_len (is_behind new) (pin ∷ pins)) new ≡ new ∷ pin ∷ pins
before_first new pin pins e = rw e refl

behind_first : (new pin : List ℕ) (pins : List (List ℕ)) → is_behind new pin ≡ false
    → insert (pin ∷ pins) (position_or_len (is_behind new) (pin ∷ pins)) new ≡ pin ∷ insert pins (position_or_len (is_behind new) pins) new
behind_first new pin pins e =
    let one : 1 + position_or_len (is_behind new) pins ≡ suc (position_or_len (is_behind new) pins) = omega arith in
    rw (e, one) refl

pub inserted : (new : List ℕ) (pins : List (List ℕ)) → insert pins (position_or_len (is_behind new) pins) new ≡ add_pin new pins
unfolding add_pin
inserted new [] = refl
inserted new (pin ∷ pins) = go (is_behind new pin) refl (inserted new pins)
  where
    go : (t : Bool) → is_behind new pin ≡ t → insert pins (position_or_len (is_behind new) pins) new ≡ add_pin new pins
        → insert (pin ∷ pins) (position_or_len (is_behind new) (pin ∷ pins)) new ≡ cond t (new ∷ pin ∷ pins) (pin ∷ add_pin new pins)
    go true e ih = before_first new pin pins e
    go false e ih = behind_first new pin pins e ∙ ap (λ ps. pin ∷ ps) ih

within : {X : Type 0} (p : X → Bool) (xs : List X) → prefix_len p xs ≤ length xs
within p [] = omega arith
within p (x ∷ xs) = go (p x) (within p xs)
  where
    go : (t : Bool) → prefix_len p xs ≤ length xs → cond t (1 + prefix_len p xs) 0 ≤ length (x ∷ xs)
    go true h = omega arith
    go false h = omega arith

-- the answer of `position`, or the length, is the place
place_or_len : {X : Type 0} (p : X → Bool) (xs : List X) → unwrap_or (position p xs) (length xs) ≡ position_or_len p xs
place_or_len p xs = go (position_or_len p xs) (within (λ x. not (p x)) xs) (nat_lt (position_or_len p xs) (length xs)) refl
  where
    go : (k : ℕ) → k ≤ length xs → (t : Bool) → nat_lt k (length xs) ≡ t → unwrap_or (cond t (Some k) None) (length xs) ≡ k
    go k le true e = refl
    go k le false e = let past : length xs ≤ k = grind (arith, nat_tests) in omega arith

-- by the answer of `position`
placed : (new : List ℕ) (pins : List (List ℕ)) (found : Option ℕ) → found ≡ position (is_behind new) pins → insert pins (unwrap_or found (length pins)) new ≡ add_pin new pins
placed new pins found e =
    ap (λ (o : Option ℕ). insert pins (unwrap_or o (length pins)) new) e
    ∙ ap (λ (k : ℕ). insert pins k new) (place_or_len (is_behind new) pins) ∙ inserted new pins

-- a copy of the pins with a copy of the new one at that place
pub placed_as : (new : List ℕ) (pins : List (List ℕ)) (found : Option ℕ) (place : ℕ) (copy : List (List ℕ)) (text : List ℕ) (after : List (List ℕ))
    → found ≡ position (is_behind new) pins → place ≡ unwrap_or found (length pins) → copy ≡ pins → text ≡ new → after ≡ insert copy place text → after ≡ add_pin new pins
placed_as new pins found place copy text after e f g h i = i ∙ rw (g, h, f) (placed new pins found e)
