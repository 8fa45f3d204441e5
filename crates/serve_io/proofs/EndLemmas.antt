-- Pieces off the front of what is left, and behind what was taken.
use Rattle.std.specs.Prelude.{Bool}
use Rattle.std.proofs.Common.{◌≡◌, ℕ, ◌+◌, ◌-◌, ◌<◌, ◌≤◌, false, refl, List, [], ◌∷◌, ◌++◌, length, take, drop, length-drop, arith, Option, Some, sym, ap₂, subst, ◌∙◌}
use Rattle.std.proofs.lemmas.List.{take-append-drop, take_at, drop-drop, take_rest}
use Rattle.std.proofs.Math.Seq.{take-add}
use Rattle.std.proofs.KnownBytes.{Appends-trans}
use Rattle.std.specs.Io.KnownBytes.{Appends, Consumes}
use Rattle.serve_io.specs.declared.sink.WriteAnswer.{WriteAnswer}
use Rattle.serve_io.specs.declared.sink.WriteAnswer.TheVariants.{Took, Failed}
use Rattle.serve_io.specs.Whole.{WritesRest}

-- a piece off the front of what is left
pub consumes-front : (bytes room piece : List ℕ) (at n : ℕ) → piece ≡ take n (drop at bytes) → length piece ≡ n
    → Consumes (Some (drop at bytes)) (Some (drop (at + n) bytes)) (take n (piece ++ room))
consumes-front bytes room piece at n e h =
    sym (take-append-drop n (drop at bytes)) ∙ ap₂ (λ x y. x ++ y) (sym (take_at piece room n h ∙ e)) (drop-drop n at bytes)

-- a piece of the rest went behind the first bytes
pub appends-more : (a b c : Option (List ℕ)) (bytes : List ℕ) (at n : ℕ) → Appends a b (take at bytes)
    → Appends b c (take n (take (length bytes - at) (drop at bytes))) → Appends a c (take (at + n) bytes)
appends-more a b c bytes at n first next =
    let piece = (rw (take_rest bytes at) at next) in
    subst (λ (xs : List ℕ). Appends a c xs) (sym (take-add at n bytes)) (Appends-trans a b c (take at bytes) (take n (drop at bytes)) first piece)

-- ---- writing the whole rest

-- the slice from `at` on
abbrev pub rest_from : List ℕ → ℕ → List ℕ
rest_from bytes at = take (length bytes - at) (drop at bytes)

-- a call took the first n bytes, and others go on behind them
pub WritesRest-took : {K : Type 0} (writes : K → List ℕ → WriteAnswer → K → Type 0) (old middle : K) (bytes : List ℕ) (at n : ℕ)
    → 0 < n → n ≤ length (rest_from bytes at) → writes old (rest_from bytes at) (Took n) middle
    → (sent : Bool) (new : K) → WritesRest writes middle (drop (at + n) bytes) sent new → WritesRest writes old (drop at bytes) sent new
WritesRest-took writes old middle bytes at n some fits w sent new later =
    let next = subst (λ (xs : List ℕ). WritesRest writes middle xs sent new) (sym (drop-drop n at bytes)) later in
    let whole = take_rest bytes at in
    (Took n ∷ next.0, (middle, some, (rw whole at fits), (rw whole at w), next.1))

-- a call failed
pub WritesRest-failed : {K : Type 0} (writes : K → List ℕ → WriteAnswer → K → Type 0) (old new : K) (bytes : List ℕ) (at : ℕ)
    → at < length bytes → writes old (rest_from bytes at) Failed new → WritesRest writes old (drop at bytes) false new
WritesRest-failed writes old new bytes at some w =
    let whole = take_rest bytes at in
    (Failed ∷ [], (refl, omega (arith, some, length-drop at bytes), refl, (rw whole at w)))
