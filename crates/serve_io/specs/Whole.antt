-- What writing all of some bytes does, in one piece or in several.
use Rattle.std.specs.Prelude.{◌≡◌, ℕ, ◌<◌, ◌≤◌, Bool, true, false, List, [], ◌∷◌, length, take, drop, Option}
use Rattle.std.specs.Io.KnownBytes.{Appends}
use Rattle.serve_io.specs.declared.sink.WriteAnswer.{WriteAnswer}
use Rattle.serve_io.specs.declared.sink.WriteAnswer.TheVariants.{Took, Failed}
use Rattle.serve_io.specs.Causes.{HasCause}

-- all the bytes were added, or a write failed and a proper prefix was
pub record Sends (old new : Option (List ℕ)) (before now : ℕ) (bytes : List ℕ) (sent : Bool) : Type 0 where
  pub whole : sent ≡ true → Appends old new bytes
  pub cut : sent ≡ false → (n : ℕ) × (n < length bytes) × Appends old new (take n bytes)
  pub cause : HasCause before now (sent ≡ false)

-- with these answers the sink went from its old value to its new one by calls of `write`, each given the whole rest of the
-- bytes: without a rest all is sent, with no call; else one took its first bytes and the others go on behind them, or one failed
-- and was the last
abbrev pub WritesBy : {K : Type 0} → (K → List ℕ → WriteAnswer → K → Type 0) → List WriteAnswer → K → List ℕ → Bool → K → Type 0
WritesBy writes [] old rest sent new = (rest ≡ []) × (sent ≡ true) × (new ≡ old)
WritesBy {K} writes (Took n ∷ later) old rest sent new =
    (middle : K) × (0 < n) × (n ≤ length rest) × writes old rest (Took n) middle × WritesBy writes later middle (drop n rest) sent new
WritesBy writes (Failed ∷ later) old rest sent new =
    (later ≡ []) × (0 < length rest) × (sent ≡ false) × writes old rest Failed new

-- the same with some answers
abbrev pub WritesRest : {K : Type 0} → (K → List ℕ → WriteAnswer → K → Type 0) → K → List ℕ → Bool → K → Type 0
WritesRest writes old rest sent new = (answers : List WriteAnswer) × WritesBy writes answers old rest sent new
