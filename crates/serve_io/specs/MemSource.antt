-- What a read does to a source in memory.
use Rattle.std.specs.Prelude.{◌≡◌, ℕ, true, false, List, length, min}
use Rattle.serve_io.specs.declared.calls.Calls.{Calls}
use Rattle.serve_io.specs.declared.source.ReadAnswer.{ReadAnswer}
use Rattle.serve_io.specs.declared.source.ReadAnswer.TheVariants.{Got, End, Failed}
use Rattle.serve_io.specs.Calls.{fails_next, calls_after}

-- the call is one that doesn't fail, and gave as many bytes as are left, as one call gives and as the room takes, or none is left;
-- or it is one that fails; it was counted, and one call gives as many as before
abbrev pub MemReads : Calls → ℕ → ℕ → List ℕ → ReadAnswer → Calls → ℕ → Type 0
MemReads old left most room (Got n) new now =
    (fails_next old ≡ false) × (n ≡ min (min left most) (length room)) × (new ≡ calls_after old false) × (now ≡ most)
MemReads old left most room End new now =
    (fails_next old ≡ false) × (left ≡ 0) × (new ≡ calls_after old false) × (now ≡ most)
MemReads old left most room Failed new now =
    (fails_next old ≡ true) × (new ≡ calls_after old true) × (now ≡ most)
