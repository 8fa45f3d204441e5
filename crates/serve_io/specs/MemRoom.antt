-- What a write does to a sink in memory.
use Rattle.std.specs.Prelude.{◌≡◌, ℕ, ◌<◌, ◌-◌, ◌⊎◌, true, false, List, ◌++◌, length, take, min}
use Rattle.serve_io.specs.declared.calls.Calls.{Calls}
use Rattle.serve_io.specs.declared.sink.WriteAnswer.{WriteAnswer}
use Rattle.serve_io.specs.declared.sink.WriteAnswer.TheVariants.{Took, Failed}
use Rattle.serve_io.specs.Calls.{fails_next, calls_after}

-- what a sink in memory holds: the bytes that it took, how many it takes in all and per call, and its calls
pub record MemRoom : Type 0 where
  pub bytes : List ℕ
  pub room : ℕ
  pub most : ℕ
  pub calls : Calls

-- the same, by its parts
abbrev pub room_of : List ℕ → ℕ → ℕ → Calls → MemRoom
room_of bytes room most calls = record { bytes = bytes; room = room; most = most; calls = calls }

-- how many bytes of a piece fit: no more than are left of the room, and no more than one call takes
abbrev pub fitting : MemRoom → List ℕ → ℕ
fitting old piece = min (min (old.room - length old.bytes) old.most) (length piece)

-- the bytes that fit were added, or the call is one that fails, or none fits; the call was counted, and its fault
abbrev pub MemWrites : MemRoom → List ℕ → WriteAnswer → MemRoom → Type 0
MemWrites old piece (Took n) new =
    (fails_next old.calls ≡ false) × (0 < n) × (n ≡ fitting old piece)
    × (new ≡ room_of (old.bytes ++ take n piece) old.room old.most (calls_after old.calls false))
MemWrites old piece Failed new =
    ((fails_next old.calls ≡ true) ⊎ (fitting old piece ≡ 0))
    × (new ≡ room_of old.bytes old.room old.most (calls_after old.calls true))
