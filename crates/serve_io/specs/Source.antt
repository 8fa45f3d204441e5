-- What a read does to the bytes that a source has left, where it tells them.
use Rattle.std.specs.Prelude.{ℕ, ◌<◌, ◌≤◌, List, length, take, Option}
use Rattle.std.specs.Io.KnownBytes.{Consumes, Keeps, IsAtEnd}
use Rattle.serve_io.specs.declared.source.ReadAnswer.{ReadAnswer}
use Rattle.serve_io.specs.declared.source.ReadAnswer.TheVariants.{Got, End, Failed}

-- the room begins with the next n bytes, or no byte is left, or the read failed and took none
abbrev pub ReadTakes : Option (List ℕ) → Option (List ℕ) → List ℕ → ReadAnswer → Type 0
ReadTakes old new room (Got n) = (0 < n) × (n ≤ length room) × Consumes old new (take n room)
ReadTakes old new room End = IsAtEnd old × Keeps old new
ReadTakes old new room Failed = Keeps old new
