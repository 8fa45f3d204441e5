-- What a write does to the bytes that a sink took, where it tells them.
use Rattle.std.specs.Prelude.{◌≡◌, ℕ, ◌<◌, ◌≤◌, List, length, take, Option}
use Rattle.std.specs.Io.KnownBytes.{Appends, Keeps}
use Rattle.serve_io.specs.Causes.{one_more}
use Rattle.serve_io.specs.declared.sink.WriteAnswer.{WriteAnswer}
use Rattle.serve_io.specs.declared.sink.WriteAnswer.TheVariants.{Took, Failed}

-- the first n bytes were added, or the write failed and added none
abbrev pub WriteAdds : Option (List ℕ) → Option (List ℕ) → List ℕ → WriteAnswer → Type 0
WriteAdds old new piece (Took n) = (0 < n) × (n ≤ length piece) × Appends old new (take n piece)
WriteAdds old new piece Failed = Keeps old new

-- a writer of std took the first n bytes, or a fault was counted
abbrev pub WritesThrough : Option (List ℕ) → Option (List ℕ) → ℕ → ℕ → List ℕ → WriteAnswer → Type 0
WritesThrough old new before now piece (Took n) = Appends old new (take n piece) × (now ≡ before)
WritesThrough old new before now piece Failed = now ≡ one_more before
