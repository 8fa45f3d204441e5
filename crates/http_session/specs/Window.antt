-- What filling the window does.
use Rattle.std.specs.Prelude.{◌≡◌, ℕ, ◌<◌, ◌≤◌, List, ◌++◌, length, Option}
use Rattle.std.specs.Io.KnownBytes.{Consumes, Keeps, IsAtEnd}
use Rattle.serve_io.specs.declared.source.ReadAnswer.{ReadAnswer}
use Rattle.serve_io.specs.declared.source.ReadAnswer.TheVariants.{Got, End, Failed}

-- the next bytes were taken and stand behind those that were held, or none were
abbrev pub Fills : ℕ → Option (List ℕ) → Option (List ℕ) → List ℕ → List ℕ → ReadAnswer → Type 0
Fills most left_old left_new held_old held_new (Got n) =
    (chunk : List ℕ) × (length chunk ≡ n) × (0 < n) × (n ≤ most) × (held_new ≡ held_old ++ chunk) × Consumes left_old left_new chunk
Fills most left_old left_new held_old held_new End = (held_new ≡ held_old) × IsAtEnd left_old × Keeps left_old left_new
Fills most left_old left_new held_old held_new Failed = (held_new ≡ held_old) × Keeps left_old left_new

-- how many bytes a read gave
abbrev pub got : ReadAnswer → ℕ
got (Got n) = n
got End = 0
got Failed = 0
