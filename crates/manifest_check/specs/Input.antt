-- What reading into a room leaves, by how it ended.
use Rattle.std.specs.Prelude.{ℕ, ◌<◌, List, length, take, Option}
use Rattle.std.specs.Io.KnownBytes.{Consumes}
use Rattle.serve_io.specs.Causes.{Rose}
use Rattle.http_session.specs.Session.{IsAll}
use Rattle.manifest_check.specs.declared.input.Reading.{Reading}
use Rattle.manifest_check.specs.declared.input.Reading.TheVariants.{End, Full, Failed}

-- the room begins with all that there was, or is full, or a read failed behind its first bytes
abbrev pub Reads : Option (List ℕ) → Option (List ℕ) → ℕ → ℕ → List ℕ → Reading → Type 0
Reads left_old left_new failed_old failed_new room (End n) =
    (n < length room) × Consumes left_old left_new (take n room) × IsAll left_old (take n room)
Reads left_old left_new failed_old failed_new room Full = Consumes left_old left_new room
Reads left_old left_new failed_old failed_new room Failed =
    Rose failed_old failed_new × (n : ℕ) × (n < length room) × Consumes left_old left_new (take n room)
