-- What the making of a stream adds to it.
use Rattle.std.specs.Prelude.{◌≡◌, ℕ, ◌+◌, List, ◌++◌, length}
use Rattle.request_drill.specs.declared.stream.Stream.{Stream}
use Rattle.request_drill.specs.declared.stream.Part.{Part}
use Rattle.request_drill.specs.declared.stream.Part.TheVariants.{Creations, Reports, Removals}
use Rattle.request_drill.specs.Generated.{Generated, bytes_of, creation, report, removal}

-- these requests were added
pub record Adds (old new : Stream) (requests : List Generated) : Type 0 where
  pub bytes : new.bytes.items ≡ old.bytes.items ++ bytes_of requests
  pub count : new.requests ≡ old.requests + length requests

-- the requests of a part at one place
abbrev pub part : Part → ℕ → ℕ → List Generated
part Creations = creation
part Reports = report
part Removals = removal
