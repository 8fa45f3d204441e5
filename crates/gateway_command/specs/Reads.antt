-- What following the polls of an input leaves.
use Rattle.std.specs.Prelude.{◌≡◌, ℕ, ◌<◌, ◌≤◌, List, length, Option, Result, Ok, Err}
use Rattle.std.specs.Io.KnownBytes.{Consumes}
use Rattle.serve_io.specs.Causes.{Rose}
use Rattle.http_session.specs.Session.{IsAll}
use Rattle.gateway_pick.specs.Gateway.{View}
use Rattle.gateway_command.specs.Lines.{HasRead, RefusesLine, FollowsLine}
use Rattle.gateway_command.specs.declared.input.Unread.{Unread}
use Rattle.gateway_command.specs.declared.input.Unread.TheVariants.{Refused, Fault, TooLong, Memory}

-- no input of so many bytes is followed
abbrev pub most_read : ℕ
most_read = 4294967295

-- the input was read to its end, and a gateway that followed all its lines knows this
pub record HasFollowed (left : Option (List ℕ)) (bytes : List ℕ) (view : View) : Type 0 where
  pub before : View
  pub last : List ℕ
  pub read : HasRead bytes before last
  pub end : FollowsLine before last view
  pub all : IsAll left bytes
  pub short : length bytes < most_read

-- all lines that are ended in these bytes were followed
abbrev pub IsUnended : List ℕ → Type 0
IsUnended bytes = (view : View) × (line : List ℕ) × HasRead bytes view line

abbrev pub Reads : Option (List ℕ) → Option (List ℕ) → ℕ → ℕ → Result View Unread → Type 0
Reads old new before now (Ok view) = (bytes : List ℕ) × Consumes old new bytes × HasFollowed old bytes view
Reads old new before now (Err Refused) = (bytes : List ℕ) × Consumes old new bytes × (length bytes ≤ most_read) × RefusesLine bytes (IsAll old bytes)
Reads old new before now (Err Fault) = Rose before now × (bytes : List ℕ) × Consumes old new bytes × (length bytes < most_read) × IsUnended bytes
Reads old new before now (Err TooLong) = (bytes : List ℕ) × Consumes old new bytes × (length bytes ≡ most_read) × IsUnended bytes
Reads old new before now (Err Memory) = (bytes : List ℕ) × Consumes old new bytes × (length bytes ≤ most_read)
