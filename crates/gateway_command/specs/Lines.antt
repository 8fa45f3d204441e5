-- The lines of an input, and what a gateway that follows them knows.
use Rattle.std.specs.Prelude.{◌≡◌, ◌≢◌, ◌⊎◌, ℕ, ◌<◌, ◌≤◌, Bool, List, [], ◌∷◌, ◌++◌, length, IsTrue, not, nat_eq, nat_le}
use Rattle.std.specs.List.{flat_map, list_all}
use Rattle.gateway_pick.specs.Gateway.{View, Follows}

-- ---- lines

-- no line has more bytes
abbrev pub most_bytes : ℕ
most_bytes = 8388608

-- a line feed
abbrev pub feed : ℕ
feed = 10

-- no byte of the line is a line feed
abbrev pub is_line : List ℕ → Bool
is_line line = list_all (λ byte. not (nat_eq byte feed)) line

-- the bytes of some lines, with a line feed behind each
abbrev pub lines_bytes : List (List ℕ) → List ℕ
lines_bytes lines = flat_map (λ line. line ++ feed ∷ []) lines

-- ---- following

-- a gateway that knows nothing
abbrev pub new_gateway : View
new_gateway = record { tables = []; version = 0 }

-- the poll of a line is followed, or the line is empty and passed over
abbrev pub FollowsLine : View → List ℕ → View → Type 0
FollowsLine old line new = ((line ≡ []) × (new ≡ old)) ⊎ ((line ≢ []) × Follows line old new)

-- the polls of some lines are followed, in their order
abbrev pub FollowsAll : View → List (List ℕ) → View → Type 0
FollowsAll old [] new = new ≡ old
FollowsAll old (line ∷ lines) new = (middle : View) × FollowsLine old line middle × FollowsAll middle lines new

-- the line isn't empty, and its poll isn't followed
pub record IsRefused (line : List ℕ) (view : View) : Type 0 where
  pub some : line ≢ []
  pub refused : (new : View) → ¬ (Follows line view new)

-- ---- an input that was read so far

-- the bytes are lines that were followed by a new gateway, and behind them a line that isn't ended; no line is too long
pub record HasRead (bytes : List ℕ) (view : View) (line : List ℕ) : Type 0 where
  pub lines : List (List ℕ)
  pub is : bytes ≡ lines_bytes lines ++ line
  pub whole : IsTrue (list_all is_line lines)
  pub unended : IsTrue (is_line line)
  pub few : IsTrue (list_all (λ l. nat_le (length l) most_bytes) lines)
  pub short : length line ≤ most_bytes
  pub follows : FollowsAll new_gateway lines view

-- Among the lines of the bytes is one that isn't followed behind those before it, or has too many bytes. Where it is followed by none, `IsLast` holds.
pub record RefusesLine (bytes : List ℕ) (IsLast : Type 0) : Type 0 where
  pub lines : List (List ℕ)
  pub line : List ℕ
  pub rest : List ℕ
  pub view : View
  pub is : bytes ≡ lines_bytes lines ++ line ++ rest
  pub whole : IsTrue (list_all is_line lines)
  pub unended : IsTrue (is_line line)
  pub few : IsTrue (list_all (λ l. nat_le (length l) most_bytes) lines)
  pub follows : FollowsAll new_gateway lines view
  pub refused : (most_bytes < length line) ⊎ ((((later : List ℕ) × (rest ≡ feed ∷ later)) ⊎ ((rest ≡ []) × IsLast)) × IsRefused line view)

-- such a line is among the bytes, ended or too long
abbrev pub IsRefusedIn : List ℕ → Type 0
IsRefusedIn bytes = RefusesLine bytes ⊥
