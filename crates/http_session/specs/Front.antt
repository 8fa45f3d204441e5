-- What the code answers of the bytes at the front.
use Rattle.std.specs.Prelude.{ℕ, ◌+◌, ◌<◌, ◌≤◌, List, ◌++◌, length, drop, slice_range, ⊤}
use Rattle.httparse.specs.Spans.{span_bytes}
use Rattle.http_session.specs.declared.front.Next.{Next}
use Rattle.http_session.specs.declared.front.Next.TheVariants.{Whole, Bad, Clean, Cut, Awaits as AwaitsBytes}
use Rattle.http_session.specs.declared.front.Found.{Found}
use Rattle.http_session.specs.declared.message.Asked.{Asked}
use Rattle.http_session.specs.declared.message.Request.{Request}
use Rattle.http_session.specs.Head.{IsHeadIn}
use Rattle.http_session.specs.Stream.{Front, whole, bad, clean, cut, IsFront, IsFrontOfBlock}

-- the request that was found
abbrev pub request_at : List ℕ → Found → Request
request_at bytes found = record {
  method = span_bytes (span_bytes bytes found.head) found.read.method;
  target = span_bytes (span_bytes bytes found.head) found.read.target;
  body = slice_range bytes found.head.end found.end;
}

-- the same, with whether it asks for close
abbrev pub asked_at : List ℕ → Found → Asked
asked_at bytes found = record { request = request_at bytes found; closes = found.read.closes }

-- what the answer means
abbrev pub front_of : List ℕ → Next → Front
front_of bytes (Whole found) = whole (asked_at bytes found) (drop found.end bytes)
front_of bytes (Bad fault) = bad fault
front_of bytes Clean = clean
front_of bytes Cut = cut
front_of bytes (AwaitsBytes n) = cut

-- the parts of a request that was found lie in the bytes
pub record IsFoundIn (bytes : List ℕ) (found : Found) : Type 0 where
  pub some : found.head.start < found.head.end
  pub parts : IsHeadIn (span_bytes bytes found.head) found.read
  pub body : found.head.end ≤ found.end
  pub end : found.end ≤ length bytes

-- what was found lies in the bytes
abbrev pub IsNextIn : List ℕ → Next → Type 0
IsNextIn bytes (Whole found) = IsFoundIn bytes found
IsNextIn bytes (Bad fault) = ⊤
IsNextIn bytes Clean = ⊤
IsNextIn bytes Cut = ⊤
IsNextIn bytes (AwaitsBytes n) = ⊤

-- more bytes are needed
abbrev pub OnUnfinished : Next → Type 0 → Type 0
OnUnfinished (Whole found) P = ⊤
OnUnfinished (Bad fault) P = ⊤
OnUnfinished Clean P = P
OnUnfinished Cut P = P
OnUnfinished (AwaitsBytes n) P = P

-- so many bytes are missing, fit in a session's room, and until they are there the request stays cut
pub record IsAwaiting (bytes : List ℕ) (n : ℕ) : Type 0 where
  pub missing : length bytes < n
  pub fits : n ≤ 73728
  pub cuts : (more : List ℕ) → length bytes + length more < n → IsFront (bytes ++ more) cut

-- where a body is not whole, this is known
abbrev pub Awaits : List ℕ → Next → Type 0
Awaits bytes (Whole found) = ⊤
Awaits bytes (Bad fault) = ⊤
Awaits bytes Clean = ⊤
Awaits bytes Cut = ⊤
Awaits bytes (AwaitsBytes n) = IsAwaiting bytes n

-- the same behind a head that ends at `end`, of `have` bytes
pub record IsAwaitingBody (head : List ℕ) (end have n : ℕ) : Type 0 where
  pub missing : have < n
  pub fits : n ≤ 73728
  pub cuts : (after : List ℕ) → end + length after < n → IsFrontOfBlock head after cut

-- the same behind a head
abbrev pub AwaitsBody : List ℕ → ℕ → ℕ → Next → Type 0
AwaitsBody head end have (Whole found) = ⊤
AwaitsBody head end have (Bad fault) = ⊤
AwaitsBody head end have Clean = ⊤
AwaitsBody head end have Cut = ⊤
AwaitsBody head end have (AwaitsBytes n) = IsAwaitingBody head end have n
