-- The requests of a whole list of bytes, and its end.
use Rattle.std.specs.Prelude.{◌≡◌, ℕ, ◌≤◌, ◌==◌, nat_lt, nat_le, Bool, false, List, [], ◌∷◌, length, take, drop, map, count_by, slice_range, Option, Some, None, Result, Ok, Err, if◌then◌else◌, MatchOption, MatchBool, ◌⊎◌}
use Rattle.httparse.specs.Ascii.{line_feed}
use Rattle.httparse.specs.Grammar.{RequestHead, ReadsRequest}
use Rattle.httparse.specs.Spans.{name_and_value}
use Rattle.http_session.specs.declared.report.HeadFault.{HeadFault}
use Rattle.http_session.specs.declared.report.HeadFault.TheVariants.{Malformed, HeadTooLarge}
use Rattle.http_session.specs.declared.message.Asked.{Asked}
use Rattle.http_session.specs.declared.stream.StreamEnd.{StreamEnd}
use Rattle.http_session.specs.declared.stream.StreamEnd.TheVariants.{Clean, Closed, Cut, Bad}
use Rattle.http_session.specs.Block.{blank_len, head_at}
use Rattle.http_session.specs.Fields.{body_len, asks_close}

-- what stands at the front of the bytes: a whole request with the rest, a head that is refused,
-- nothing but empty lines, or a part of a request
pub data Front : Type 0 where
  whole : Asked → List ℕ → Front
  bad : HeadFault → Front
  clean cut : Front

-- the bytes are this head, of at most 64 fields
pub record IsHead (bytes : List ℕ) (head : RequestHead) : Type 0 where
  pub reads : ReadsRequest bytes head []
  pub room : length head.fields ≤ 64

-- the bytes are that head, or none
abbrev pub ParsesTo : List ℕ → Option RequestHead → Type 0
ParsesTo bytes None = (head : RequestHead) → ¬ (IsHead bytes head)
ParsesTo bytes (Some head) = IsHead bytes head

-- the names and the values of the fields
abbrev pub fields_of : RequestHead → List (List ℕ × List ℕ)
fields_of head = map name_and_value head.fields

-- the request asks for close
abbrev pub closes : RequestHead → Bool
closes head = asks_close head.minor (fields_of head)

-- the request of a head and a body
abbrev pub asked_of : RequestHead → List ℕ → Asked
asked_of head body =
    record { request = record { method = head.method; target = head.target; body = body }; closes = closes head }

-- a head, with what stands behind it, by the length of its body
abbrev pub with_body : RequestHead → List ℕ → Result ℕ HeadFault → Front
with_body head after (Err fault) = bad fault
with_body head after (Ok n) = if nat_le n (length after) then whole (asked_of head (take n after)) (drop n after) else cut

-- a block, by its head, with what stands behind it
abbrev pub with_head : Option RequestHead → List ℕ → Front
with_head None after = bad Malformed
with_head (Some head) after = with_body head after (body_len (fields_of head))

-- no block stands within the first 8,192 bytes
abbrev pub without_block : List ℕ → Front
without_block bytes =
    if nat_le 8192 (length bytes) then bad HeadTooLarge else if blank_len bytes == length bytes then clean else cut

-- a block, whose head has these bytes: with its first line and its empty one it has at most 66 lines
abbrev pub IsFrontOfBlock : List ℕ → List ℕ → Front → Type 0
IsFrontOfBlock head after front =
    MatchBool (nat_lt 66 (count_by (λ b. b == line_feed) head)) (front ≡ bad HeadTooLarge)
    ((parsed : Option RequestHead) × ParsesTo head parsed × (front ≡ with_head parsed after))

-- what stands at the front, by the first case that holds
abbrev pub IsFront : List ℕ → Front → Type 0
IsFront bytes front =
    MatchOption (head_at (take 8192 bytes)) (front ≡ without_block bytes)
    (λ place. IsFrontOfBlock (slice_range bytes place.0 place.1) (drop place.1 bytes) front)

-- the bytes have no whole request at their front, and end the stream so
abbrev pub EndsAs : List ℕ → StreamEnd → Type 0
EndsAs bytes Clean = IsFront bytes clean
EndsAs bytes Cut = IsFront bytes cut
EndsAs bytes (Bad fault) = IsFront bytes (bad fault)
EndsAs bytes Closed = ⊥

-- the bytes are these requests, one after another, and then end so; after one that asks for close nothing is looked at
abbrev pub IsStream : List ℕ → List Asked → StreamEnd → Type 0
IsStream bytes [] end = EndsAs bytes end
IsStream bytes (asked ∷ later) end =
    (rest : List ℕ) × IsFront bytes (whole asked rest)
    × MatchBool asked.closes ((later ≡ []) × (end ≡ Closed)) (IsStream rest later end)

-- the bytes are these whole requests, none of which asks for close, and then rest
abbrev pub Reads : List ℕ → List Asked → List ℕ → Type 0
Reads bytes [] rest = bytes ≡ rest
Reads bytes (asked ∷ later) rest =
    (middle : List ℕ) × IsFront bytes (whole asked middle) × (asked.closes ≡ false) × Reads middle later rest

-- the bytes begin with these whole requests, and then have rest
abbrev pub BeginsWith : List ℕ → List Asked → List ℕ → Type 0
BeginsWith bytes [] rest = bytes ≡ rest
BeginsWith bytes (asked ∷ later) rest = (middle : List ℕ) × IsFront bytes (whole asked middle) × BeginsWith middle later rest

-- the request behind those that were answered
abbrev pub IsNext : List ℕ → List Asked → Asked → Type 0
IsNext bytes answered asked = (rest : List ℕ) × (left : List ℕ) × Reads bytes answered rest × IsFront rest (whole asked left)

-- the bytes end with no whole request and no bad head
abbrev pub IsUnfinished : List ℕ → List Asked → Type 0
IsUnfinished bytes asked = IsStream bytes asked Clean ⊎ IsStream bytes asked Cut
