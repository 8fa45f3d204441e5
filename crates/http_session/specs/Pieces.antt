-- How a session hands its replies to the sink: each as its head, and after that its body.
use Rattle.std.specs.Prelude.{◌≡◌, ℕ, ◌<◌, ◌⊎◌, Bool, true, false, List, [], ◌∷◌, length, take, Option}
use Rattle.serve_io.specs.declared.sink.WriteAnswer.{WriteAnswer}
use Rattle.serve_io.specs.Causes.{Rose}
use Rattle.serve_io.specs.Whole.{WritesRest}
use Rattle.http_session.specs.declared.message.Allow.{Allow}
use Rattle.http_session.specs.declared.message.Allow.TheVariants as allow
use Rattle.http_session.specs.declared.message.Request.{Request}
use Rattle.http_session.specs.declared.message.Reply.{Reply}
use Rattle.http_session.specs.declared.report.ClockMode.{ClockMode}
use Rattle.http_session.specs.declared.report.HeadFault.{HeadFault}
use Rattle.http_session.specs.declared.report.SessionEnd.{SessionEnd}
use Rattle.http_session.specs.declared.report.SessionEnd.TheVariants.{Bad, WriteFault}
use Rattle.http_session.specs.Reply.{head_bytes, reply_head, reply_body, fault_code, fault_body, fault_bytes}
use Rattle.http_session.specs.Session.{SessionState, state_of, Answered, CutsReply, Finishes}
use Rattle.http_session.specs.declared.stream.StreamEnd.TheVariants as stream
use Rattle.http_session.specs.Stream.{IsStream}

-- the head and the body of a reply
pub record Pieces : Type 0 where
  pub head : List ℕ
  pub body : List ℕ

-- those of the reply to a request: the body is empty where the method is HEAD
abbrev pub reply_pieces : Bool → List ℕ → Reply → Pieces
reply_pieces closes method reply = record { head = reply_head closes reply; body = reply_body method reply }

-- those of the refusal of a head
abbrev pub fault_pieces : HeadFault → Pieces
fault_pieces fault = record { head = head_bytes true (fault_code fault) allow.None (length (fault_body fault)); body = fault_body fault }

-- the whole head was written, and then the body, whole or cut; or the head was cut, and nothing was written behind it
abbrev pub WritesPieces : {K : Type 0} → (K → List ℕ → WriteAnswer → K → Type 0) → K → Pieces → Bool → K → Type 0
WritesPieces {K} writes old pieces sent new =
    ((middle : K) × WritesRest writes old pieces.head true middle × WritesRest writes middle pieces.body sent new)
    ⊎ (WritesRest writes old pieces.head false new × (sent ≡ false))

-- a handler beside the sink that its replies go to, and whether the last of them was written whole
pub record Writer (H K : Type 0) : Type 0 where
  pub handler : H
  pub sink : K
  pub whole : Bool

-- the same, by its parts
abbrev pub writer_of : {H K : Type 0} → H → K → Bool → Writer H K
writer_of handler sink whole = record { handler = handler; sink = sink; whole = whole }

-- the handler answered, and its reply was written in its pieces, whole or cut
abbrev pub AsksInPieces : {H K : Type 0} → (H → Option ℕ → Request → Reply → H → Type 0) → (K → List ℕ → WriteAnswer → K → Type 0)
    → Writer H K → Option ℕ → Request → Reply → Writer H K → Type 0
AsksInPieces asks writes old now request reply new =
    asks old.handler now request reply new.handler
    × ((closes : Bool) × WritesPieces writes old.sink (reply_pieces closes request.method reply) new.whole new.sink)

-- out of memory for a request, and nothing was written
abbrev pub CutsInPieces : {H K : Type 0} → (H → Option ℕ → Request → H → Type 0) → Writer H K → Option ℕ → Request → Writer H K → Type 0
CutsInPieces asks_cut old now request new = asks_cut old.handler now request new.handler × (new.sink ≡ old.sink) × (new.whole ≡ true)

-- the handler's own work began where its reply was written whole, and wrote nothing
abbrev pub WorksInPieces : {H K : Type 0} → (H → H → Type 0) → Writer H K → Writer H K → Type 0
WorksInPieces after old new =
    (old.whole ≡ true) × after old.handler new.handler × (new.sink ≡ old.sink) × (new.whole ≡ true)

-- the state of a session, with its sink
abbrev pub with_sink : {H K : Type 0} → SessionState H → K → Bool → SessionState (Writer H K)
with_sink state sink whole =
    state_of (writer_of state.handler sink whole) state.left state.reads_failed state.taken state.writes_failed state.moments

-- a proper prefix of the refusal of a head was written, in its pieces, behind the replies to all requests
abbrev pub CutsRefusalInPieces : {H K : Type 0} → (H → Option ℕ → Request → Reply → H → Type 0) → (H → H → Type 0)
    → (K → List ℕ → WriteAnswer → K → Type 0) → ClockMode → SessionState (Writer H K) → SessionState H → K → ℕ → Type 0
CutsRefusalInPieces {H} {K} asks after writes mode old new sink answered =
    (fault : HeadFault) × (last : K) × WritesPieces writes last (fault_pieces fault) false sink
    × (sent : ℕ) × (sent < length (fault_bytes fault))
    × Answered (AsksInPieces asks writes) (WorksInPieces after) mode old (with_sink new last true) answered
    (take sent (fault_bytes fault)) (λ bytes asked. IsStream bytes asked (stream.Bad fault))

-- a session finishes as `Finishes` says, where from its old value to its new one its sink went by the replies to those requests
-- alone, each written in its pieces, and a refusal behind them
abbrev pub FinishesInPieces : {H K : Type 0} → (H → Option ℕ → Request → Reply → H → Type 0) → (H → Option ℕ → Request → H → Type 0)
    → (H → H → Type 0) → (H → H → Type 0) → (K → List ℕ → WriteAnswer → K → Type 0) → ClockMode → SessionState (Writer H K)
    → SessionState H → K → ℕ → SessionEnd → Type 0
FinishesInPieces {H} {K} asks asks_cut after after_cut writes mode old new sink answered (Bad fault) =
    (last : K) × WritesPieces writes last (fault_pieces fault) true sink
    × Finishes (AsksInPieces asks writes) (CutsInPieces asks_cut) (WorksInPieces after) (WorksInPieces after_cut) mode
    old (with_sink new last true) answered (Bad fault)
FinishesInPieces asks asks_cut after after_cut writes mode old new sink answered WriteFault =
    Rose old.writes_failed new.writes_failed
    × (CutsReply (AsksInPieces asks writes) (WorksInPieces after) mode old (with_sink new sink false) answered
    ⊎ CutsRefusalInPieces asks after writes mode old new sink answered)
FinishesInPieces asks asks_cut after after_cut writes mode old new sink answered end =
    Finishes (AsksInPieces asks writes) (CutsInPieces asks_cut) (WorksInPieces after) (WorksInPieces after_cut) mode
    old (with_sink new sink true) answered end

-- the pieces of some reply: the head tells the length of its body, which follows or is left out
abbrev pub IsReplyInPieces : Pieces → Type 0
IsReplyInPieces pieces =
    (closes : Bool) × (code : ℕ) × (allow : Allow) × (n : ℕ)
    × (pieces.head ≡ head_bytes closes code allow n) × ((pieces.body ≡ []) ⊎ (length pieces.body ≡ n))

-- some replies were written, one after another and each whole
abbrev pub WritesReplies : {K : Type 0} → (K → List ℕ → WriteAnswer → K → Type 0) → K → List Pieces → K → Type 0
WritesReplies writes old [] new = new ≡ old
WritesReplies {K} writes old (pieces ∷ later) new =
    (middle : K) × IsReplyInPieces pieces × WritesPieces writes old pieces true middle × WritesReplies writes middle later new

-- a sink went from its old value to its new one by so many replies, each whole; then where a head was refused by the refusal,
-- and where a write failed by one more reply, which was cut
abbrev pub HandsOver : {K : Type 0} → (K → List ℕ → WriteAnswer → K → Type 0) → K → K → ℕ → SessionEnd → Type 0
HandsOver {K} writes old new answered (Bad fault) =
    (replies : List Pieces) × (length replies ≡ answered) × (middle : K) × WritesReplies writes old replies middle
    × WritesPieces writes middle (fault_pieces fault) true new
HandsOver {K} writes old new answered WriteFault =
    (replies : List Pieces) × (length replies ≡ answered) × (middle : K) × WritesReplies writes old replies middle
    × ((cut : Pieces) × IsReplyInPieces cut × WritesPieces writes middle cut false new)
HandsOver writes old new answered end =
    (replies : List Pieces) × (length replies ≡ answered) × WritesReplies writes old replies new
