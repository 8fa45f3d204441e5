-- Replies that are written in their pieces.
use Rattle.std.proofs.Common.{◌≡◌, ℕ, List, [], ◌∷◌, ◌++◌, length, refl, true, false, Option, inl, inr, ap, sym, subst, ◌∙◌, arith, length-append}
use Rattle.std.specs.Prelude.{Bool, ◌⊎◌, codes, if◌then◌else◌}
use Rattle.std.specs.Str.{bytes_eq}
use Rattle.serve_io.specs.declared.sink.WriteAnswer.{WriteAnswer}
use Rattle.serve_io.specs.Whole.{Sends}
use Rattle.http_session.specs.declared.desk.More.{More}
use Rattle.http_session.specs.declared.desk.More.TheVariants.{Bytes, End, Failed, TooLong}
use Rattle.http_session.specs.declared.message.Allow.TheVariants as allow
use Rattle.http_session.specs.declared.message.Asked.{Asked}
use Rattle.http_session.specs.declared.message.Request.{Request}
use Rattle.http_session.specs.declared.message.Reply.{Reply}
use Rattle.http_session.specs.declared.report.ClockMode.{ClockMode}
use Rattle.http_session.specs.declared.report.SessionEnd.{SessionEnd}
use Rattle.http_session.specs.declared.report.SessionEnd.TheVariants as SE
use Rattle.http_session.specs.declared.report.SessionEnd.TheVariants.{Clean, Closed, Cut, Bad, ReadFault, WriteFault, Memory}
use Rattle.http_session.specs.Answering.{Asks, AsksCut, RepliesTo}
use Rattle.http_session.specs.Desk.{Continues, ContinuesInPieces, end_after}
use Rattle.http_session.specs.Pieces.{Pieces, reply_pieces, fault_pieces, WritesPieces, Writer, writer_of, AsksInPieces, CutsInPieces, WorksInPieces, with_sink, FinishesInPieces, IsReplyInPieces, WritesReplies, HandsOver}
use Rattle.http_session.specs.Reply.{reply_bytes, fault_code, fault_body}
use Rattle.http_session.specs.Session.{Exchange, SessionState, Run, Answered, Finishes}

-- the reply to a request was written
pub replies_in_pieces : {H K : Type 0} (asks : H → Option ℕ → Request → Reply → H → Type 0) (writes : K → List ℕ → WriteAnswer → K → Type 0)
    (mode : ClockMode) (asked : Asked) (h h' : H) (k k' : K) (m m' t t' : Option (List ℕ)) (wf wf' : ℕ) (sent : Bool) (reply : Reply)
    → (now : Option ℕ) × Asks asks mode asked.request h h' m m' now reply
    → Sends t t' wf wf' (reply_bytes asked reply) sent
    → WritesPieces writes k (reply_pieces asked.closes asked.request.method reply) sent k'
    → RepliesTo (AsksInPieces asks writes) mode asked (writer_of h k true) (writer_of h' k' sent) m m' t t' wf wf' sent
replies_in_pieces asks writes mode asked h h' k k' m m' t t' wf wf' sent reply a s p =
    (a.0, reply, record { moment = a.1.moment; answered = (a.1.answered, (asked.closes, p)) }, s)

-- memory was short for a request
pub cut_in_pieces : {H K : Type 0} (asks_cut : H → Option ℕ → Request → H → Type 0) (mode : ClockMode) (request : Request) (h h' : H) (k : K)
    (m m' : Option (List ℕ)) → AsksCut asks_cut mode request h h' m m'
    → AsksCut (CutsInPieces asks_cut) mode request (writer_of h k true) (writer_of h' k true) m m'
cut_in_pieces {H} {K} asks_cut mode request h h' k m m' a =
    let P : Type 0 = AsksCut (CutsInPieces asks_cut) mode request (writer_of h k true) (writer_of h' k true) m m' in
    elim a as (λ _. P) [
      | inl same ↦ inl (ap (λ (x : H). writer_of x k true) same.0, same.1)
      | inr cut ↦ inr (cut.0, cut.1, (cut.2, refl, refl))
    ]

-- reading on writes nothing
pub reads_in_pieces : {H K : Type 0} (asks : H → Option ℕ → Request → Reply → H → Type 0) (asks_cut : H → Option ℕ → Request → H → Type 0)
    (after : H → H → Type 0) (after_cut : H → H → Type 0) (writes : K → List ℕ → WriteAnswer → K → Type 0) (mode : ClockMode)
    (start : SessionState (Writer H K)) (now : SessionState H) (k : K) (held : List ℕ) (total answered : ℕ) (more : More) (at_end : SessionEnd)
    → (Finishes (AsksInPieces asks writes) (CutsInPieces asks_cut) (WorksInPieces after) (WorksInPieces after_cut) mode start (with_sink now k true) answered at_end
    → FinishesInPieces asks asks_cut after after_cut writes mode start now k answered at_end)
    → Continues (AsksInPieces asks writes) (CutsInPieces asks_cut) (WorksInPieces after) (WorksInPieces after_cut) mode
    start (with_sink now k true) held total answered (end_after more at_end)
    → ContinuesInPieces asks asks_cut after after_cut writes mode start now k held total answered (end_after more at_end)
reads_in_pieces asks asks_cut after after_cut writes mode start now k held total answered Bytes at_end same c = c
reads_in_pieces asks asks_cut after after_cut writes mode start now k held total answered End at_end same c = same c
reads_in_pieces asks asks_cut after after_cut writes mode start now k held total answered Failed at_end same c = c
reads_in_pieces asks asks_cut after after_cut writes mode start now k held total answered TooLong at_end same c = c

-- ---- the replies in order

-- the pieces of a reply to a request
reply_is : (closes : Bool) (method : List ℕ) (reply : Reply) → IsReplyInPieces (reply_pieces closes method reply)
reply_is closes method reply =
    let body : (head : Bool) → ((if head then [] else reply.body) ≡ []) ⊎ (length (if head then [] else reply.body) ≡ length reply.body)
    = λ head. elim head as (λ b. ((if b then [] else reply.body) ≡ []) ⊎ (length (if b then [] else reply.body) ≡ length reply.body))
    [ true ↦ inl refl | false ↦ inr refl ] in
    (closes, reply.code, reply.allow, length reply.body, refl, body (bytes_eq method (codes "HEAD")))

-- one more reply behind some
WritesReplies-push : {K : Type 0} (writes : K → List ℕ → WriteAnswer → K → Type 0) (old : K) (replies : List Pieces) (middle : K) (pieces : Pieces) (new : K)
    → WritesReplies writes old replies middle → IsReplyInPieces pieces → WritesPieces writes middle pieces true new
    → WritesReplies writes old (replies ++ pieces ∷ []) new
WritesReplies-push writes old [] middle pieces new e is w = (new, is, subst (λ k. WritesPieces writes k pieces true new) e w, refl)
WritesReplies-push writes old (first ∷ later) middle pieces new r is w =
    (r.0, r.1, r.2, WritesReplies-push writes r.0 later middle pieces new r.3 is w)

-- a reply that was written whole, and the work behind it
whole_reply : {H K : Type 0} (asks : H → Option ℕ → Request → Reply → H → Type 0) (after : H → H → Type 0)
    (writes : K → List ℕ → WriteAnswer → K → Type 0) (old middle new : Writer H K) (now : Option ℕ) (request : Request) (reply : Reply)
    → AsksInPieces asks writes old now request reply middle → WorksInPieces after middle new
    → (pieces : Pieces) × IsReplyInPieces pieces × WritesPieces writes old.sink pieces true new.sink
whole_reply {H} {K} asks after writes old middle new now request reply a f =
    let pieces : Pieces = reply_pieces a.1.0 request.method reply in
    let whole = subst (λ (b : Bool). WritesPieces writes old.sink pieces b middle.sink) f.0 a.1.1 in
    (pieces, reply_is a.1.0 request.method reply, subst (λ (k : K). WritesPieces writes old.sink pieces true k) (sym f.2) whole)

-- the replies of a run
run_replies : {H K : Type 0} (asks : H → Option ℕ → Request → Reply → H → Type 0) (after : H → H → Type 0)
    (writes : K → List ℕ → WriteAnswer → K → Type 0) (old : Writer H K) (done : List Exchange) (new : Writer H K)
    → Run (AsksInPieces asks writes) (WorksInPieces after) old done new
    → (replies : List Pieces) × (length replies ≡ length done) × WritesReplies writes old.sink replies new.sink
run_replies {H} {K} asks after writes old [] new e = ([], refl, ap (λ (w : Writer H K). w.sink) e)
run_replies asks after writes old (x ∷ later) new r =
    let first = whole_reply asks after writes old r.0 r.1 x.now x.asked.request x.reply r.2 r.3 in
    let rest = run_replies asks after writes r.1 later new r.4 in
    (first.0 ∷ rest.0, omega (arith, rest.1), (r.1.sink, first.1, first.2, rest.2))

-- the replies to the requests that were answered
answered_replies : {H K : Type 0} (asks : H → Option ℕ → Request → Reply → H → Type 0) (after : H → H → Type 0)
    (writes : K → List ℕ → WriteAnswer → K → Type 0) (mode : ClockMode) (old new : SessionState (Writer H K)) (answered : ℕ) (tail : List ℕ)
    (IsEnd : List ℕ → List Asked → Type 0)
    → Answered (AsksInPieces asks writes) (WorksInPieces after) mode old new answered tail IsEnd
    → (replies : List Pieces) × (length replies ≡ answered) × WritesReplies writes old.handler.sink replies new.handler.sink
answered_replies asks after writes mode old new answered tail IsEnd a =
    let q = run_replies asks after writes old.handler a.done new.handler a.served.run in
    (q.0, q.1 ∙ sym a.count, q.2)

-- what a session hands over to its sink
pub hands_over : {H K : Type 0} (asks : H → Option ℕ → Request → Reply → H → Type 0) (asks_cut : H → Option ℕ → Request → H → Type 0)
    (after : H → H → Type 0) (after_cut : H → H → Type 0) (writes : K → List ℕ → WriteAnswer → K → Type 0) (mode : ClockMode)
    (old : SessionState (Writer H K)) (new : SessionState H) (sink : K) (answered : ℕ) (end : SessionEnd)
    → FinishesInPieces asks asks_cut after after_cut writes mode old new sink answered end
    → HandsOver writes old.handler.sink sink answered end
hands_over asks asks_cut after after_cut writes mode old new sink answered Clean f =
    answered_replies asks after writes mode old (with_sink new sink true) answered _ _ f
hands_over asks asks_cut after after_cut writes mode old new sink answered Closed f =
    answered_replies asks after writes mode old (with_sink new sink true) answered _ _ f
hands_over asks asks_cut after after_cut writes mode old new sink answered Cut f =
    answered_replies asks after writes mode old (with_sink new sink true) answered _ _ f
hands_over asks asks_cut after after_cut writes mode old new sink answered ReadFault f =
    answered_replies asks after writes mode old (with_sink new sink true) answered _ _ f.1
hands_over asks asks_cut after after_cut writes mode old new sink answered SE.TooLong f =
    answered_replies asks after writes mode old (with_sink new sink true) answered _ _ f
hands_over asks asks_cut after after_cut writes mode old new sink answered (Bad fault) f =
    let q = answered_replies asks after writes mode old (with_sink new f.0 true) answered _ _ f.2 in
    (q.0, q.1, f.0, q.2, f.1)
hands_over asks asks_cut after after_cut writes mode old new sink answered WriteFault f =
    let P : Type 0 = HandsOver writes old.handler.sink sink answered WriteFault in
    elim f.1 as (λ _. P) [
      | inl c ↦
          let q = run_replies asks after writes old.handler c.done c.last c.served.run in (
            q.0,
            q.1 ∙ sym c.count,
            c.last.sink,
            q.2,
            (reply_pieces c.asked.1.0 c.exchange.asked.request.method c.exchange.reply, reply_is c.asked.1.0 c.exchange.asked.request.method c.exchange.reply, c.asked.1.1),
          )
      | inr c ↦
          let q = answered_replies asks after writes mode old (with_sink new c.1 true) answered _ _ c.5 in
          (q.0, q.1, c.1, q.2, (fault_pieces c.0, (true, fault_code c.0, allow.None, length (fault_body c.0), refl, inr refl), c.2))
    ]
hands_over {H} {K} asks asks_cut after after_cut writes mode old new sink answered Memory f =
    let P : Type 0 = HandsOver writes old.handler.sink sink answered Memory in
    elim f as (λ _. P) [
      | inl a ↦ answered_replies asks after writes mode old (with_sink new sink true) answered _ _ a
      | inr cut ↦ elim cut as (λ _. P) [
        | inl c ↦
            let q = run_replies asks after writes old.handler c.done c.last c.served.run in
            let last = whole_reply asks after_cut writes c.last c.middle (writer_of new.handler sink true) c.exchange.now c.exchange.asked.request c.exchange.reply c.asked c.cut in (
              q.0 ++ last.0 ∷ [],
              omega (arith, q.1, c.count, length-append q.0 (last.0 ∷ [])),
              WritesReplies-push writes old.handler.sink q.0 c.last.sink last.0 sink q.2 last.1 last.2,
            )
        | inr c ↦
            let q = run_replies asks after writes old.handler c.done c.last c.served.run in
            (q.0, q.1 ∙ sym c.count, subst (λ (k : K). WritesReplies writes old.handler.sink q.0 k) (sym c.cut.1) q.2)
      ]
    ]
