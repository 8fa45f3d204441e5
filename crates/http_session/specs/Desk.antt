-- What one turn of a session does.
use Rattle.std.specs.Prelude.{◌≡◌, ℕ, ◌+◌, ◌<◌, ◌≤◌, true, List, [], ◌++◌, length, Option, Some, None}
use Rattle.std.specs.Io.KnownBytes.{Consumes}
use Rattle.serve_io.specs.Causes.{Rose}
use Rattle.serve_io.specs.declared.sink.WriteAnswer.{WriteAnswer}
use Rattle.http_session.specs.declared.desk.More.{More}
use Rattle.http_session.specs.declared.desk.More.TheVariants.{Bytes, End, Failed, TooLong}
use Rattle.http_session.specs.declared.report.ClockMode.{ClockMode}
use Rattle.http_session.specs.declared.report.SessionEnd.{SessionEnd}
use Rattle.http_session.specs.declared.report.SessionEnd.TheVariants as ends
use Rattle.http_session.specs.declared.message.Request.{Request}
use Rattle.http_session.specs.declared.message.Reply.{Reply}
use Rattle.http_session.specs.Stream.{Reads}
use Rattle.http_session.specs.Session.{Exchange, asked_in, SessionState, Served, IsAll, Finishes}
use Rattle.http_session.specs.Pieces.{Writer, AsksInPieces, WorksInPieces, with_sink, FinishesInPieces}

-- so far all that was taken is requests that were answered, and what is held
pub record Progress {H : Type 0} (asks : H → Option ℕ → Request → Reply → H → Type 0) (after : H → H → Type 0) (mode : ClockMode)
    (old new : SessionState H) (held : List ℕ) (total replies : ℕ) : Type 0 where
  pub bytes : List ℕ
  pub done : List Exchange
  pub served : Served asks after mode old new bytes done new.handler [] []
  pub reads : Reads bytes (asked_in done) held
  pub room : length held ≤ 73728
  pub count : total ≡ length bytes
  pub answered : replies ≡ length done

-- the session goes on from here, or has ended
abbrev pub Continues : {H : Type 0} → (H → Option ℕ → Request → Reply → H → Type 0) → (H → Option ℕ → Request → H → Type 0)
    → (H → H → Type 0) → (H → H → Type 0) → ClockMode → SessionState H → SessionState H → List ℕ → ℕ → ℕ → Option SessionEnd → Type 0
Continues asks asks_cut after after_cut mode start now held total answered None = Progress asks after mode start now held total answered
Continues asks asks_cut after after_cut mode start now held total answered (Some end) =
    Finishes asks asks_cut after after_cut mode start now answered end

-- the same of a handler beside its sink, whose replies are written in their pieces
abbrev pub ContinuesInPieces : {H K : Type 0} → (H → Option ℕ → Request → Reply → H → Type 0) → (H → Option ℕ → Request → H → Type 0)
    → (H → H → Type 0) → (H → H → Type 0) → (K → List ℕ → WriteAnswer → K → Type 0) → ClockMode → SessionState (Writer H K)
    → SessionState H → K → List ℕ → ℕ → ℕ → Option SessionEnd → Type 0
ContinuesInPieces asks asks_cut after after_cut writes mode start now sink held total answered None =
    Progress (AsksInPieces asks writes) (WorksInPieces after) mode start (with_sink now sink true) held total answered
ContinuesInPieces asks asks_cut after after_cut writes mode start now sink held total answered (Some end) =
    FinishesInPieces asks asks_cut after after_cut writes mode start now sink answered end

-- some bytes were taken, and stand behind those that were held
pub record Takes (left_old left_new : Option (List ℕ)) (failed_old failed_new : ℕ) (held_old held_new : List ℕ) (total_old total_new : ℕ) : Type 0 where
  pub chunk : List ℕ
  pub held : held_new ≡ held_old ++ chunk
  pub total : total_new ≡ total_old + length chunk
  pub consumed : Consumes left_old left_new chunk
  pub later : failed_old ≤ failed_new

-- why reading stopped behind these bytes
abbrev pub StopsAs : Option (List ℕ) → ℕ → ℕ → ℕ → List ℕ → More → Type 0
StopsAs left_old failed_old failed_new total_new chunk Bytes = 0 < length chunk
StopsAs left_old failed_old failed_new total_new chunk End = IsAll left_old chunk × (total_new < 4294967295)
StopsAs left_old failed_old failed_new total_new chunk Failed = Rose failed_old failed_new × (total_new < 4294967295)
StopsAs left_old failed_old failed_new total_new chunk TooLong = total_new ≡ 4294967295

-- some bytes were read behind those that were held, perhaps none
pub record Refills (left_old left_new : Option (List ℕ)) (failed_old failed_new : ℕ) (held_old held_new : List ℕ) (total_old total_new : ℕ)
    (more : More) : Type 0 where
  pub takes : Takes left_old left_new failed_old failed_new held_old held_new total_old total_new
  pub stops : StopsAs left_old failed_old failed_new total_new takes.chunk more

-- what reading on means for the session, where the bytes would end so
abbrev pub end_after : More → SessionEnd → Option SessionEnd
end_after Bytes at_end = None
end_after End at_end = Some at_end
end_after Failed at_end = Some ends.ReadFault
end_after TooLong at_end = Some ends.TooLong
