-- What happens with one request.
use Rattle.std.specs.Prelude.{◌≡◌, ℕ, ◌⊎◌, Bool, true, false, List, Option}
use Rattle.serve_io.specs.Whole.{Sends}
use Rattle.http_session.specs.declared.report.ClockMode.{ClockMode}
use Rattle.http_session.specs.declared.message.Asked.{Asked}
use Rattle.http_session.specs.declared.message.Request.{Request}
use Rattle.http_session.specs.declared.message.Reply.{Reply}
use Rattle.http_session.specs.declared.answering.Outcome.{Outcome}
use Rattle.http_session.specs.declared.answering.Outcome.TheVariants.{Sent, Failed, Memory}
use Rattle.http_session.specs.Reply.{reply_bytes}
use Rattle.http_session.specs.Session.{TakesMoment}

-- the handler answered, at some moment
pub record Asks {H : Type 0} (asks : H → Option ℕ → Request → Reply → H → Type 0) (mode : ClockMode) (request : Request)
    (old new : H) (moments_old moments_new : Option (List ℕ)) (now : Option ℕ) (reply : Reply) : Type 0 where
  pub moment : TakesMoment mode moments_old now moments_new
  pub answered : asks old now request reply new

-- out of memory, before the handler was asked or while it worked
abbrev pub AsksCut : {H : Type 0} → (H → Option ℕ → Request → H → Type 0) → ClockMode → Request → H → H → Option (List ℕ) → Option (List ℕ) → Type 0
AsksCut asks_cut mode request old new moments_old moments_new =
    ((new ≡ old) × (moments_new ≡ moments_old))
    ⊎ ((now : Option ℕ) × TakesMoment mode moments_old now moments_new × asks_cut old now request new)

-- the handler answered, and its reply was written whole or cut short
abbrev pub RepliesTo : {H : Type 0} → (H → Option ℕ → Request → Reply → H → Type 0) → ClockMode → Asked → H → H
    → Option (List ℕ) → Option (List ℕ) → Option (List ℕ) → Option (List ℕ) → ℕ → ℕ → Bool → Type 0
RepliesTo asks mode asked old new moments_old moments_new taken_old taken_new failed_old failed_new sent =
    (now : Option ℕ) × (reply : Reply) × Asks asks mode asked.request old new moments_old moments_new now reply
    × Sends taken_old taken_new failed_old failed_new (reply_bytes asked reply) sent

-- no write failed
abbrev pub kept_whole : Outcome → Bool
kept_whole Sent = true
kept_whole Failed = false
kept_whole Memory = true

-- what came of a request
abbrev pub AnswersAs : {H : Type 0} → (H → Option ℕ → Request → Reply → H → Type 0) → (H → Option ℕ → Request → H → Type 0)
    → ClockMode → Asked → H → H → Option (List ℕ) → Option (List ℕ) → Option (List ℕ) → Option (List ℕ) → ℕ → ℕ → Outcome → Type 0
AnswersAs asks asks_cut mode asked old new moments_old moments_new taken_old taken_new failed_old failed_new Sent =
    RepliesTo asks mode asked old new moments_old moments_new taken_old taken_new failed_old failed_new true
AnswersAs asks asks_cut mode asked old new moments_old moments_new taken_old taken_new failed_old failed_new Failed =
    RepliesTo asks mode asked old new moments_old moments_new taken_old taken_new failed_old failed_new false
AnswersAs asks asks_cut mode asked old new moments_old moments_new taken_old taken_new failed_old failed_new Memory =
    AsksCut asks_cut mode asked.request old new moments_old moments_new × (taken_new ≡ taken_old) × (failed_new ≡ failed_old)
