-- What a call answered, and the outcome that is its reply.
use Rattle.std.proofs.Common.{◌≡◌, ℕ, List, Option, Some, None, Result, Ok, Err, refl, sym, ap, ◌∙◌}
use Rattle.answers.specs.declared.stop.Stop.{Stop}
use Rattle.answers.specs.declared.stop.Stop.TheVariants.{Refused, Memory}
use Rattle.answers.specs.Answers.{Comes}
use Rattle.json_tree.specs.declared.value.Json.{Json}
use Rattle.manifest_intake.specs.Bodies.{IsBody}
use Rattle.api_outcomes.specs.declared.outcome.Outcome.{Outcome}
use Rattle.api_outcomes.specs.declared.refusal.Refusal.{Refusal}
use Rattle.api_outcomes.specs.Outcomes.{Answer, outcome_of, IsReplyTo}
use Rattle.api_server.specs.Calls.{Due, plain, by_body, ReadsBody, ComesOfBody, ComesOfDue, AnswersDue}

-- a body that isn't read refuses what is due by it
pub unread : (bytes : List ℕ) (answer : Json → Answer) (stop : Stop Refusal) → ReadsBody bytes (Err stop) → ComesOfBody bytes answer (Err stop)
unread bytes answer (Refused refusal) (is, e) = (None, is, ap (λ (r : Refusal). refused r) (sym e))
  where
    refused : Refusal → Answer
    refused r = Err r
unread bytes answer Memory reads = tt

-- what is due by the value of a body comes of the body
pub of_value : (bytes : List ℕ) (answer : Json → Answer) (json : Json) (called : Result Outcome (Stop Refusal)) → IsBody bytes (Some json) → Comes called (answer json)
    → ComesOfBody bytes answer called
of_value bytes answer json (Ok outcome) is e = (Some json, is, e)
of_value bytes answer json (Err (Refused refusal)) is e = (Some json, is, e)
of_value bytes answer json (Err Memory) is e = tt

-- the outcome of what comes of what is due
pub replied : (bytes : List ℕ) (due : Due) (called : Result Outcome (Stop Refusal)) (outcome : Outcome) → ComesOfDue bytes due called → IsReplyTo called outcome
    → AnswersDue bytes due outcome
replied bytes (plain answer) (Ok made) outcome e r = r ∙ sym (ap outcome_of e)
replied bytes (plain answer) (Err (Refused refusal)) outcome e r = r ∙ sym (ap outcome_of e)
replied bytes (plain answer) (Err Memory) outcome e r = absurd r
replied bytes (by_body answer) (Ok made) outcome (b, is, e) r = (b, is, r ∙ sym (ap outcome_of e))
replied bytes (by_body answer) (Err (Refused refusal)) outcome (b, is, e) r = (b, is, r ∙ sym (ap outcome_of e))
replied bytes (by_body answer) (Err Memory) outcome e r = absurd r
