-- What a call comes to over a plane, with the body of its request: a reply, and the plane behind it.
use Rattle.std.specs.Prelude.{◌≡◌, ◌⊎◌, ℕ, List, Option, Some, None, Result, Ok, Err}
use Rattle.answers.specs.declared.stop.Stop.{Stop}
use Rattle.answers.specs.declared.stop.Stop.TheVariants.{Refused, Memory}
use Rattle.answers.specs.Answers.{Comes}
use Rattle.json_tree.specs.declared.value.Json.{Json}
use Rattle.http_session.specs.declared.message.Reply.{Reply}
use Rattle.resource_types.specs.Lookups.{Journal}
use Rattle.manifest_intake.specs.declared.refusal.ManifestRefusal.TheVariants.{UnreadableBody}
use Rattle.manifest_intake.specs.Bodies.{IsBody}
use Rattle.control_rules.specs.Slots.{Plane}
use Rattle.control_rules.specs.Steps.{Event, client_write_of}
use Rattle.control_rules.specs.Events.{Works}
use Rattle.step_scheduler.specs.Planes.{Is}
use Rattle.api_paths.specs.Paths as paths
use Rattle.api_outcomes.specs.declared.outcome.Outcome.{Outcome}
use Rattle.api_outcomes.specs.declared.refusal.Refusal.{Refusal}
use Rattle.api_outcomes.specs.declared.refusal.Refusal.TheVariants.{NoSuchPath, Manifest}
use Rattle.api_outcomes.specs.Replies.{refused}
use Rattle.api_outcomes.specs.Outcomes.{ClientPlan, Answer, outcome_of}
use Rattle.api_calls.specs.Calls.{listing, polling, reading, creating, replacing, patching, removing}
use Rattle.control_calls.specs.declared.bodies.ControlCall.{ControlCall}
use Rattle.control_calls.specs.declared.bodies.ControlCall.TheVariants as control
use Rattle.control_calls.specs.Calls.{heard, Settles, summary_reply}

-- ---- what is due to a client

-- what a client's call is due: an answer by itself, or one by the value of its body
pub data Due : Type 0 where
  plain : Answer → Due
  by_body : (Json → Answer) → Due

-- what each of them is due; a control call is none of a client's
abbrev pub call_due : Journal → ℕ → paths.Call → Due
call_due journal moment (paths.list kind space) = plain (listing journal kind space)
call_due journal moment (paths.poll kind space after) = plain (polling journal kind space after)
call_due journal moment (paths.read kind space name) = plain (reading journal kind space name)
call_due journal moment (paths.create kind space) = by_body (creating journal moment kind space)
call_due journal moment (paths.replace kind space name) = by_body (replacing journal moment kind space name)
call_due journal moment (paths.patch kind space name) = by_body (patching journal moment kind space name)
call_due journal moment (paths.remove kind space name) = plain (removing journal kind space name)
call_due journal moment other = plain (Err NoSuchPath)

-- the answer by the value of a body, which is refused where it is unreadable
abbrev pub of_body : Option Json → (Json → Answer) → Answer
of_body None answer = Err (Manifest UnreadableBody)
of_body (Some json) answer = answer json

-- the outcome of a call whose body is read
abbrev pub AnswersBody : List ℕ → (Json → Answer) → Outcome → Type 0
AnswersBody bytes answer outcome = (body : Option Json) × IsBody bytes body × (outcome ≡ outcome_of (of_body body answer))

-- the outcome of a call that is due this
abbrev pub AnswersDue : List ℕ → Due → Outcome → Type 0
AnswersDue bytes (plain answer) outcome = outcome ≡ outcome_of answer
AnswersDue bytes (by_body answer) outcome = AnswersBody bytes answer outcome

-- ---- over a plane

-- the plane behind a client's write, if there is one
unfoldable pub plane_after : Plane → Option ClientPlan → Plane
plane_after w None = w
plane_after w (Some plan) = (client_write_of w plan).plane

-- a client's call: its reply, and what it writes
pub record AnswersClient (w : Plane) (bytes : List ℕ) (due : Due) (reply : Reply) (v : Plane) : Type 0 where
  pub outcome : Outcome
  pub answers : AnswersDue bytes due outcome
  pub replies : reply ≡ outcome.reply
  pub written : v ≡ plane_after w outcome.plan

-- a control call by the value of its body, which is refused where it is unreadable
abbrev pub heard_body : ControlCall → Plane → Option Json → Event Reply
heard_body call w None = record { plane = w; answer = refused (Manifest UnreadableBody) }
heard_body call w (Some json) = heard call w json

-- a control call whose body is read
pub record AnswersControl (call : ControlCall) (w : Plane) (bytes : List ℕ) (reply : Reply) (v : Plane) : Type 0 where
  pub body : Option Json
  pub reading : IsBody bytes body
  pub is : Is (heard_body call w body) v reply

-- nothing changes
abbrev pub AnswersOnly : Plane → Reply → Reply → Plane → Type 0
AnswersOnly w due reply v = (reply ≡ due) × (v ≡ w)

-- each call
abbrev pub AnswersCall : Plane → List ℕ → paths.Call → Reply → Plane → Type 0
AnswersCall w bytes paths.report reply v = AnswersControl control.Report w bytes reply v
AnswersCall w bytes paths.set_clock reply v = AnswersControl control.SetClock w bytes reply v
AnswersCall w bytes paths.step reply v = AnswersControl control.Step w bytes reply v
AnswersCall w bytes paths.settle reply v = Settles w reply v
AnswersCall w bytes paths.summary reply v = AnswersOnly w (summary_reply w) reply v
AnswersCall w bytes other reply v = AnswersClient w bytes (call_due w.journal w.now other) reply v

-- what is left of a call's plane where memory ran out: it is as before, or the call is a settle, of which some steps were made, each whole
abbrev pub IsCutShort : Plane → paths.Call → Plane → Type 0
IsCutShort w call v = (v ≡ w) ⊎ ((call ≡ paths.settle) × Works w v)

-- ---- answers of the code's own functions

-- a body is read, or refused as unreadable
abbrev pub ReadsBody : List ℕ → Result Json (Stop Refusal) → Type 0
ReadsBody bytes (Ok json) = IsBody bytes (Some json)
ReadsBody bytes (Err (Refused refusal)) = IsBody bytes None × (refusal ≡ Manifest UnreadableBody)
ReadsBody bytes (Err Memory) = Unit {0}

-- what is due by a body
abbrev pub ComesOfBody : List ℕ → (Json → Answer) → Result Outcome (Stop Refusal) → Type 0
ComesOfBody bytes answer (Ok outcome) = (body : Option Json) × IsBody bytes body × (of_body body answer ≡ Ok outcome)
ComesOfBody bytes answer (Err (Refused refusal)) = (body : Option Json) × IsBody bytes body × (of_body body answer ≡ Err refusal)
ComesOfBody bytes answer (Err Memory) = Unit {0}

-- what is due
abbrev pub ComesOfDue : List ℕ → Due → Result Outcome (Stop Refusal) → Type 0
ComesOfDue bytes (plain answer) called = Comes called answer
ComesOfDue bytes (by_body answer) called = ComesOfBody bytes answer called

-- what is due to a client's call
abbrev pub ComesOfCall : Journal → ℕ → List ℕ → paths.Call → Result Outcome (Stop Refusal) → Type 0
ComesOfCall journal moment bytes call called = ComesOfDue bytes (call_due journal moment call) called
