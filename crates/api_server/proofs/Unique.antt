-- A request has one answer: its reply and the plane behind it are a function of the plane and the request.
use Rattle.std.proofs.Common.{◌≡◌, ℕ, List, Option, Result, Ok, Err, sym, ap, ◌∙◌}
use Rattle.json_tree.specs.declared.value.Json.{Json}
use Rattle.http_session.specs.declared.message.Request.{Request}
use Rattle.http_session.specs.declared.message.Reply.{Reply}
use Rattle.control_rules.specs.Slots.{Plane}
use Rattle.control_rules.specs.Steps.{Event}
use Rattle.control_quiet.proofs.Settles.{settle_once}
use Rattle.api_paths.specs.declared.calls.PathError.{PathError}
use Rattle.api_paths.specs.Paths.{Call, list, poll, create, read, replace, patch, remove, report, set_clock, step, settle, summary}
use Rattle.api_paths.specs.Route.{call_of}
use Rattle.manifest_intake.proofs.Bodies.{one_body}
use Rattle.api_outcomes.specs.declared.outcome.Outcome.{Outcome}
use Rattle.api_outcomes.specs.Outcomes.{outcome_of}
use Rattle.control_calls.specs.declared.bodies.ControlCall.{ControlCall}
use Rattle.control_calls.specs.declared.bodies.ControlCall.TheVariants as control
use Rattle.control_calls.specs.Calls.{Settles}
use Rattle.api_server.specs.Calls.{Due, plain, by_body, call_due, of_body, AnswersDue, plane_after, AnswersClient, heard_body, AnswersControl, AnswersOnly, AnswersCall}
use Rattle.api_server.specs.Ask.{AnswersRoute, Answers}

-- two answers are one
abbrev Same : Reply → Reply → Plane → Plane → Type 0
Same r s v u = (r ≡ s) × (v ≡ u)

one_of_due : (bytes : List ℕ) (due : Due) (o p : Outcome) → AnswersDue bytes due o → AnswersDue bytes due p → o ≡ p
one_of_due bytes (plain answer) o p e f = e ∙ sym f
one_of_due bytes (by_body answer) o p (b, is, e) (c, other, f) = e ∙ ap (λ (x : Option Json). outcome_of (of_body x answer)) (one_body bytes b c is other) ∙ sym f

one_of_client : (w : Plane) (bytes : List ℕ) (due : Due) (r s : Reply) (v u : Plane) → AnswersClient w bytes due r v → AnswersClient w bytes due s u → Same r s v u
one_of_client w bytes due r s v u a b =
    let same = one_of_due bytes due a.outcome b.outcome a.answers b.answers in
    (a.replies ∙ ap (λ (o : Outcome). o.reply) same ∙ sym b.replies, a.written ∙ ap (λ (o : Outcome). plane_after w o.plan) same ∙ sym b.written)

one_of_control : (call : ControlCall) (w : Plane) (bytes : List ℕ) (r s : Reply) (v u : Plane) → AnswersControl call w bytes r v → AnswersControl call w bytes s u → Same r s v u
one_of_control call w bytes r s v u a b =
    let same = one_body bytes a.body b.body a.reading b.reading in
    let event = ap (λ (x : Option Json). heard_body call w x) same in
    (a.is.answer_is ∙ ap (λ (e : Event Reply). e.answer) event ∙ sym b.is.answer_is, a.is.plane_is ∙ ap (λ (e : Event Reply). e.plane) event ∙ sym b.is.plane_is)

one_of_settle : (w : Plane) (r s : Reply) (v u : Plane) → Settles w r v → Settles w s u → Same r s v u
one_of_settle w r s v u a b =
    let once = settle_once w v u a.turns b.turns a.settle b.settle in
    (let same = once in cc, once.1)

one_of_only : (w : Plane) (due r s : Reply) (v u : Plane) → AnswersOnly w due r v → AnswersOnly w due s u → Same r s v u
one_of_only w due r s v u a b = (a.0 ∙ sym b.0, a.1 ∙ sym b.1)

one_of_call : (w : Plane) (bytes : List ℕ) (call : Call) (r s : Reply) (v u : Plane) → AnswersCall w bytes call r v → AnswersCall w bytes call s u → Same r s v u
one_of_call w bytes (list kind space) r s v u a b = one_of_client w bytes (call_due w.journal w.now (list kind space)) r s v u a b
one_of_call w bytes (poll kind space after) r s v u a b = one_of_client w bytes (call_due w.journal w.now (poll kind space after)) r s v u a b
one_of_call w bytes (create kind space) r s v u a b = one_of_client w bytes (call_due w.journal w.now (create kind space)) r s v u a b
one_of_call w bytes (read kind space name) r s v u a b = one_of_client w bytes (call_due w.journal w.now (read kind space name)) r s v u a b
one_of_call w bytes (replace kind space name) r s v u a b = one_of_client w bytes (call_due w.journal w.now (replace kind space name)) r s v u a b
one_of_call w bytes (patch kind space name) r s v u a b = one_of_client w bytes (call_due w.journal w.now (patch kind space name)) r s v u a b
one_of_call w bytes (remove kind space name) r s v u a b = one_of_client w bytes (call_due w.journal w.now (remove kind space name)) r s v u a b
one_of_call w bytes report r s v u a b = one_of_control control.Report w bytes r s v u a b
one_of_call w bytes set_clock r s v u a b = one_of_control control.SetClock w bytes r s v u a b
one_of_call w bytes step r s v u a b = one_of_control control.Step w bytes r s v u a b
one_of_call w bytes settle r s v u a b = one_of_settle w r s v u a b
one_of_call w bytes summary r s v u a b = one_of_only w _ r s v u a b

one_of_route : (w : Plane) (bytes : List ℕ) (route : Result Call PathError) (r s : Reply) (v u : Plane) → AnswersRoute w bytes route r v → AnswersRoute w bytes route s u → Same r s v u
one_of_route w bytes (Err fault) r s v u a b = one_of_only w _ r s v u a b
one_of_route w bytes (Ok call) r s v u a b = one_of_call w bytes call r s v u a b

pub one_answer : (w : Plane) (request : Request) (r s : Reply) (v u : Plane) → Answers w request r v → Answers w request s u → Same r s v u
unfolding Answers
one_answer w request r s v u a b = one_of_route w request.body (call_of request.method request.target) r s v u a b
