-- Why a control call is refused, and what it is told.
use Rattle.std.specs.Prelude.{ℕ, List, ◌++◌, codes, decimal}
use Rattle.http_session.specs.declared.message.Reply.{Reply}
use Rattle.api_status.specs.Status.{failure}
use Rattle.api_outcomes.specs.Refusals as call
use Rattle.api_outcomes.specs.Replies.{reply_of}
use Rattle.control_bodies.specs.Paths.{path_bytes}
use Rattle.control_calls.specs.declared.refusal.ControlRefusal.{ControlRefusal}
use Rattle.control_calls.specs.declared.refusal.ControlRefusal.TheVariants.{Call, WrongShape, ClockBack}

abbrev pub code_of : ControlRefusal → ℕ
code_of (Call refusal) = call.code_of refusal
code_of (WrongShape field) = 400
code_of (ClockBack now) = 422

abbrev pub reason_of : ControlRefusal → List ℕ
reason_of (Call refusal) = call.reason_of refusal
reason_of (WrongShape field) = codes "BadRequest"
reason_of (ClockBack now) = codes "Invalid"

abbrev pub message_of : ControlRefusal → List ℕ
message_of (Call refusal) = call.message_of refusal
message_of (WrongShape field) = codes "wrong shape at " ++ path_bytes field
message_of (ClockBack now) = codes "now: the clock stands at " ++ decimal now

-- a control call is refused
abbrev pub refused : ControlRefusal → Reply
refused refusal = reply_of (code_of refusal) (failure (code_of refusal) (reason_of refusal) (message_of refusal))
