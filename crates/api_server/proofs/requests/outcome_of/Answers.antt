use Rattle.std.proofs.lemmas.Result.{IfOk-weaker}
use Rattle.api_paths.specs.Seen.{call_seen}
use Rattle.api_outcomes.specs.Outcomes.{IsReplyTo}
use Rattle.api_server.specs.Calls.{call_due, AnswersDue}
use Rattle.api_server.proofs.Replies.{replied}
use Rattle.api_server.proofs.requests.outcome_of.Goals as goal

pub returns-clause-answers : goal.returns-clause-answers
returns-clause-answers c =
    let bytes = c.args.bytes.now in
    let due = call_due c.args.store.now.entries c.args.moment (call_seen c.args.call) in
    IfOk-weaker c.reply_to_call.result (IsReplyTo c.make_call.result) (AnswersDue bytes due)
    (λ outcome replies. replied bytes due c.make_call.result outcome c.make_call.ensures.answer replies) c.reply_to_call.ensures.answer
