use Rattle.std.proofs.Common.{Result, subst}
use Rattle.std.specs.Prelude.{IfOk}
use Rattle.api_paths.specs.declared.calls.Call.{Call}
use Rattle.api_paths.specs.declared.calls.PathError.{PathError}
use Rattle.api_paths.specs.Paths.{HasLabel}
use Rattle.api_paths.specs.Seen.{call_seen}
use Rattle.api_paths.proofs.Labels.{answer_labelled}
use Rattle.control_rules.specs.Events.{Stands}
use Rattle.api_server.proofs.requests.answer.Goals as goal

pub answer_call-requires : goal.answer_call-requires
answer_call-requires c = record {
  label = subst (λ (r : Result Call PathError). IfOk r (λ (x : Call). HasLabel (call_seen x))) c.in-Ok.is
      (answer_labelled c.route_of.result c.as_str.result.now c.as_str-2.result.now c.route_of.ensures.call);
}

pub returns-in-Err-clause-leads : goal.returns-in-Err-clause-leads
returns-in-Err-clause-leads c = Stands
