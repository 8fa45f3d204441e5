use Rattle.std.specs.Option.{option_copied}
use Rattle.api_outcomes.specs.Outcomes.{CanBeMade}
use Rattle.api_puts.proofs.ClientPuts.{for_some, put_can_be_made}
use Rattle.api_puts.proofs.DuePuts.{put_is_due}
use Rattle.api_puts.proofs.puts.put.Goals as goal

pub returns-clause-value : goal.returns-clause-value
returns-clause-value c = put_is_due c.args.code (option_copied c.args.old) c.args.expect c.args.object c.in_ok-reply.reply c.in_ok-plan.plan c.in_ok-reply.ensures.value c.in_ok-plan.ensures

pub returns-clause-fits : goal.returns-clause-fits
returns-clause-fits c journal client = record {
  reply = c.in_ok-reply.ensures.reply;
  plan = for_some (CanBeMade journal) _ (put_can_be_made journal c.args.expect c.args.object c.in_ok-plan.plan c.in_ok-plan.ensures client);
}
