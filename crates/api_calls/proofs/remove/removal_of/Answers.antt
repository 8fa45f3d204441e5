use Rattle.api_calls.proofs.Asking.{removal_is, removal_fits}
use Rattle.api_calls.proofs.remove.removal_of.Goals as goal

pub returns-clause-value : goal.returns-clause-value
returns-clause-value c = removal_is c.args.object.now c.in_ok-reply.reply c.in_ok-key.key c.in_ok-reply.ensures.value c.in_ok-key.ensures

pub returns-clause-fits : goal.returns-clause-fits
returns-clause-fits c journal client = removal_fits journal c.args.object.now _ (returns-clause-value c) c.in_ok-reply.ensures.reply client
