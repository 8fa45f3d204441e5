use Rattle.gateway_pick.proofs.Taken.{for_each}
use Rattle.gateway_pick.proofs.gateway.told.Goals as goal

pub returns-in-Ok-clause-told : goal.returns-in-Ok-clause-told
returns-in-Ok-clause-told c = λ json is.
    for_each c.args.body.now (λ p. (p.changes, p.version)) c.told_in.result c.args.least c.in-Ok.json json c.in-Ok.ensures.json is c.told_in.ensures
