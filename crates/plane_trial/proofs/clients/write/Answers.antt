use Rattle.plane_trial.proofs.clients.write.Goals as goal

pub client_write-applied-requires-clause-may : goal.client_write-applied-requires-clause-may
client_write-applied-requires-clause-may c = c.requires.plan c.in-Some.plan c.in-Some.is
