use Rattle.journal_text.proofs.entries.client_line.Goals as goal

pub put_line-requires-clause-client : goal.put_line-requires-clause-client
put_line-requires-clause-client c = (c.requires c.in-Some.object c.in-Some.is).0

pub put_line-requires-clause-storable : goal.put_line-requires-clause-storable
put_line-requires-clause-storable c = (c.requires c.in-Some.object c.in-Some.is).1

pub returns-in-Some : goal.returns-in-Some
returns-in-Some c = rw c.in-Some.is c.put_line.ensures

pub returns-in-None : goal.returns-in-None
returns-in-None c = rw c.in-None.is c.removal_line.ensures
