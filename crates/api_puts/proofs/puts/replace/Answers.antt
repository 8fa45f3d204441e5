use Rattle.std.proofs.Common.{sym}
use Rattle.manifest_intake.proofs.Storing.{client_storable}
use Rattle.resource_codec.specs.Storable.{IsStorable}
use Rattle.api_puts.proofs.ClientPuts.{for_some}
use Rattle.api_puts.proofs.puts.replace.Goals as goal

pub object_put-requires-clause-over : goal.object_put-requires-clause-over
object_put-requires-clause-over c = sym c.requires.old.stands

pub put-requires-clause-old : goal.put-requires-clause-old
put-requires-clause-old c = for_some IsStorable _ c.requires.old.storable

pub put-requires-clause-storable : goal.put-requires-clause-storable
put-requires-clause-storable c = client_storable c.in_ok-object.object c.in_ok-object.ensures.client.client c.in_ok-object.ensures.client.good

pub returns-clause-fits : goal.returns-clause-fits
returns-clause-fits c = c.put.ensures.fits c.args.store.now.entries c.in_ok-object.ensures.client
