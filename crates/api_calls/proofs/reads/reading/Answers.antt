use Rattle.resource_codec.proofs.Storing.{storable_shown}
use Rattle.api_calls.proofs.reads.reading.Goals as goal

pub shown-requires-clause-shown : goal.shown-requires-clause-shown
shown-requires-clause-shown c = storable_shown c.in_ok-object.object.now c.in_ok-object.ensures.stands.storable
