use Rattle.std.proofs.Common.{ap}
use Rattle.std.specs.Option.{option_copied}
use Rattle.resource_codec.proofs.Storing.{storable_shown}
use Rattle.api_puts.proofs.puts.show_put.Goals as goal

pub shown-requires-clause-shown : goal.shown-requires-clause-shown
shown-requires-clause-shown c = storable_shown c.in-Some.standing.now (c.requires.old c.in-Some.standing.now (ap option_copied c.in-Some.is))

pub shown-requires-in_default-clause-shown : goal.shown-requires-in_default-clause-shown
shown-requires-in_default-clause-shown c = storable_shown c.args.object.now c.requires.storable
