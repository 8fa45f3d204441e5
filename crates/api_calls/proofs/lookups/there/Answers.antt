use Rattle.std.proofs.Common.{ap}
use Rattle.std.specs.Option.{option_copied}
use Rattle.api_calls.proofs.lookups.there.Goals as goal

pub returns-in-Some-clause-stands : goal.returns-in-Some-clause-stands
returns-in-Some-clause-stands c = c.object_at.ensures.stands c.in-Some.object.now (ap option_copied c.in-Some.is)
