use Rattle.std.proofs.Common.{◌∙◌}
use Rattle.resource_types.specs.Lookups.{state}
use Rattle.resource_types.proofs.Spaces.{space-span}
use Rattle.resource_types.proofs.lookups.walk_space.Goals as goal

pub returns : goal.returns
returns c = c.walk_in.ensures ∙ space-span c.args.kind c.args.space.now (state c.args.store.now.entries)
