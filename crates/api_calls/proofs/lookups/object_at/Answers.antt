use Rattle.std.proofs.Common.{sym, ◌∙◌}
use Rattle.api_calls.proofs.StandsAs.{stands_as}
use Rattle.api_calls.proofs.lookups.object_at.Goals as goal

pub returns-clause-stands : goal.returns-clause-stands
returns-clause-stands c x e =
    stands_as c.args.store.now.entries c.args.kind c.args.space.now c.args.name.now c.version-version.ensures.stamped c.requires x (sym c.standing.ensures.value ∙ e)
