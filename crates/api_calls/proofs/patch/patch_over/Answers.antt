use Rattle.api_calls.proofs.Asking.{asks_over}
use Rattle.api_calls.proofs.patch.patch_over.Goals as goal

pub agreeing-requires-clause-asks : goal.agreeing-requires-clause-asks
agreeing-requires-clause-asks c =
    asks_over c.args.place.kind c.args.place.space.now c.args.place.name.now c.in_ok-manifest.manifest c.in_ok-manifest.ensures.accepted c.requires.label
