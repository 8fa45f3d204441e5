use Rattle.api_calls.proofs.Asking.{asks_over}
use Rattle.api_calls.proofs.replace.replacing.Goals as goal

pub replace_standing-requires-clause-asks : goal.replace_standing-requires-clause-asks
replace_standing-requires-clause-asks c =
    asks_over c.args.place.kind c.args.place.space.now c.args.place.name.now c.in_ok-manifest.manifest c.in_ok-manifest.ensures.accepted c.requires.label
