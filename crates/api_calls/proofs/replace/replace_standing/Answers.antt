use Rattle.api_calls.proofs.Patchable.{stands_of_kind}
use Rattle.api_calls.proofs.replace.replace_standing.Goals as goal

pub agreeing-requires-clause-old : goal.agreeing-requires-clause-old
agreeing-requires-clause-old c =
    stands_of_kind c.args.store.now.entries c.args.place.kind c.kind-of_kind.result c.args.place.space.now c.args.place.name.now c.in_ok-old.old.now c.kind-of_kind.ensures c.in_ok-old.ensures.stands
