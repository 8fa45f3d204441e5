use Rattle.std.specs.Option.{option_copied}
use Rattle.resource_codec.proofs.Polled.{objects_fit}
use Rattle.resource_codec.proofs.standing.list_of.Goals as goal

pub returns-clause-well : goal.returns-clause-well
returns-clause-well c shown =
    let fit = objects_fit c.args.store.now.entries c.args.kind (option_copied c.args.space) shown in
    c.list_json.ensures.well (rw c.in_ok-items.ensures fit.well) (rw c.in_ok-items.ensures fit.deep)
