use Rattle.std.proofs.Common.{◌∙◌}
use Rattle.version_store.specs.State.{state}
use Rattle.version_store.proofs.SpanRange.{in_span-behind}
use Rattle.version_store.proofs.store.Store.walk_after.Goals as goal

pub returns : goal.returns
returns g c =
    let item = g.O.Item in
    let cmp = g.O.Key.Ord.cmp in
    c.walk_in.ensures
    ∙ in_span-behind item.key cmp item.kind_of g.O.Kind.Ord.cmp g.O.Kind.PartialEq.eq c.args.kind (g.S.SearchKey.sought c.args.sought.now) g.met.O.Kind.Ord.matches_eq (state item.key cmp c.args.self.now.entries)
