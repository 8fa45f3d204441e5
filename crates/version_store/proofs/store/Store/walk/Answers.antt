use Rattle.std.proofs.Common.{◌∙◌}
use Rattle.version_store.specs.State.{state}
use Rattle.version_store.proofs.SpanRange.{in_span-kind}
use Rattle.version_store.proofs.store.Store.walk.Goals as goal

pub returns : goal.returns
returns g c =
    let item = g.O.Item in
    c.walk_in.ensures ∙ in_span-kind item.key item.kind_of g.O.Kind.Ord.cmp g.O.Kind.PartialEq.eq c.args.kind g.met.O.Kind.Ord.matches_eq (state item.key g.O.Key.Ord.cmp c.args.self.now.entries)
