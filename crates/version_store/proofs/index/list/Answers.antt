use Rattle.std.proofs.Common.{◌≡◌, ℕ, ◌-◌, List, map, take, drop, ap, sym, ◌∙◌, subst, IfOk}
use Rattle.std.proofs.lemmas.List.{take-map, drop-map}
use Rattle.version_store.specs.State.{state, versions_of}
use Rattle.version_store.proofs.States.{version_of}
use Rattle.version_store.proofs.SpanRange.{in_span-kind}
use Rattle.version_store.proofs.index.list.Goals as goal

range-map : {X Y : Type 0} (f : X → Y) (m n : ℕ) (xs : List X) → take m (drop n (map f xs)) ≡ map f (take m (drop n xs))
range-map f m n xs = ap (take m) (drop-map f n xs) ∙ take-map f m (drop n xs)

pub returns : goal.returns
returns g c =
    let item = g.O.Item in
    let cmp = g.O.Key.Ord.cmp in
    let st = state item.key cmp c.args.entries.now in
    let first = c.range_of-first.result.0 in
    let end = c.range_of-first.result.1 in
    subst (λ versions. IfOk c.from_slice.result (λ list. list.items ≡ versions))
    (ap (λ l. take (end - first) (drop first l)) c.requires.versions ∙ range-map (version_of item cmp) (end - first) first st ∙ ap (versions_of item.stamp) (sym c.range_of-first.ensures.objects ∙ in_span-kind item.key item.kind_of g.O.Kind.Ord.cmp g.O.Kind.PartialEq.eq c.args.kind g.met.O.Kind.Ord.matches_eq st))
    c.from_slice.ensures.items
