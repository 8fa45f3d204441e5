use Rattle.std.proofs.Common.{◌≡◌, Some, ap, ◌∙◌, subst, arith}
use Rattle.std.specs.Prelude.{slice_get}
use Rattle.resource_types.specs.declared.names.Kind.TheVariants as kind
use Rattle.resource_types.specs.Lookups.{state, of_kind, in_space}
use Rattle.touched_keys.specs.Changes.{ChangeView, IsTouched, routes_beside}
use Rattle.touched_keys.proofs.Adding.{adds_then}
use Rattle.touched_keys.proofs.Reading.{ordered_in, route_beside, readers_next, readers_all}
use Rattle.touched_keys.proofs.readers.mark_readers.Goals as goal

pub mark_reader-requires-clause-beside : goal.mark_reader-requires-clause-beside
mark_reader-requires-clause-beside c =
    let v = c.args.change.now in
    route_beside v (ordered_in v c.change.inside.store.now.entries (ap (λ (v : ChangeView). v.state) c.change.view_is)) c.loop-place.place c.at.result.now
    (subst (λ os. slice_get os c.loop-place.place ≡ Some c.at.result.now)
    (c.walk_space-routes.ensures ∙ ap (λ space. in_space space (of_kind kind.Route (state c.change.inside.store.now.entries))) c.as_str-space.ensures ∙ ap routes_beside c.change.view_is) c.at.ensures)

pub loop-place-preserved : goal.loop-place-preserved
loop-place-preserved c =
    let v = c.args.change.now in
    record {
      adds = adds_then (IsTouched v) _ _ _ c.loop-place.invariant.adds c.in_ok-mark_reader.ensures.adds;
      all = readers_next (IsTouched v) v c.walk_space-routes.result c.loop-place.place c.at.result.now c.loop-place.keys c.mark_reader.new.keys c.at.ensures c.in_ok-mark_reader.ensures.adds c.in_ok-mark_reader.ensures.all c.loop-place.invariant.all;
    }

pub returns-clause-all : goal.returns-clause-all
returns-clause-all c =
    readers_all c.args.change.now (routes_beside c.args.change.now) c.walk_space-routes.result c.loop-place.place c.loop-place.keys
    (c.walk_space-routes.ensures ∙ ap (λ space. in_space space (of_kind kind.Route (state c.change.inside.store.now.entries))) c.as_str-space.ensures ∙ ap routes_beside c.change.view_is)
    (omega (arith, c.loop-place-test.false, c.len-place-end.ensures)) c.loop-place.invariant.all
