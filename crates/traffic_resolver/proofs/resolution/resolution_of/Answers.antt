use Rattle.std.proofs.Common.{◌∙◌}
use Rattle.resource_types.specs.Lookups.{state}
use Rattle.traffic_resolver.proofs.ResolutionFound.{found_long, found_room, resolution_as}
use Rattle.traffic_resolver.proofs.resolution.resolution_of.Goals as goal

pub resolve_targets-requires : goal.resolve_targets-requires
resolve_targets-requires c =
    let st = state c.args.store.now.entries in
    let same = c.as_slice.ensures ∙ c.in_ok-found.ensures in
    record {
      long = found_long st c.args.route.now c.args.targets.now c.as_slice.result.now same;
      room = found_room st c.args.route.now c.args.targets.now c.as_slice.result.now same c.requires;
    }

pub returns : goal.returns
returns c =
    c.in_ok-answer.ensures
    ∙ resolution_as (state c.args.store.now.entries) c.args.route.now c.args.domain.now c.args.targets.now c.as_slice.result.now (c.as_slice.ensures ∙ c.in_ok-found.ensures)
