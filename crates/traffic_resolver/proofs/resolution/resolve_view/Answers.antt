use Rattle.traffic_resolver.proofs.ResolutionFound.{view_long, view_room}
use Rattle.traffic_resolver.proofs.resolution.resolve_view.Goals as goal

pub resolve_targets-requires : goal.resolve_targets-requires
resolve_targets-requires c = record {
  long = view_long c.args.view.now c.as_slice.result.now c.as_slice-2.result.now c.as_slice.ensures c.as_slice-2.ensures c.requires;
  room = view_room c.args.view.now c.as_slice.result.now c.as_slice-2.result.now c.as_slice.ensures c.as_slice-2.ensures c.requires;
}
