use Rattle.std.proofs.Common.{sym, ◌∙◌}
use Rattle.resource_types.specs.Lookups.{state}
use Rattle.traffic_resolver.proofs.ResolutionFound.{found_long, found_room}
use Rattle.route_rec.proofs.Wholes.{asked_whole, meant_as, outcome_as}
use Rattle.route_rec.proofs.RouteDue.{absent_nothing}
use Rattle.route_rec.proofs.controller.due_to_route.Goals as goal

pub returns-in_default : goal.returns-in_default
returns-in_default c = sym (absent_nothing c.args.domain.now (state c.args.store.now.entries) c.args.route.now c.args.now (sym c.in_default.ensures.value))

pub resolve_targets-requires : goal.resolve_targets-requires
resolve_targets-requires c =
    let same = c.as_slice.ensures ∙ c.in_ok-found.ensures in
    let whole = asked_whole (state c.args.store.now.entries) c.args.route.now c.in-Some.object.now c.targets-targets.result.now c.as_slice.result.now c.targets-targets.ensures same
    c.requires (sym c.in-Some.ensures.value) c.in-Some.ensures.kind in
    record {
      long = found_long (state c.args.store.now.entries) c.args.route.now c.targets-targets.result.now c.as_slice.result.now same;
      room = found_room (state c.args.store.now.entries) c.args.route.now c.targets-targets.result.now c.as_slice.result.now same whole;
    }

pub due_by-requires : goal.due_by-requires
due_by-requires c =
    let st = state c.args.store.now.entries in
    let same = c.as_slice.ensures ∙ c.in_ok-found.ensures in
    let again = c.as_slice-2.ensures ∙ c.in_ok-found.ensures in
    record {
      stands = sym c.in-Some.ensures.value;
      meant = meant_as st c.args.route.now c.in-Some.object.now c.targets-targets.result.now c.as_slice-2.result.now c.targets-targets.ensures again;
      outcome =
          outcome_as st c.args.route.now c.in-Some.object.now c.targets-targets.result.now c.as_slice.result.now c.targets-targets.ensures same c.args.domain.now c.in_ok-resolved.resolved
          c.in_ok-resolved.ensures;
    }
