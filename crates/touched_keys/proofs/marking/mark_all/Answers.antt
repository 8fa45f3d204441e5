use Rattle.resource_types.specs.declared.names.Controller.TheVariants as controller
use Rattle.touched_keys.specs.Changes.{IsTouched}
use Rattle.touched_keys.proofs.Adding.{adds_then}
use Rattle.touched_keys.proofs.Covering.{kept_all, every_all}
use Rattle.touched_keys.proofs.marking.mark_all.Goals as goal

pub returns-clause-all : goal.returns-clause-all
returns-clause-all c =
    let v = c.args.change.now in
    let P = IsTouched v in
    let five = c.in_ok-mark_routes.ensures.adds in
    let four = adds_then P _ _ _ c.in_ok-mark_collectors.ensures.adds five in
    let three = adds_then P _ _ _ c.in_ok-mark_revisions.ensures.adds four in
    let two = adds_then P _ _ _ c.in_ok-mark_configurations.ensures.adds three in
    every_all v c.mark_routes.new.keys
    (kept_all P v controller.Service _ _ two c.in_ok-mark_services.ensures.all)
    (kept_all P v controller.Configuration _ _ three c.in_ok-mark_configurations.ensures.all)
    (kept_all P v controller.Revision _ _ four c.in_ok-mark_revisions.ensures.all)
    (kept_all P v controller.Collector _ _ five c.in_ok-mark_collectors.ensures.all)
    c.in_ok-mark_routes.ensures.all
