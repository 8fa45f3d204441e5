use Rattle.std.proofs.Common.{◌++◌, ap, ◌∙◌}
use Rattle.std.specs.List.{filter}
use Rattle.resource_types.specs.declared.names.Controller.TheVariants as controller
use Rattle.control_rules.specs.Slots.{keys_for, present}
use Rattle.step_scheduler.specs.Touched.{is_touched}
use Rattle.step_scheduler.proofs.Found.{found_all}
use Rattle.step_scheduler.proofs.plane.Plane.touched_keys.Goals as goal

pub returns : goal.returns
returns c =
    let v = c.args.self.now in
    found_all (is_touched v) (present v.plane) _ _ _ _ _
    (c.in_ok-add_touched.ensures ∙ ap (λ ks. ks ++ filter (is_touched v) (keys_for controller.Service (present v.plane))) c.new-found.ensures.items)
    c.in_ok-add_touched-2.ensures c.in_ok-add_touched-3.ensures c.in_ok-add_touched-4.ensures c.in_ok-add_touched-5.ensures
