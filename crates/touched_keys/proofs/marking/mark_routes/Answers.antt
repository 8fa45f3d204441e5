use Rattle.std.proofs.Common.{ap, sym, ◌∙◌}
use Rattle.std.specs.Option.{option_copied}
use Rattle.touched_keys.specs.Changes.{ChangeView, IsTouched}
use Rattle.touched_keys.proofs.Covering.{route_marks, routes_off, routes_walked}
use Rattle.touched_keys.proofs.Reading.{ordered_in}
use Rattle.touched_keys.proofs.marking.mark_routes.Goals as goal

pub returns-in_ok-mark_readers-clause-all : goal.returns-in_ok-mark_readers-clause-all
returns-in_ok-mark_readers-clause-all c =
    let v = c.args.change.now in
    let m = c.change.inside.key.now.name in
    let e = ap (λ (v : ChangeView). v.key.name) c.change.view_is in
    routes_walked v m e (ordered_in v c.change.inside.store.now.entries (ap (λ (v : ChangeView). v.state) c.change.view_is)) (IsTouched v) c.mark_pins-2.new.keys c.mark_readers.new.keys
    (route_marks v m e (IsTouched v) (option_copied c.change.inside.old) (option_copied c.change.inside.new) (ap (λ (v : ChangeView). v.old) c.change.view_is) (ap (λ (v : ChangeView). v.new) c.change.view_is)
    c.mark_if.new.keys c.mark_pins.new.keys c.mark_pins-2.new.keys c.in_ok-mark_if.ensures.all c.in_ok-mark_pins.ensures.adds c.in_ok-mark_pins.ensures.all c.in_ok-mark_pins-2.ensures.adds c.in_ok-mark_pins-2.ensures.all)
    c.in_ok-mark_readers.ensures.adds c.in_ok-mark_readers.ensures.all

pub returns-else-is_read_by_targets-clause-all : goal.returns-else-is_read_by_targets-clause-all
returns-else-is_read_by_targets-clause-all c =
    let v = c.args.change.now in
    let m = c.change.inside.key.now.name in
    let e = ap (λ (v : ChangeView). v.key.name) c.change.view_is in
    routes_off v m e c.mark_pins-2.new.keys
    (route_marks v m e (IsTouched v) (option_copied c.change.inside.old) (option_copied c.change.inside.new) (ap (λ (v : ChangeView). v.old) c.change.view_is) (ap (λ (v : ChangeView). v.new) c.change.view_is)
    c.mark_if.new.keys c.mark_pins.new.keys c.mark_pins-2.new.keys c.in_ok-mark_if.ensures.all c.in_ok-mark_pins.ensures.adds c.in_ok-mark_pins.ensures.all c.in_ok-mark_pins-2.ensures.adds c.in_ok-mark_pins-2.ensures.all)
    (sym c.is_read_by_targets.ensures ∙ c.if-is_read_by_targets.false)
