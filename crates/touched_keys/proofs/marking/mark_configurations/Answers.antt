use Rattle.std.proofs.Common.{ap}
use Rattle.touched_keys.specs.Changes.{ChangeView, IsTouched}
use Rattle.touched_keys.proofs.Covering.{configurations_all}
use Rattle.touched_keys.proofs.marking.mark_configurations.Goals as goal

pub returns-clause-all : goal.returns-clause-all
returns-clause-all c =
    let v = c.args.change.now in
    configurations_all v c.change.inside.key.now.name (ap (λ (v : ChangeView). v.key.name) c.change.view_is) (IsTouched v) c.mark_if.new.keys c.mark_over.new.keys c.in_ok-mark_if.ensures.all c.in_ok-mark_over.ensures.adds c.in_ok-mark_over.ensures.all
