use Rattle.std.proofs.Common.{ap}
use Rattle.touched_keys.specs.Changes.{ChangeView}
use Rattle.touched_keys.proofs.Covering.{services_all}
use Rattle.touched_keys.proofs.marking.mark_services.Goals as goal

pub returns-clause-all : goal.returns-clause-all
returns-clause-all c = services_all c.args.change.now c.change.inside.key.now.name (ap (λ (v : ChangeView). v.key.name) c.change.view_is) c.mark_if.new.keys c.in_ok-mark_if.ensures.all
