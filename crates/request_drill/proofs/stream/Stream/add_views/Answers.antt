use Rattle.std.proofs.Common.{[], ◌∷◌, codes}
use Rattle.request_drill.specs.Generated.{get}
use Rattle.request_drill.proofs.Adding.{adds_more}
use Rattle.request_drill.proofs.stream.Stream.add_views.Goals as goal

pub returns : goal.returns
returns c = adds_more _ _ _ (get (codes "/control/tables") ∷ []) (get (codes "/control/summary") ∷ []) c.in_ok-add_get.ensures c.in_ok-add_get-2.ensures
