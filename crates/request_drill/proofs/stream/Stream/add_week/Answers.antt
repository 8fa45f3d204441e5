use Rattle.std.proofs.Common.{[], ◌∷◌}
use Rattle.request_drill.specs.Generated.{clock, settle}
use Rattle.request_drill.proofs.Adding.{adds_more}
use Rattle.request_drill.proofs.stream.Stream.add_week.Goals as goal

pub returns : goal.returns
returns c = adds_more _ _ _ (clock ∷ []) (settle ∷ []) c.in_ok-add_post.ensures c.in_ok-add_settle.ensures
