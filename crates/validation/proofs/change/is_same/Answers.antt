use Rattle.validation.proofs.Changes.{tells_same}
use Rattle.validation.proofs.change.is_same.Goals as goal

pub returns : goal.returns
returns c = tells_same _ _ _ c.equals.ensures
