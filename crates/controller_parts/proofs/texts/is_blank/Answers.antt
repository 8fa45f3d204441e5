use Rattle.controller_parts.proofs.Blank.{tells_empty}
use Rattle.controller_parts.proofs.texts.is_blank.Goals as goal

pub returns : goal.returns
returns c = tells_empty c.is_empty.result c.args.text.now c.is_empty.ensures
