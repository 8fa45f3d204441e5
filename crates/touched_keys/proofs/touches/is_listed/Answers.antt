use Rattle.std.proofs.Common.{◌∙◌}
use Rattle.touched_keys.proofs.Before.{listed_any}
use Rattle.touched_keys.proofs.touches.is_listed.Goals as goal

pub returns : goal.returns
returns c = c.has_text.ensures ∙ listed_any c.args.text.now c.args.texts.now
