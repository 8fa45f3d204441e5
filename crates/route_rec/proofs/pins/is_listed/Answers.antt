use Rattle.std.proofs.Common.{◌∙◌}
use Rattle.route_rec.proofs.Listed.{listed_any}
use Rattle.route_rec.proofs.pins.is_listed.Goals as goal

pub returns : goal.returns
returns c = c.has_text.ensures ∙ listed_any c.args.text.now c.args.texts.now
