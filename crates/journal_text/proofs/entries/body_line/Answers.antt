use Rattle.std.proofs.Common.{◌∙◌, sym}
use Rattle.journal_text.proofs.Told.{other_body}
use Rattle.journal_text.proofs.entries.body_line.Goals as goal

pub returns-in-Health : goal.returns-in-Health
returns-in-Health c = rw c.in-Health.is c.report_line.ensures

pub returns-in_default : goal.returns-in_default
returns-in_default c =
    c.new.ensures ∙ sym (other_body c.args.moment c.args.revision.now c.args.body.now (λ u r p e is. c.in_default.not-Health u r p e is))
