use Rattle.std.proofs.Common.{sym, ap, ◌∙◌, Option}
use Rattle.std.specs.Prelude.{option_map}
use Rattle.controller_parts.specs.declared.due.Due.{Due}
use Rattle.controller_parts.specs.Views.{due_plan}
use Rattle.controller_parts.proofs.Firsts.{first-some, first-none}
use Rattle.route_rec.proofs.controller.due_by.Goals as goal

pub returns-in-Some : goal.returns-in-Some
returns-in-Some c = sym (first-some _ (sym c.in_ok-due.ensures ∙ ap (λ (d : Option Due). option_map due_plan d) c.in-Some.is))

pub returns-in-Some-2 : goal.returns-in-Some-2
returns-in-Some-2 c =
    sym (first-none _ (sym c.in_ok-due.ensures ∙ ap (λ (d : Option Due). option_map due_plan d) c.in_default.is)
    ∙ first-some _ (sym c.in_ok-due-2.ensures ∙ ap (λ (d : Option Due). option_map due_plan d) c.in-Some-2.is))

pub returns : goal.returns
returns c =
    c.in_ok-due-3.ensures
    ∙ sym (first-none _ (sym c.in_ok-due.ensures ∙ ap (λ (d : Option Due). option_map due_plan d) c.in_default.is)
    ∙ first-none _ (sym c.in_ok-due-2.ensures ∙ ap (λ (d : Option Due). option_map due_plan d) c.in_default-2.is))
