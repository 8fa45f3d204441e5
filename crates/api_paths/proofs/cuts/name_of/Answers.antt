use Rattle.std.proofs.Common.{◌==◌, ℕ, sym, ◌∙◌}
use Rattle.api_paths.proofs.Places.{before_found, before_none}
use Rattle.api_paths.proofs.cuts.name_of.Goals as goal

pub returns-in-Some : goal.returns-in-Some
returns-in-Some c = before_found (λ (b : ℕ). b == 61) c.args.part.now c.in-Some.at (sym c.in-Some.is ∙ c.first_equals.ensures)

pub returns-in-None : goal.returns-in-None
returns-in-None c = before_none (λ (b : ℕ). b == 61) c.args.part.now (sym c.in-None.is ∙ c.first_equals.ensures)
