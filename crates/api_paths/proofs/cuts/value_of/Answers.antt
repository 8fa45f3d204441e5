use Rattle.std.proofs.Common.{◌==◌, ℕ, sym, ◌∙◌}
use Rattle.api_paths.proofs.Places.{after_found, after_none}
use Rattle.api_paths.proofs.cuts.value_of.Goals as goal

pub returns-in-Some : goal.returns-in-Some
returns-in-Some c = after_found (λ (b : ℕ). b == 61) c.args.part.now c.in-Some.at (sym c.in-Some.is ∙ c.first_equals.ensures)

pub returns-in-None : goal.returns-in-None
returns-in-None c = after_none (λ (b : ℕ). b == 61) c.args.part.now (sym c.in-None.is ∙ c.first_equals.ensures)
