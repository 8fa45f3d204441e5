-- The generated names of Revisions.
use Rattle.std.specs.Prelude.{ℕ, List, ◌∷◌, ◌++◌}
use Rattle.std.specs.Fmt.{decimal}
use Rattle.serve_names.specs.Padding.{at_least}

-- the base, `-`, and the generation in five digits at least
abbrev pub generated_bytes : List ℕ → ℕ → List ℕ
generated_bytes base generation = base ++ (45 ∷ at_least 5 (decimal generation))
