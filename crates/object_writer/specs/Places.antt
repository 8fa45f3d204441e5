-- Places of names among pairs of a name and a value.
use Rattle.std.specs.Prelude.{ℕ, Bool, false, List, [], ◌∷◌, bytes_eq, if◌then◌else◌}
use Rattle.std.specs.Ordering.{nat_cmp, is_lt}
use Rattle.std.specs.Cmp.Lexicographic.{slice_cmp}

-- whether the first of the pairs comes before the name
abbrev pub begins_before : {A : Type 0} → List ℕ → List (List ℕ × A) → Bool
begins_before name [] = false
begins_before name (e ∷ es) = is_lt (slice_cmp nat_cmp e.0 name)

-- the pairs without the first one, if that has the name
abbrev pub entries_behind : {A : Type 0} → List ℕ → List (List ℕ × A) → List (List ℕ × A)
entries_behind name [] = []
entries_behind name (e ∷ es) = if bytes_eq e.0 name then es else e ∷ es
