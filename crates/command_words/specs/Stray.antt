-- Words with a hyphen that are no option of the grammar, whatever its options are.
use Rattle.std.specs.Prelude.{◌==◌, ◌&&◌, ℕ, Bool, true, false, not, List, [], ◌∷◌}

-- what follows a first hyphen is no second one, or only that
abbrev pub is_lone : List ℕ → Bool
is_lone [] = true
is_lone (x ∷ []) = true
is_lone (x ∷ y ∷ ys) = not (x == 45)

-- the word begins with a hyphen, and not with two and more
abbrev pub is_stray : List ℕ → Bool
is_stray [] = false
is_stray (x ∷ xs) = x == 45 && is_lone xs
