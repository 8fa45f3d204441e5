-- The lines that are written: for each number the Revision that it picks.
use Rattle.std.specs.Prelude.{ℕ, zero, suc, ◌+◌, List, [], ◌++◌, Option, Some, None, codes, decimal}
use Rattle.serve_names.specs.Uids.{uid_bytes}
use Rattle.resource_types.specs.declared.specification.Row.{Row}

-- the Revision of a row and its uid, or a dash
abbrev pub picked : Option Row → List ℕ
picked None = codes "-"
picked (Some row) = row.revision ++ codes " " ++ uid_bytes row.uid

abbrev pub pick_line : ℕ → Option Row → List ℕ
pick_line number row = decimal number ++ codes " " ++ picked row ++ codes "\n"

-- the lines of so many numbers, from a first one on, by what each number picks
abbrev pub picks_text : (ℕ → Option Row) → ℕ → ℕ → List ℕ
picks_text pick first zero = []
picks_text pick first (suc count) = pick_line first (pick first) ++ picks_text pick (first + 1) count
