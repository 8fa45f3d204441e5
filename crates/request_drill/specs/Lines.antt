-- The lines of a drill.
use Rattle.std.specs.Prelude.{ℕ, List, ◌++◌, codes, decimal}
use Rattle.request_drill.specs.declared.lines.Figures.{Figures}

-- each has a word, a space and a number
unfoldable pub lines_of : Figures → List ℕ
lines_of f =
    codes "requests" ++ codes " " ++ decimal f.requests ++ codes "\n"
    ++ codes "answered" ++ codes " " ++ decimal f.answered ++ codes "\n"
    ++ codes "refused" ++ codes " " ++ decimal f.refused ++ codes "\n"
    ++ codes "journal" ++ codes " " ++ decimal f.journal ++ codes "\n"
    ++ codes "tables" ++ codes " " ++ decimal f.tables ++ codes "\n"
    ++ codes "turns" ++ codes " " ++ decimal f.turns ++ codes "\n"
    ++ codes "looks" ++ codes " " ++ decimal f.looks ++ codes "\n"
