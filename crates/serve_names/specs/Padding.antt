-- Numbers with zeros before them.
use Rattle.std.specs.Prelude.{◌-◌, ℕ, List, ◌++◌, length, replicate}

-- the text with zeros before it, to n bytes at least
abbrev pub at_least : ℕ → List ℕ → List ℕ
at_least n text = replicate (n - length text) 48 ++ text
