-- The bytes of a text, wherever they are.
use Rattle.std.specs.Prelude.{ℕ, List, string_bytes}
use Rattle.json_tree.specs.declared.text.Kept.{Kept}
use Rattle.json_tree.specs.declared.text.Kept.TheVariants.{Short, Long}

-- the bytes that lie in the value, or in memory of their own
abbrev pub bytes_of : Kept → List ℕ
bytes_of (Short s) = s.bytes
bytes_of (Long s) = string_bytes s
