-- Lines and blocks of lines, on a whole list of bytes.
use Rattle.std.specs.Prelude.{ℕ, ◌+◌, ◌&&◌, ◌==◌, nat_lt, List, [], ◌∷◌, Option, Some, None, if◌then◌else◌, suc, drop}
use Rattle.std.specs.Option.{option_map}
use Rattle.httparse.specs.Ascii.{line_feed, carriage_return}

-- how many bytes the empty line at the front has: a line feed, perhaps behind a carriage return; 0 where there is none
abbrev pub empty_line_len : List ℕ → ℕ
empty_line_len [] = 0
empty_line_len (a ∷ []) = if a == line_feed then 1 else 0
empty_line_len (a ∷ b ∷ bytes) = if a == line_feed then 1 else if (a == carriage_return) && (b == line_feed) then 2 else 0

-- how many bytes the empty lines at the front have
abbrev pub blank_len : List ℕ → ℕ
blank_len [] = 0
blank_len (a ∷ []) = if a == line_feed then 1 else 0
blank_len (a ∷ b ∷ bytes) =
    if a == line_feed then suc (blank_len (b ∷ bytes)) else if (a == carriage_return) && (b == line_feed) then suc (suc (blank_len bytes)) else 0

-- how many bytes there are up to the end of the first empty line that follows a line feed
abbrev pub head_len : List ℕ → Option ℕ
head_len [] = None
head_len (a ∷ bytes) =
    if (a == line_feed) && nat_lt 0 (empty_line_len bytes) then Some (suc (empty_line_len bytes)) else option_map suc (head_len bytes)

-- where the head of the first block begins and ends: the empty lines before it are dropped, and the empty line behind it counts
abbrev pub head_at : List ℕ → Option (ℕ × ℕ)
head_at bytes = let blank = blank_len bytes in option_map (λ n. (blank, blank + n)) (head_len (drop blank bytes))
