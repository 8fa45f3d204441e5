-- Which row of a host a number picks.
use Rattle.std.specs.Prelude.{ℕ, zero, suc, ◌+◌, ◌-◌, ◌*◌, ◌%◌, Bool, List, [], ◌∷◌, nat_lt, find, replicate, Option, Some, None, if◌then◌else◌}
use Rattle.std.specs.List.{filter, flat_map, list_any}
use Rattle.std.specs.List.Sorted.{IsPermutation}
use Rattle.std.specs.Str.{bytes_eq}
use Rattle.resource_types.specs.declared.specification.Row.{Row}
use Rattle.gateway_pick.specs.declared.tables.Published.{Published}

-- ---- the rows of a host

abbrev pub is_for : List ℕ → Row → Bool
is_for host row = bytes_eq row.host host

-- the Table has a row with the host
abbrev pub has_host : List ℕ → Published → Bool
has_host host table = list_any (is_for host) table.rows

abbrev pub rows_in : Option Published → List Row
rows_in None = []
rows_in (Some table) = table.rows

-- the rows of the first Table, by namespace and simple name, that has one with the host
abbrev pub rows_for : List ℕ → List Published → List Row
rows_for host tables = rows_in (find (has_host host) tables)

-- those of them that have the host
abbrev pub rows_of : List ℕ → List Published → List Row
rows_of host tables = filter (is_for host) (rows_for host tables)

-- ---- the row of a number

-- the place of a number, of which a hundred numbers one after another have each another one
abbrev pub place_of : ℕ → ℕ
place_of number = (37 * (number % 100)) % 100

-- The row to which a place belongs: the first one for which its percent and the percents before it come to more than the place.
abbrev pub row_at : ℕ → List Row → Option Row
row_at place [] = None
row_at place (row ∷ rows) = if nat_lt place row.percent then Some row else row_at (place - row.percent) rows

-- the row that a number picks among the rows of a Table
abbrev pub pick_among : List Row → List ℕ → ℕ → Option Row
pick_among rows host number = row_at (place_of number) (filter (is_for host) rows)

-- the row that a number picks
abbrev pub pick_of : List Published → List ℕ → ℕ → Option Row
pick_of tables host number = pick_among (rows_for host tables) host number

-- ---- a hundred numbers

-- what so many numbers give, from a first one on
abbrev pub along : {A : Type 0} → (ℕ → A) → ℕ → ℕ → List A
along give first zero = []
along give first (suc count) = give first ∷ along give (first + 1) count

-- each row as often as its percent says
abbrev pub shares : List Row → List (Option Row)
shares rows = flat_map (λ row. replicate row.percent (Some row)) rows

-- of a hundred numbers from a first one on, each row of the host is picked exactly as often as its percent says
abbrev pub PicksEvenly : List Published → List ℕ → ℕ → Type 0
PicksEvenly tables host first = IsPermutation (along (pick_of tables host) first 100) (shares (rows_of host tables))
