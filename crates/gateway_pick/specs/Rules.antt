-- What the rows of a Table must be.
use Rattle.std.specs.Prelude.{◌==◌, ◌&&◌, ◌||◌, ℕ, Bool, true, not, List, [], ◌∷◌, nat_le, if◌then◌else◌}
use Rattle.std.specs.List.{list_all, sum_by}
use Rattle.std.specs.Str.{bytes_eq}
use Rattle.resource_types.specs.declared.specification.Row.{Row}
use Rattle.resource_types.specs.Lookups.{is_empty}

-- the row has no tag
abbrev pub has_no_tag : Row → Bool
has_no_tag row = is_empty row.tag

-- a percent from 1 to 100; a row with a tag has all of them
abbrev pub has_good_percent : Row → Bool
has_good_percent row = nat_le 1 row.percent && (nat_le row.percent 100 && (has_no_tag row || row.percent == 100))

-- Whether two rows may stand in one Table: two without tag have one host and two Revisions, and of any other two both the tags
-- and the hosts differ.
abbrev pub agree : Row → Row → Bool
agree one other =
    if has_no_tag one && has_no_tag other
    then bytes_eq one.host other.host && not (bytes_eq one.revision other.revision)
    else not (bytes_eq one.tag other.tag) && not (bytes_eq one.host other.host)

-- any two of the rows may stand in one Table
abbrev pub all_agree : List Row → Bool
all_agree [] = true
all_agree (row ∷ rows) = list_all (agree row) rows && all_agree rows

-- the percent of a row without tag, and nothing of another
abbrev pub percent_without_tag : Row → ℕ
percent_without_tag row = if has_no_tag row then row.percent else 0

-- The rows of a Table: those without tag have all percents together, so that there is one.
abbrev pub are_rows : List Row → Bool
are_rows rows = list_all has_good_percent rows && (sum_by percent_without_tag rows == 100 && all_agree rows)
