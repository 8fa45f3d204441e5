-- What a query asks.
use Rattle.std.specs.Prelude.{ℕ, Bool, not, ◌&&◌, ◌||◌, ◌==◌, nat_lt, nat_le, List, length, codes, Option, Some, None, count_by, find}
use Rattle.std.specs.List.{list_all, list_any, before_first, after_first, slice_split}
use Rattle.std.specs.Str.{bytes_eq}
use Rattle.std.specs.Str.Parse.{digits_value}
use Rattle.serve_names.specs.Counts.{is_digit}

-- the parts of a query, cut at each `&`
abbrev pub parts_of : List ℕ → List (List ℕ)
parts_of query = slice_split (λ b. b == 38) query

-- the name of a part, and the value behind its first `=`, which is empty where there is none
abbrev pub name_of : List ℕ → List ℕ
name_of part = before_first (λ b. b == 61) part

abbrev pub value_of : List ℕ → List ℕ
value_of part = after_first (λ b. b == 61) part

abbrev pub is_named : List ℕ → List ℕ → Bool
is_named name part = bytes_eq (name_of part) name

-- `dryRun` with a value
abbrev pub is_dry_run : List ℕ → Bool
is_dry_run part = is_named (codes "dryRun") part && nat_lt 0 (length (value_of part))

abbrev pub has_dry_run : List ℕ → Bool
has_dry_run query = list_any is_dry_run (parts_of query)

-- how many parts have the name
abbrev pub count_named : List ℕ → List ℕ → ℕ
count_named name query = count_by (is_named name) (parts_of query)

abbrev pub is_on : List ℕ → Bool
is_on value = bytes_eq value (codes "1") || bytes_eq value (codes "true")

abbrev pub is_off : List ℕ → Bool
is_off value = bytes_eq value (codes "0") || bytes_eq value (codes "false")

-- a part that is no `watch`, or one that is on or off
abbrev pub is_good_watch : List ℕ → Bool
is_good_watch part = not (is_named (codes "watch") part) || (is_on (value_of part) || is_off (value_of part))

-- decimal digits, none or up to 19
abbrev pub is_version : List ℕ → Bool
is_version value = nat_le (length value) 19 && list_all is_digit value

-- a part that is no `resourceVersion`, or one with a version
abbrev pub is_good_version : List ℕ → Bool
is_good_version part = not (is_named (codes "resourceVersion") part) || is_version (value_of part)

-- what the query of a list must be
abbrev pub is_good_list : List ℕ → Bool
is_good_list query =
    (nat_le (count_named (codes "watch") query) 1 && nat_le (count_named (codes "resourceVersion") query) 1)
    && (list_all is_good_watch (parts_of query) && list_all is_good_version (parts_of query))

-- a `watch` that is on
abbrev pub is_watch_on : List ℕ → Bool
is_watch_on part = is_named (codes "watch") part && is_on (value_of part)

abbrev pub is_watching : List ℕ → Bool
is_watching query = list_any is_watch_on (parts_of query)

-- the number that a version writes, and 0 where there is none
abbrev pub version_of : Option (List ℕ) → ℕ
version_of None = 0
version_of (Some part) = digits_value 10 (value_of part)

-- the version after which changes are wanted
abbrev pub version_after : List ℕ → ℕ
version_after query = version_of (find (is_named (codes "resourceVersion")) (parts_of query))
