use Rattle.std.proofs.Common.{◌≡◌, ℕ, ◌-◌, ◌<◌, ◌≤◌, length, map, Some, true, false}
use Rattle.std.specs.Prelude.{slice_get}
use Rattle.std.specs.Ordering.{is_lt}
use Rattle.slot_table.proofs.search.place_of.Given as goal

-- the keys before `low` are less, and those from `high` on aren't
abbrev pub invariant-loop-low : goal.invariant-loop-low
invariant-loop-low g l =
    let keys = map g.R.Keyed.key l.rows in
    record {
      ordered : l.low ≤ l.high;
      within : l.high ≤ length l.rows;
      before : (n : ℕ) (key : _) → n < l.low → slice_get keys n ≡ Some key → is_lt (g.R.Key.Ord.cmp key l.key) ≡ true;
      behind : (n : ℕ) (key : _) → l.high ≤ n → slice_get keys n ≡ Some key → is_lt (g.R.Key.Ord.cmp key l.key) ≡ false;
    }

abbrev pub decreases-loop-low : goal.decreases-loop-low
decreases-loop-low g l = l.high - l.low
