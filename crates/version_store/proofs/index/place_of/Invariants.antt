use Rattle.std.proofs.Common.{◌≡◌, ℕ, ◌-◌, ◌<◌, ◌≤◌, length, Some, true, false}
use Rattle.std.specs.Prelude.{slice_get}
use Rattle.version_store.specs.Index.{keys_at}
use Rattle.version_store.proofs.index.place_of.Given as goal

abbrev pub invariant-loop-low : goal.invariant-loop-low
invariant-loop-low g l =
    let keys = keys_at l.entries l.versions in
    record {
      ordered : l.low ≤ l.high;
      within : l.high ≤ length l.versions;
      before : (n : ℕ) (key : _) → n < l.low → slice_get keys n ≡ Some key → g.C.Cut.before l.cut key ≡ true;
      behind : (n : ℕ) (key : _) → l.high ≤ n → slice_get keys n ≡ Some key → g.C.Cut.before l.cut key ≡ false;
    }

abbrev pub decreases-loop-low : goal.decreases-loop-low
decreases-loop-low g l = l.high - l.low
