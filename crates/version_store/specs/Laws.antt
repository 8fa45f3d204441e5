-- The laws of an item.
use Rattle.std.specs.Prelude.{◌≡◌, Bool, true}
use Rattle.std.specs.declared.cmp.Ordering.{Ordering}
use Rattle.std.specs.declared.cmp.Ordering.TheVariants.{Less, Greater}
use Rattle.std.specs.Cmp.{IsEquivalence}
use Rattle.version_store.specs.declared.item.Stamp.{Stamp}

-- to give a stamp changes the stamp, and nothing else
pub record ChangesStampAlone {O K : Type 0} (key : O → K) (stamp : O → Stamp) (stamped : O → Stamp → O) (same_spec : O → O → Bool) (guards : O → Bool) : Type 0 where
  pub given : (o : O) (s : Stamp) → stamp (stamped o s) ≡ s
  pub last_counts : (o : O) (s t : Stamp) → stamped (stamped o s) t ≡ stamped o t
  pub own : (o : O) → stamped o (stamp o) ≡ o
  pub same_key : (o : O) (s : Stamp) → key (stamped o s) ≡ key o
  pub spec_stays : (o : O) (s : Stamp) → same_spec o (stamped o s) ≡ true
  pub guards_stays : (o : O) (s : Stamp) → guards (stamped o s) ≡ guards o

-- it is an equivalence and looks at all but the stamps: objects of one key that are the same are equal once both have
-- one stamp. Keys may compare as equal and differ, so that they are is a premise.
pub record IsSameButStamp {O K : Type 0} (key : O → K) (stamped : O → Stamp → O) (same : O → O → Bool) : Type 0 where
  pub alike : IsEquivalence same
  pub stamps : (o p : O) (s t : Stamp) → same (stamped o s) (stamped p t) ≡ same o p
  pub exact : (o p : O) (s : Stamp) → key o ≡ key p → same o p ≡ true → stamped o s ≡ stamped p s

-- the keys of a lesser kind come first, so the keys of one kind stand next to each other
abbrev pub KeepsKindsTogether : {K D : Type 0} → (K → K → Ordering) → (K → D) → (D → D → Ordering) → Type 0
KeepsKindsTogether {K} key_cmp kind_of kind_cmp = (a b : K) → kind_cmp (kind_of a) (kind_of b) ≡ Less → key_cmp a b ≡ Less

-- a cut of the keys: with a key that is before it, all lesser ones are
abbrev pub IsBeforeCut : {K : Type 0} → (K → K → Ordering) → (K → Bool) → Type 0
IsBeforeCut {K} key_cmp before = (a b : K) → key_cmp a b ≡ Less → before b ≡ true → before a ≡ true

-- keys that stand next to each other, of which `side` tells what is before (`Less`), among and behind them (`Greater`):
-- what is less than a key before them is before them, and what is greater than a key behind them is behind them
pub record IsSpan {K : Type 0} (key_cmp : K → K → Ordering) (side : K → Ordering) : Type 0 where
  pub before : (a b : K) → key_cmp a b ≡ Less → side b ≡ Less → side a ≡ Less
  pub behind : (a b : K) → key_cmp a b ≡ Less → side a ≡ Greater → side b ≡ Greater
