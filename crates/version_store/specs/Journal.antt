-- The journal: all that was written, in order. A version is a position in it, counted from 1.
use Rattle.std.specs.Prelude.{◌≡◌, ℕ, zero, suc, ◌+◌, ◌<◌, List, [], ◌∷◌, length, take, drop, slice_get, Bool, true, false, not, ◌&&◌, cond, Option, Some, None}
use Rattle.std.specs.Ordering.{is_eq}
use Rattle.std.specs.declared.cmp.Ordering.{Ordering}
use Rattle.version_store.specs.declared.item.Stamp.{Stamp}
use Rattle.version_store.specs.declared.item.Item.{Ghosts}
use Rattle.version_store.specs.declared.write.Entry.{Entry}
use Rattle.version_store.specs.State.{find, changed, state}

-- what contracts see of a store: its journal, and for how many more entries it has memory
pub record StoreView (E : Type 0) : Type 0 where
  pub entries : List E
  pub spare : ℕ

-- the entry of a version, if there is one
abbrev pub entry_at_version : {E : Type 0} → List E → ℕ → Option E
entry_at_version entries zero = None
entry_at_version entries (suc n) = slice_get entries n

module _ {O D K N A : Type 0} where
  -- the version of the key's last entry, where n entries stand before these and the last so far is `last`
  abbrev pub last_from : (K → K → Ordering) → K → ℕ → ℕ → List (Entry O D K N A) → ℕ
  last_from cmp key n last [] = last
  last_from cmp key n last (entry ∷ entries) = last_from cmp key (n + 1) (cond (is_eq (cmp entry.key key)) (n + 1) last) entries

  -- the version of the key's last entry, or 0
  abbrev pub last_version : (K → K → Ordering) → List (Entry O D K N A) → K → ℕ
  last_version cmp entries key = last_from cmp key 0 0 entries

  -- the versions, counted on from n, of the entries on a kind
  abbrev pub changes_from : (K → D) → (D → D → Bool) → D → ℕ → List (Entry O D K N A) → List ℕ
  changes_from kind_of kind_eq kind n [] = []
  changes_from kind_of kind_eq kind n (entry ∷ entries) =
      cond (kind_eq (kind_of entry.key) kind) ((n + 1) ∷ changes_from kind_of kind_eq kind (n + 1) entries) (changes_from kind_of kind_eq kind (n + 1) entries)

  -- the versions of the first `most` entries on a kind after a position
  abbrev pub changes : (K → D) → (D → D → Bool) → List (Entry O D K N A) → D → ℕ → ℕ → List ℕ
  changes kind_of kind_eq entries kind after most = take most (changes_from kind_of kind_eq kind after (drop after entries))

-- what an entry puts, if there is one and it does not remove
abbrev pub object_in : {O D K N A : Type 0} → Option (Entry O D K N A) → Option O
object_in None = None
object_in (Some entry) = entry.object

-- whether the object is another spec than what stood before it
abbrev pub is_new_spec : {O : Type 0} → (O → O → Bool) → Option O → O → Bool
is_new_spec same_spec None object = true
is_new_spec same_spec (Some standing) object = not (same_spec standing object)

module _ {O D K N A : Type 0} where
  -- whether an entry makes a guarding object or changes its spec
  abbrev pub changes_guard : Ghosts O D K N A → Option O → Option O → Bool
  changes_guard item standing None = false
  changes_guard item standing (Some object) = item.guards object && is_new_spec item.same_spec standing object

  -- the newest such version, where n entries stand before these, `st` stands, and it is `newest` so far
  abbrev pub guard_from : Ghosts O D K N A → (K → K → Ordering) → List O → ℕ → ℕ → List (Entry O D K N A) → ℕ
  guard_from item cmp st n newest [] = newest
  guard_from item cmp st n newest (entry ∷ entries) =
      guard_from item cmp (changed item.key cmp entry.key entry.object st) (n + 1)
      (cond (changes_guard item (find item.key cmp entry.key st) entry.object) (n + 1) newest) entries

  -- the version of the last entry that made a guarding object or changed its spec, or 0
  abbrev pub newest_guard : Ghosts O D K N A → (K → K → Ordering) → List (Entry O D K N A) → ℕ
  newest_guard item cmp entries = guard_from item cmp [] 0 0 entries

  -- the stamp of an object that is put at a version and a moment, where `standing` stands
  abbrev pub next_stamp : Ghosts O D K N A → Option O → O → ℕ → ℕ → Stamp
  next_stamp item None object version moment = record { version = version; generation = 1; uid = version; created = moment }
  next_stamp item (Some standing) object version moment =
      let old = item.stamp standing in
      record { version = version; generation = old.generation + cond (item.same_spec standing object) 0 1; uid = old.uid; created = old.created }

  -- the stamp that the object would get if it were put now
  abbrev pub stamp_after : Ghosts O D K N A → (K → K → Ordering) → List (Entry O D K N A) → O → ℕ → Stamp
  stamp_after item cmp entries object moment = next_stamp item (find item.key cmp (item.key object) (state item.key cmp entries)) object (length entries + 1) moment

  -- what an entry puts at a version has the entry's key, and the stamp that is due to it
  abbrev pub IsStamped : Ghosts O D K N A → Option O → ℕ → K → Option O → ℕ → Type 0
  IsStamped item standing version key None moment = Unit {0}
  IsStamped item standing version key (Some object) moment = (item.key object ≡ key) × (item.stamp object ≡ next_stamp item standing object version moment)

  -- so does each of these entries, where n entries stand before them and `st` stands
  abbrev pub AreStampedFrom : Ghosts O D K N A → (K → K → Ordering) → List O → ℕ → List (Entry O D K N A) → Type 0
  AreStampedFrom item cmp st n [] = Unit {0}
  AreStampedFrom item cmp st n (entry ∷ entries) =
      IsStamped item (find item.key cmp entry.key st) (n + 1) entry.key entry.object entry.moment
      × AreStampedFrom item cmp (changed item.key cmp entry.key entry.object st) (n + 1) entries

  -- each entry of the journal puts an object of its key, with the stamp that is due to it
  abbrev pub AreStamped : Ghosts O D K N A → (K → K → Ordering) → List (Entry O D K N A) → Type 0
  AreStamped item cmp entries = AreStampedFrom item cmp [] 0 entries

-- the object's generation, if there is one, is less than the number
abbrev pub GenerationBelow : {O : Type 0} → (O → Stamp) → ℕ → Option O → Type 0
GenerationBelow stamp n None = Unit {0}
GenerationBelow stamp n (Some object) = (stamp object).generation < n
