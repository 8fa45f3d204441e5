-- The index: lists of versions, in order of key.
use Rattle.std.specs.Prelude.{◌≡◌, ℕ, suc, ◌+◌, ◌<◌, ◌≤◌, List, [], ◌∷◌, ◌++◌, length, map, slice_get, slice_index, Bool, cond, Option, Some, None, Result, Ok, Err, insert, remove}
use Rattle.std.proofs.Common.{set}
use Rattle.std.specs.List.{All}
use Rattle.std.specs.Vec.{vec_len, vec_capacity}
use Rattle.std.specs.declared.vec.Vec.{Vec}
use Rattle.std.specs.declared.cmp.Ordering.{Ordering}
use Rattle.std.specs.declared.cmp.Ordering.TheVariants.{Less, Equal, Greater}
use Rattle.version_store.specs.declared.item.Item.{Ghosts}
use Rattle.version_store.specs.declared.write.Entry.{Entry}
use Rattle.version_store.specs.State.{put, state, versions_of}
use Rattle.version_store.specs.Journal.{entry_at_version, last_version, newest_guard, AreStamped}

-- a version, and the key of its entry
abbrev pub Row : Type 0 → Type 0
Row K = ℕ × K

-- the key of a row
abbrev pub row_key : {K : Type 0} → Row K → K
row_key row = row.1

-- the version of a row
abbrev pub row_version : {K : Type 0} → Row K → ℕ
row_version row = row.0

-- the version of a row, or 0
abbrev pub version_of_row : {K : Type 0} → Option (Row K) → ℕ
version_of_row None = 0
version_of_row (Some row) = row.0

module _ {O D K N A : Type 0} where
  -- the rows after these entries, where n entries stand before them
  abbrev pub rows_from : (K → K → Ordering) → ℕ → List (Row K) → List (Entry O D K N A) → List (Row K)
  rows_from cmp n rows [] = rows
  rows_from cmp n rows (entry ∷ entries) = rows_from cmp (n + 1) (put row_key cmp (n + 1, entry.key) rows) entries

  -- the version of the last entry of every key that ever stood, in order of key
  abbrev pub last_rows : (K → K → Ordering) → List (Entry O D K N A) → List (Row K)
  last_rows cmp entries = rows_from cmp 0 [] entries

  -- for each of these entries the version of the entry before it on its key, or 0, where `before` are before them
  abbrev pub priors_from : (K → K → Ordering) → List (Entry O D K N A) → List (Entry O D K N A) → List ℕ
  priors_from cmp before [] = []
  priors_from cmp before (entry ∷ entries) = last_version cmp before entry.key ∷ priors_from cmp (before ++ entry ∷ []) entries

  -- for each entry the version of the entry before it on its key, or 0
  abbrev pub prior_versions : (K → K → Ordering) → List (Entry O D K N A) → List ℕ
  prior_versions cmp entries = priors_from cmp [] entries

  -- the keys with that of an entry before them
  abbrev pub with_key : Option (Entry O D K N A) → List K → List K
  with_key None keys = keys
  with_key (Some entry) keys = entry.key ∷ keys

  -- the keys of the entries at these versions
  abbrev pub keys_at : List (Entry O D K N A) → List ℕ → List K
  keys_at entries [] = []
  keys_at entries (version ∷ versions) = with_key (entry_at_version entries version) (keys_at entries versions)

-- how many elements at the head of a list pass the test
abbrev pub leading : {X : Type 0} → (X → Bool) → List X → ℕ
leading test [] = 0
leading test (x ∷ xs) = cond (test x) (suc (leading test xs)) 0

-- the place of a key by how the first key compares with it, and by its place among the others
abbrev pub searched : Ordering → Result ℕ ℕ → Result ℕ ℕ
searched Less (Ok place) = Ok (suc place)
searched Less (Err place) = Err (suc place)
searched Equal rest = Ok 0
searched Greater rest = Err 0

-- the place of the key among keys in order, or the place where it would go
abbrev pub search_in : {K : Type 0} → (K → K → Ordering) → K → List K → Result ℕ ℕ
search_in cmp key [] = Err 0
search_in cmp key (k ∷ keys) = searched (cmp k key) (search_in cmp key keys)

-- the place is one of n places, or for a key that is not there also the one behind them
abbrev pub IsPlaceIn : Result ℕ ℕ → ℕ → Type 0
IsPlaceIn (Ok place) n = place < n
IsPlaceIn (Err place) n = place ≤ n

-- the element at the place, if the key is there
abbrev pub found : {X : Type 0} → List X → Result ℕ ℕ → Option X
found xs (Ok place) = slice_get xs place
found xs (Err place) = None

-- the version at the place, if the key is there, or 0
abbrev pub version_found : List ℕ → Result ℕ ℕ → ℕ
version_found versions (Ok place) = slice_index versions place
version_found versions (Err place) = 0

-- the list with the element at the place, in place of the one of its key or before the one that is there
abbrev pub put_at : {X : Type 0} → X → List X → Result ℕ ℕ → List X
put_at x xs (Ok place) = set xs place x
put_at x xs (Err place) = insert xs place x

-- the list without the element at the place, if the key is there
abbrev pub removed_at : {X : Type 0} → List X → Result ℕ ℕ → List X
removed_at xs (Ok place) = remove xs place
removed_at xs (Err place) = xs

-- the list once an entry puts the element, or removes the key
abbrev pub changed_at : {X : Type 0} → Option X → List X → Result ℕ ℕ → List X
changed_at None xs place = removed_at xs place
changed_at (Some x) xs place = put_at x xs place

-- the key is less than all of these elements' keys
abbrev pub AreGreater : {X K : Type 0} → (X → K) → (K → K → Ordering) → K → List X → Type 0
AreGreater key_of cmp key [] = Unit {0}
AreGreater key_of cmp key (x ∷ xs) = (cmp key (key_of x) ≡ Less) × AreGreater key_of cmp key xs

-- each element's key is less than those of the later ones
abbrev pub AreInOrder : {X K : Type 0} → (X → K) → (K → K → Ordering) → List X → Type 0
AreInOrder key_of cmp [] = Unit {0}
AreInOrder key_of cmp (x ∷ xs) = AreGreater key_of cmp (key_of x) xs × AreInOrder key_of cmp xs

module _ {O D K N A : Type 0} where
  -- the numbers are versions of the journal, and the keys of their entries are in order
  pub record IsIndex (cmp : K → K → Ordering) (entries : List (Entry O D K N A)) (versions : List ℕ) : Type 0 where
    pub within : All (λ v. (1 ≤ v) × (v ≤ length entries)) versions
    pub ordered : AreInOrder (λ k. k) cmp (keys_at entries versions)

  -- the list holds the versions of the present objects, in order of key
  pub record IsPresentIndex (item : Ghosts O D K N A) (cmp : K → K → Ordering) (entries : List (Entry O D K N A)) (present : List ℕ) : Type 0 where
    pub stamped : AreStamped item cmp entries
    pub versions : present ≡ versions_of item.stamp (state item.key cmp entries)

  -- what a store keeps: the index agrees with the journal, and there is memory for `spare` more entries
  pub record IsIndexed {Z W V U : Type 0} (item : Ghosts O D K N A) (cmp : K → K → Ordering) (entries : Vec (Entry O D K N A) Z) (lasts : Vec ℕ W) (present : Vec ℕ V) (priors : Vec ℕ U) (newest spare : ℕ) : Type 0 where
    pub stamped : AreStamped item cmp entries.items
    pub last_versions : lasts.items ≡ map row_version (last_rows cmp entries.items)
    pub present_versions : present.items ≡ versions_of item.stamp (state item.key cmp entries.items)
    pub priors_before : priors.items ≡ prior_versions cmp entries.items
    pub guard : newest ≡ newest_guard item cmp entries.items
    pub room : vec_len entries + spare ≤ vec_capacity entries
    pub lasts_room : vec_len lasts + spare ≤ vec_capacity lasts
    pub present_room : vec_len present + spare ≤ vec_capacity present
    pub priors_room : vec_len priors + spare ≤ vec_capacity priors
