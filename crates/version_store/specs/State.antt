-- The state: the objects that stand, in order of key.
use Rattle.std.specs.Prelude.{◌≡◌, ℕ, ◌≤◌, List, [], ◌∷◌, length, take, map, slice_get, Bool, cond, Option, Some, None}
use Rattle.std.specs.List.{filter}
use Rattle.std.specs.Ordering.{is_eq, is_gt}
use Rattle.std.specs.declared.cmp.Ordering.{Ordering}
use Rattle.std.specs.declared.cmp.Ordering.TheVariants.{Less, Equal, Greater}
use Rattle.version_store.specs.declared.item.Stamp.{Stamp}
use Rattle.version_store.specs.declared.write.Entry.{Entry}

-- a list with a new element before, in place of or behind its first one
abbrev pub placed : {X : Type 0} → Ordering → X → X → List X → List X → List X
placed Less new x xs rest = new ∷ x ∷ xs
placed Equal new x xs rest = new ∷ xs
placed Greater new x xs rest = x ∷ rest

module _ {X K : Type 0} where
  -- the element of the key
  abbrev pub find : (X → K) → (K → K → Ordering) → K → List X → Option X
  find key_of cmp key [] = None
  find key_of cmp key (x ∷ xs) = cond (is_eq (cmp (key_of x) key)) (Some x) (find key_of cmp key xs)

  -- the list with the element at its place, or in place of the element of its key
  abbrev pub put : (X → K) → (K → K → Ordering) → X → List X → List X
  put key_of cmp new [] = new ∷ []
  put key_of cmp new (x ∷ xs) = placed (cmp (key_of new) (key_of x)) new x xs (put key_of cmp new xs)

  -- the list without the element of the key
  abbrev pub without : (X → K) → (K → K → Ordering) → K → List X → List X
  without key_of cmp key [] = []
  without key_of cmp key (x ∷ xs) = cond (is_eq (cmp (key_of x) key)) (without key_of cmp key xs) (x ∷ without key_of cmp key xs)

  -- the list with what an entry on the key puts, or without what it removes
  abbrev pub changed : (X → K) → (K → K → Ordering) → K → Option X → List X → List X
  changed key_of cmp key None xs = without key_of cmp key xs
  changed key_of cmp key (Some x) xs = put key_of cmp x xs

-- whether an object's key is of the kind
abbrev pub is_of_kind : {O K D : Type 0} → (O → K) → (K → D) → (D → D → Bool) → D → O → Bool
is_of_kind key_of kind_of kind_eq kind o = kind_eq (kind_of (key_of o)) kind

-- the objects of a kind, in order of key
abbrev pub of_kind : {O K D : Type 0} → (O → K) → (K → D) → (D → D → Bool) → D → List O → List O
of_kind key_of kind_of kind_eq kind st = filter (is_of_kind key_of kind_of kind_eq kind) st

-- the objects whose keys are in a span, in order of key: `side` tells of a key whether it is before, in or behind it
abbrev pub in_span : {O K : Type 0} → (O → K) → (K → Ordering) → List O → List O
in_span key_of side st = filter (λ o. is_eq (side (key_of o))) st

-- the objects behind a key, in order of key
abbrev pub behind : {O K : Type 0} → (O → K) → (K → K → Ordering) → K → List O → List O
behind key_of cmp key st = filter (λ o. is_gt (cmp (key_of o) key)) st

-- the versions of objects
abbrev pub versions_of : {O : Type 0} → (O → Stamp) → List O → List ℕ
versions_of stamp st = map (λ o. (stamp o).version) st

module _ {O D K N A : Type 0} where
  -- what stands after these entries, where `st` stood before them
  abbrev pub state_from : (O → K) → (K → K → Ordering) → List O → List (Entry O D K N A) → List O
  state_from key_of cmp st [] = st
  state_from key_of cmp st (entry ∷ entries) = state_from key_of cmp (changed key_of cmp entry.key entry.object st) entries

  -- the objects that stand after these entries
  abbrev pub state : (O → K) → (K → K → Ordering) → List (Entry O D K N A) → List O
  state key_of cmp entries = state_from key_of cmp [] entries

  -- the objects that stood after the first n entries
  abbrev pub state_at : (O → K) → (K → K → Ordering) → List (Entry O D K N A) → ℕ → List O
  state_at key_of cmp entries n = state key_of cmp (take n entries)

  -- what stood under the entry's key after the first n entries, if there is an entry
  abbrev pub standing_under : (O → K) → (K → K → Ordering) → List (Entry O D K N A) → ℕ → Option (Entry O D K N A) → Option O
  standing_under key_of cmp entries n None = None
  standing_under key_of cmp entries n (Some entry) = find key_of cmp entry.key (state_at key_of cmp entries n)

  -- the object that the entry at a place replaced or removed: what stood under its key after the entries before it
  abbrev pub replaced_at : (O → K) → (K → K → Ordering) → List (Entry O D K N A) → ℕ → Option O
  replaced_at key_of cmp entries place = standing_under key_of cmp entries place (slice_get entries place)

-- a journal that grew at its end, if at all
pub record Grows {E : Type 0} (old new : List E) : Type 0 where
  pub longer : length old ≤ length new
  pub same : take (length old) new ≡ old
