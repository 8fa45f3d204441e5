-- The keys at the versions of an index.
use Rattle.std.proofs.Common.{◌≡◌, ℕ, zero, suc, ◌-◌, ◌<◌, ◌≤◌, List, [], ◌∷◌, length, get_or, Some, refl, ap, ◌∙◌, arith}
use Rattle.std.specs.Prelude.{slice_get}
use Rattle.std.specs.List.{All}
use Rattle.std.proofs.lemmas.Option.{slice_get_read}
use Rattle.version_store.specs.declared.write.Entry.{Entry}
use Rattle.version_store.specs.Journal.{entry_at_version}
use Rattle.version_store.specs.Index.{with_key, keys_at}

-- a position of the journal, counted from 1
abbrev pub IsVersionOf : {E : Type 0} → List E → ℕ → Type 0
IsVersionOf entries v = (1 ≤ v) × (v ≤ length entries)

pub some_at : {X : Type 0} (xs : List X) (n : ℕ) → n < length xs → (x : X) × (slice_get xs n ≡ Some x)
some_at [] n lt = absurd (omega arith)
some_at (x ∷ xs) zero lt = (x, refl)
some_at (x ∷ xs) (suc n) lt = let lt' : n < length xs = omega arith in some_at xs n lt'

pub at_version : {E : Type 0} (entries : List E) (v : ℕ) → IsVersionOf entries v → (entry : E) × (entry_at_version entries v ≡ Some entry)
at_version entries zero h = absurd (omega (arith, h.0))
at_version entries (suc n) h = some_at entries n (omega (arith, h.1))

pub entry_at_version-get : {E : Type 0} (entries : List E) (v : ℕ) (entry : E) → 1 ≤ v → slice_get entries (v - 1) ≡ Some entry → entry_at_version entries v ≡ Some entry
entry_at_version-get entries zero entry h e = absurd (omega (arith, h))
entry_at_version-get entries (suc n) entry h e = let one : n ≡ suc n - 1 = omega arith in ap (slice_get entries) one ∙ e

head_all : {X : Type 0} (P : X → Type 0) (x : X) (xs : List X) → All P (x ∷ xs) → P x
head_all P x xs h = h 0 x (omega arith)

tail_all : {X : Type 0} (P : X → Type 0) (x : X) (xs : List X) → All P (x ∷ xs) → All P xs
tail_all P x xs h = λ k d lt. let lt' : suc k < length (x ∷ xs) = omega (arith, lt) in h (suc k) d lt'

module _ {O D K N A : Type 0} (entries : List (Entry O D K N A)) where
  pub length-keys_at : (versions : List ℕ) → All (IsVersionOf entries) versions → length (keys_at entries versions) ≡ length versions
  length-keys_at [] h = refl
  length-keys_at (v ∷ vs) h =
      let here = at_version entries v (head_all (IsVersionOf entries) v vs h) in
      ap (λ o. length (with_key o (keys_at entries vs))) here.1 ∙ ap suc (length-keys_at vs (tail_all (IsVersionOf entries) v vs h))

  pub slice_get-keys_at : (versions : List ℕ) (place : ℕ) (entry : Entry O D K N A) → All (IsVersionOf entries) versions → place < length versions → entry_at_version entries (get_or versions place 0) ≡ Some entry → slice_get (keys_at entries versions) place ≡ Some entry.key
  slice_get-keys_at [] place entry h lt e = absurd (omega (arith, lt))
  slice_get-keys_at (v ∷ vs) zero entry h lt e = ap (λ o. slice_get (with_key o (keys_at entries vs)) zero) e
  slice_get-keys_at (v ∷ vs) (suc p) entry h lt e =
      let here = at_version entries v (head_all (IsVersionOf entries) v vs h) in
      let lt' : p < length vs = omega (arith, lt) in
      ap (λ o. slice_get (with_key o (keys_at entries vs)) (suc p)) here.1 ∙ slice_get-keys_at vs p entry (tail_all (IsVersionOf entries) v vs h) lt' e

  -- the entry that is read at a place of the versions has the key at that place
  pub key_read : (versions : List ℕ) (place : ℕ) (entry : Entry O D K N A) → All (IsVersionOf entries) versions → place < length versions → entry ≡ get_or entries (get_or versions place 0 - 1) entry → slice_get (keys_at entries versions) place ≡ Some entry.key
  key_read versions place entry h lt e =
      let is = h place 0 lt in
      let lt' : get_or versions place 0 - 1 < length entries = omega (arith, is.0, is.1) in
      slice_get-keys_at versions place entry h lt (entry_at_version-get entries (get_or versions place 0) entry is.0 (slice_get_read entries (length entries) _ entry refl lt' e))
