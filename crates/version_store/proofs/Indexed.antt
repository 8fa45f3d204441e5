-- Lists whose elements stand in the journal, each at its version.
use Rattle.std.proofs.Common.{◌≡◌, ℕ, zero, suc, ◌+◌, ◌<◌, List, [], ◌∷◌, ◌++◌, length, get_or, Bool, true, false, cond, Some, Ordering, refl, ap, subst, ◌∙◌, arith}
use Rattle.std.specs.Prelude.{slice_get, map}
use Rattle.std.specs.List.{All}
use Rattle.std.specs.Ordering.{is_eq}
use Rattle.std.proofs.lemmas.Option.{slice_get_within}
use Rattle.std.specs.declared.cmp.Ordering.TheVariants.{Less, Equal, Greater}
use Rattle.version_store.specs.declared.write.Entry.{Entry}
use Rattle.version_store.specs.State.{placed, put, without}
use Rattle.version_store.specs.Journal.{entry_at_version}
use Rattle.version_store.specs.Index.{with_key, keys_at}
use Rattle.version_store.proofs.Keys.{IsVersionOf}

-- the version is a position of the journal
pub version_within : {E : Type 0} (entries : List E) (v : ℕ) (entry : E) → entry_at_version entries v ≡ Some entry → IsVersionOf entries v
version_within entries zero entry e = absurd cc
version_within entries (suc n) entry e = let lt : n < length entries = slice_get_within entries n entry e in (omega arith, omega arith)

all_nil : {X : Type 0} (P : X → Type 0) → All P []
all_nil P = λ k d lt. absurd (omega (arith, lt))

all_cons : {X : Type 0} (P : X → Type 0) (x : X) (xs : List X) → P x → All P xs → All P (x ∷ xs)
all_cons P x xs p h = at
  where
    at : (k : ℕ) (d : _) → k < length (x ∷ xs) → P (get_or (x ∷ xs) k d)
    at zero d lt = p
    at (suc k) d lt = let lt' : k < length xs = omega (arith, lt) in h k d lt'

-- the entry of a position, where the journal is split there
pub entry_between : {E : Type 0} (before rest : List E) (entry : E) → slice_get (before ++ entry ∷ rest) (length before) ≡ Some entry
entry_between [] rest entry = refl
entry_between (b ∷ before) rest entry = entry_between before rest entry

pub entry_at_split : {E : Type 0} (all before rest : List E) (entry : E) (n : ℕ) → all ≡ before ++ entry ∷ rest → n ≡ length before → entry_at_version all (n + 1) ≡ Some entry
entry_at_split all before rest entry n e l =
    let one : n + 1 ≡ suc (length before) = omega (arith, l) in
    rw (one, e) (entry_between before rest entry)

entry_get-more : {E : Type 0} (entries more : List E) (n : ℕ) (entry : E) → slice_get entries n ≡ Some entry → slice_get (entries ++ more) n ≡ Some entry
entry_get-more [] more n entry e = absurd cc
entry_get-more (x ∷ entries) more zero entry e = e
entry_get-more (x ∷ entries) more (suc n) entry e = entry_get-more entries more n entry e

-- an entry keeps its version as the journal grows
pub entry_at-more : {E : Type 0} (entries more : List E) (v : ℕ) (entry : E) → entry_at_version entries v ≡ Some entry → entry_at_version (entries ++ more) v ≡ Some entry
entry_at-more entries more zero entry e = absurd cc
entry_at-more entries more (suc n) entry e = entry_get-more entries more n entry e

module _ {O D K N A X : Type 0} (version_of : X → ℕ) (key_of : X → K) (Of : Entry O D K N A → X → Type 0) where
  -- the element is of the entry at its version, and has its key
  pub record IsIn (entries : List (Entry O D K N A)) (x : X) : Type 0 where
    pub entry : Entry O D K N A
    pub at : entry_at_version entries (version_of x) ≡ Some entry
    pub key : entry.key ≡ key_of x
    pub is : Of entry x

  abbrev pub AreIn : List (Entry O D K N A) → List X → Type 0
  AreIn entries [] = Unit {0}
  AreIn entries (x ∷ xs) = IsIn entries x × AreIn entries xs

  in-placed : (entries : List (Entry O D K N A)) (new x : X) (xs rest : List X) → IsIn entries new → AreIn entries (x ∷ xs) → AreIn entries rest → (r : Ordering) → AreIn entries (placed r new x xs rest)
  in-placed entries new x xs rest n h re Less = (n, h)
  in-placed entries new x xs rest n h re Equal = (n, h.1)
  in-placed entries new x xs rest n h re Greater = (h.0, re)

  pub in-put : (cmp : K → K → Ordering) (entries : List (Entry O D K N A)) (new : X) (xs : List X) → IsIn entries new → AreIn entries xs → AreIn entries (put key_of cmp new xs)
  in-put cmp entries new [] n h = (n, tt)
  in-put cmp entries new (x ∷ xs) n h = in-placed entries new x xs (put key_of cmp new xs) n h (in-put cmp entries new xs n h.1) (cmp (key_of new) (key_of x))

  in-kept : (entries : List (Entry O D K N A)) (x : X) (rest : List X) (b : Bool) → IsIn entries x → AreIn entries rest → AreIn entries (cond b rest (x ∷ rest))
  in-kept entries x rest true n h = h
  in-kept entries x rest false n h = (n, h)

  pub in-without : (cmp : K → K → Ordering) (entries : List (Entry O D K N A)) (gone : K) (xs : List X) → AreIn entries xs → AreIn entries (without key_of cmp gone xs)
  in-without cmp entries gone [] h = tt
  in-without cmp entries gone (x ∷ xs) h = in-kept entries x (without key_of cmp gone xs) (is_eq (cmp (key_of x) gone)) h.0 (in-without cmp entries gone xs h.1)

  pub in-more : (entries more : List (Entry O D K N A)) (xs : List X) → AreIn entries xs → AreIn (entries ++ more) xs
  in-more entries more [] h = tt
  in-more entries more (x ∷ xs) h =
      let one : IsIn entries x = h.0 in
      (record { entry = one.entry; at = entry_at-more entries more (version_of x) one.entry one.at; key = one.key; is = one.is }, in-more entries more xs h.1)

  -- the keys at the versions are the elements' keys
  pub keys_at-versions : (entries : List (Entry O D K N A)) (xs : List X) → AreIn entries xs → keys_at entries (map version_of xs) ≡ map key_of xs
  keys_at-versions entries [] h = refl
  keys_at-versions entries (x ∷ xs) h =
      let one : IsIn entries x = h.0 in
      ap (λ o. with_key o (keys_at entries (map version_of xs))) one.at ∙ ap (λ k. k ∷ keys_at entries (map version_of xs)) one.key ∙ ap (λ ks. key_of x ∷ ks) (keys_at-versions entries xs h.1)

  pub versions_within : (entries : List (Entry O D K N A)) (xs : List X) → AreIn entries xs → All (IsVersionOf entries) (map version_of xs)
  versions_within entries [] h = all_nil (IsVersionOf entries)
  versions_within entries (x ∷ xs) h =
      let one : IsIn entries x = h.0 in
      all_cons (IsVersionOf entries) (version_of x) (map version_of xs) (version_within entries (version_of x) one.entry one.at) (versions_within entries xs h.1)

  pub IsIn-at : (entries : List (Entry O D K N A)) (xs : List X) (n : ℕ) (x : X) → AreIn entries xs → slice_get xs n ≡ Some x → IsIn entries x
  IsIn-at entries [] n x h e = absurd cc
  IsIn-at entries (y ∷ xs) zero x h e = let f : y ≡ x = cc in subst (IsIn entries) f h.0
  IsIn-at entries (y ∷ xs) (suc n) x h e = IsIn-at entries xs n x h.1 e
