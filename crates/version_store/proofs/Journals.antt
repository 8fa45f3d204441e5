-- The laws of one entry more.
use Rattle.std.proofs.Common.{◌≡◌, ℕ, suc, ◌+◌, List, [], ◌∷◌, ◌++◌, length, cond, Ordering, refl, ap, subst, ◌∙◌, arith}
use Rattle.std.specs.Ordering.{is_eq}
use Rattle.version_store.specs.declared.item.Item.{Ghosts}
use Rattle.version_store.specs.declared.write.Entry.{Entry}
use Rattle.version_store.specs.State.{find, changed, state_from, state, put}
use Rattle.version_store.specs.Journal.{last_from, last_version, changes_guard, guard_from, newest_guard, IsStamped, AreStampedFrom, AreStamped}
use Rattle.version_store.specs.Index.{row_key, rows_from, last_rows}

module _ {O D K N A : Type 0} (key_of : O → K) (cmp : K → K → Ordering) where
  state_from-push : (st : List O) (entries : List (Entry O D K N A)) (entry : Entry O D K N A) → state_from key_of cmp st (entries ++ entry ∷ []) ≡ changed key_of cmp entry.key entry.object (state_from key_of cmp st entries)
  state_from-push st [] entry = refl
  state_from-push st (first ∷ entries) entry = state_from-push (changed key_of cmp first.key first.object st) entries entry

  -- the state after one entry more
  pub state-push : (entries : List (Entry O D K N A)) (entry : Entry O D K N A) → state key_of cmp (entries ++ entry ∷ []) ≡ changed key_of cmp entry.key entry.object (state key_of cmp entries)
  state-push entries entry = state_from-push [] entries entry

module _ {O D K N A : Type 0} (cmp : K → K → Ordering) where
  last_from-push : (key : K) (n last : ℕ) (entries : List (Entry O D K N A)) (entry : Entry O D K N A) → last_from cmp key n last (entries ++ entry ∷ []) ≡ cond (is_eq (cmp entry.key key)) (n + length entries + 1) (last_from cmp key n last entries)
  last_from-push key n last [] entry = let e : n + 1 ≡ n + 0 + 1 = omega arith in ap (λ m. cond (is_eq (cmp entry.key key)) m last) e
  last_from-push key n last (first ∷ entries) entry =
      let e : (n + 1) + length entries + 1 ≡ n + suc (length entries) + 1 = omega arith in
      let next = cond (is_eq (cmp first.key key)) (n + 1) last in
      last_from-push key (n + 1) next entries entry ∙ ap (λ m. cond (is_eq (cmp entry.key key)) m (last_from cmp key (n + 1) next entries)) e

  -- the last version of a key after one entry more
  pub last_version-push : (entries : List (Entry O D K N A)) (entry : Entry O D K N A) (key : K) → last_version cmp (entries ++ entry ∷ []) key ≡ cond (is_eq (cmp entry.key key)) (length entries + 1) (last_version cmp entries key)
  last_version-push entries entry key =
      let e : 0 + length entries + 1 ≡ length entries + 1 = omega arith in
      last_from-push key 0 0 entries entry ∙ ap (λ m. cond (is_eq (cmp entry.key key)) m (last_version cmp entries key)) e

  rows_from-push : (n : ℕ) (rows : List (ℕ × K)) (entries : List (Entry O D K N A)) (entry : Entry O D K N A) → rows_from cmp n rows (entries ++ entry ∷ []) ≡ put row_key cmp (n + length entries + 1, entry.key) (rows_from cmp n rows entries)
  rows_from-push n rows [] entry = let e : n + 1 ≡ n + 0 + 1 = omega arith in ap (λ m. put row_key cmp (m, entry.key) rows) e
  rows_from-push n rows (first ∷ entries) entry =
      let e : (n + 1) + length entries + 1 ≡ n + suc (length entries) + 1 = omega arith in
      let next = put row_key cmp (n + 1, first.key) rows in
      rows_from-push (n + 1) next entries entry ∙ ap (λ m. put row_key cmp (m, entry.key) (rows_from cmp (n + 1) next entries)) e

  pub last_rows-push : (entries : List (Entry O D K N A)) (entry : Entry O D K N A) → last_rows cmp (entries ++ entry ∷ []) ≡ put row_key cmp (length entries + 1, entry.key) (last_rows cmp entries)
  last_rows-push entries entry =
      let e : 0 + length entries + 1 ≡ length entries + 1 = omega arith in
      rows_from-push 0 [] entries entry ∙ ap (λ m. put row_key cmp (m, entry.key) (last_rows cmp entries)) e

module _ {O D K N A : Type 0} (item : Ghosts O D K N A) (cmp : K → K → Ordering) where
  guard_from-push : (st : List O) (n newest : ℕ) (entries : List (Entry O D K N A)) (entry : Entry O D K N A)
      → guard_from item cmp st n newest (entries ++ entry ∷ [])
      ≡ cond (changes_guard item (find item.key cmp entry.key (state_from item.key cmp st entries)) entry.object) (n + length entries + 1) (guard_from item cmp st n newest entries)
  guard_from-push st n newest [] entry = let e : n + 1 ≡ n + 0 + 1 = omega arith in ap (λ m. cond (changes_guard item (find item.key cmp entry.key st) entry.object) m newest) e
  guard_from-push st n newest (first ∷ entries) entry =
      let e : (n + 1) + length entries + 1 ≡ n + suc (length entries) + 1 = omega arith in
      let st' = changed item.key cmp first.key first.object st in
      let newest' = cond (changes_guard item (find item.key cmp first.key st) first.object) (n + 1) newest in
      guard_from-push st' (n + 1) newest' entries entry
      ∙ ap (λ m. cond (changes_guard item (find item.key cmp entry.key (state_from item.key cmp st' entries)) entry.object) m (guard_from item cmp st' (n + 1) newest' entries)) e

  -- the newest change of a guard after one entry more
  pub newest_guard-push : (entries : List (Entry O D K N A)) (entry : Entry O D K N A)
      → newest_guard item cmp (entries ++ entry ∷ []) ≡ cond (changes_guard item (find item.key cmp entry.key (state item.key cmp entries)) entry.object) (length entries + 1) (newest_guard item cmp entries)
  newest_guard-push entries entry =
      let e : 0 + length entries + 1 ≡ length entries + 1 = omega arith in
      guard_from-push [] 0 0 entries entry ∙ ap (λ m. cond (changes_guard item (find item.key cmp entry.key (state item.key cmp entries)) entry.object) m (newest_guard item cmp entries)) e

  stamped_from-push : (st : List O) (n : ℕ) (entries : List (Entry O D K N A)) (entry : Entry O D K N A) → AreStampedFrom item cmp st n entries
      → IsStamped item (find item.key cmp entry.key (state_from item.key cmp st entries)) (n + length entries + 1) entry.key entry.object entry.moment
      → AreStampedFrom item cmp st n (entries ++ entry ∷ [])
  stamped_from-push st n [] entry all one =
      let e : n + 0 + 1 ≡ n + 1 = omega arith in
      (subst (λ m. IsStamped item (find item.key cmp entry.key st) m entry.key entry.object entry.moment) e one, tt)
  stamped_from-push st n (first ∷ entries) entry all one =
      let e : n + suc (length entries) + 1 ≡ (n + 1) + length entries + 1 = omega arith in
      let st' = changed item.key cmp first.key first.object st in
      (all.0, stamped_from-push st' (n + 1) entries entry all.1 (subst (λ m. IsStamped item (find item.key cmp entry.key (state_from item.key cmp st' entries)) m entry.key entry.object entry.moment) e one))

  -- one entry more that has its key and its stamp
  pub AreStamped-push : (entries : List (Entry O D K N A)) (entry : Entry O D K N A) → AreStamped item cmp entries
      → IsStamped item (find item.key cmp entry.key (state item.key cmp entries)) (length entries + 1) entry.key entry.object entry.moment
      → AreStamped item cmp (entries ++ entry ∷ [])
  AreStamped-push entries entry all one =
      let e : length entries + 1 ≡ 0 + length entries + 1 = omega arith in
      stamped_from-push [] 0 entries entry all (subst (λ m. IsStamped item (find item.key cmp entry.key (state item.key cmp entries)) m entry.key entry.object entry.moment) e one)
