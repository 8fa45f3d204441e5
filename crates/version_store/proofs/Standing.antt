-- The laws of what stands.
use Rattle.std.proofs.Common.{◌≡◌, ℕ, zero, suc, ◌+◌, ◌<◌, ◌≤◌, List, [], ◌∷◌, length, take, get_or, Bool, true, false, cond, Option, Some, None, Ordering, refl, sym, ap, subst, ◌∙◌, arith, add-one, ⊎_elim}
use Rattle.std.specs.Prelude.{slice_get}
use Rattle.std.specs.Ordering.{is_eq, ordering_reverse}
use Rattle.std.specs.Cmp.{IsTotalOrder}
use Rattle.std.proofs.lemmas.List.{length-take-le}
use Rattle.std.proofs.lemmas.Cmp.{tied_back, alike_right}
use Rattle.std.proofs.lemmas.Bool.{cases_lt}
use Rattle.std.specs.declared.cmp.Ordering.TheVariants.{Less, Equal, Greater}
use Rattle.version_store.specs.declared.item.Item.{Ghosts}
use Rattle.version_store.specs.declared.write.Entry.{Entry}
use Rattle.version_store.specs.State.{find, state_at}
use Rattle.version_store.specs.Journal.{next_stamp, last_version, entry_at_version, object_in, IsStamped, AreStamped}
use Rattle.version_store.specs.Index.{AreGreater, AreInOrder}
use Rattle.version_store.proofs.Keyed.{is_eq-true}
use Rattle.version_store.proofs.Journals.{last_version-push}
use Rattle.version_store.proofs.Prefix.{take_next, stamped_at, find-next}
use Rattle.version_store.proofs.States.{version_of, next_version}
use Rattle.version_store.proofs.Growth.{along}

-- of what a choice finds, one part is it
by_choice : {X : Type 0} (P : Type 0) (b : Bool) (x y : Option X) (z : X) → cond b x y ≡ Some z → (b ≡ true → x ≡ Some z → P) → (b ≡ false → y ≡ Some z → P) → P
by_choice P true x y z e p q = p refl e
by_choice P false x y z e p q = q refl e

module _ {X K : Type 0} (key_of : X → K) (cmp : K → K → Ordering) (total : IsTotalOrder cmp) where
  -- what is found has the key
  pub find_key : (key : K) (xs : List X) (x : X) → find key_of cmp key xs ≡ Some x → cmp (key_of x) key ≡ Equal
  find_key key [] x e = absurd cc
  find_key key (y ∷ xs) x e =
      by_choice (cmp (key_of x) key ≡ Equal) (is_eq (cmp (key_of y) key)) (Some y) (find key_of cmp key xs) x e
      (λ b f. let same : y ≡ x = cc in subst (λ z. cmp (key_of z) key ≡ Equal) same (is_eq-true _ b)) (λ b f. find_key key xs x f)

  -- keys that tie find the same
  pub find-tied : (a b : K) (xs : List X) → cmp a b ≡ Equal → find key_of cmp a xs ≡ find key_of cmp b xs
  find-tied a b [] e = refl
  find-tied a b (x ∷ xs) e = ap (λ r. cond (is_eq r) (Some x) (find key_of cmp a xs)) (alike_right total a b (key_of x) e) ∙ ap (λ o. cond (is_eq (cmp (key_of x) b)) (Some x) o) (find-tied a b xs e)

  greater_at : (key : K) (xs : List X) (n : ℕ) (x : X) → AreGreater key_of cmp key xs → slice_get xs n ≡ Some x → cmp key (key_of x) ≡ Less
  greater_at key [] n x g e = absurd cc
  greater_at key (y ∷ xs) zero x g e = let same : y ≡ x = cc in subst (λ z. cmp key (key_of z) ≡ Less) same g.0
  greater_at key (y ∷ xs) (suc n) x g e = greater_at key xs n x g.1 e

  own_key : (x : X) → (r : Ordering) → cmp (key_of x) (key_of x) ≡ r → r ≡ Equal
  own_key x Less e = let f : cmp (key_of x) (key_of x) ≡ Greater = total.antisymm (key_of x) (key_of x) ∙ ap ordering_reverse e in cc
  own_key x Equal e = refl
  own_key x Greater e = let f : cmp (key_of x) (key_of x) ≡ Less = total.antisymm (key_of x) (key_of x) ∙ ap ordering_reverse e in cc

  -- each element is found under its own key
  pub find_own : (xs : List X) (n : ℕ) (x : X) → AreInOrder key_of cmp xs → slice_get xs n ≡ Some x → find key_of cmp (key_of x) xs ≡ Some x
  find_own [] n x h e = absurd cc
  find_own (y ∷ xs) zero x h e =
      let same : y ≡ x = cc in
      subst (λ z. find key_of cmp (key_of z) (y ∷ xs) ≡ Some z) same (ap (λ r. cond (is_eq r) (Some y) (find key_of cmp (key_of y) xs)) (own_key y (cmp (key_of y) (key_of y)) refl))
  find_own (y ∷ xs) (suc n) x h e =
      ap (λ r. cond (is_eq r) (Some y) (find key_of cmp (key_of x) xs)) (greater_at (key_of y) xs n x h.0 e) ∙ find_own xs n x h.1 e

module _ {O D K N A : Type 0} (item : Ghosts O D K N A) (cmp : K → K → Ordering) (total : IsTotalOrder cmp) (entries : List (Entry O D K N A)) (stamped : AreStamped item cmp entries) where
  abbrev found_at : ℕ → K → Option O
  found_at n key = find item.key cmp key (state_at item.key cmp entries n)

  last_next : (n : ℕ) (entry : Entry O D K N A) (key : K) → n < length entries → entry ≡ get_or entries n entry → last_version cmp (take (n + 1) entries) key ≡ cond (is_eq (cmp entry.key key)) (length (take n entries) + 1) (last_version cmp (take n entries) key)
  last_next n entry key lt e = ap (λ es. last_version cmp es key) (take_next entries n entry lt e) ∙ last_version-push cmp (take n entries) entry key

  -- the stamp of what an entry puts
  stamp_put : (n : ℕ) (entry : Entry O D K N A) (o : O) → slice_get entries n ≡ Some entry → entry.object ≡ Some o → item.stamp o ≡ next_stamp item (found_at n entry.key) o (n + 1) entry.moment
  stamp_put n entry o at e = (subst (λ x. IsStamped item (found_at n entry.key) (n + 1) entry.key x entry.moment) e (stamped_at item cmp entries n entry stamped at)).1

  abbrev HasLastVersion : ℕ → Type 0
  HasLastVersion n = (key : K) (o : O) → found_at n key ≡ Some o → last_version cmp (take n entries) key ≡ version_of item cmp o

  last_step : (n : ℕ) (entry : Entry O D K N A) → n < length entries → slice_get entries n ≡ Some entry → entry ≡ get_or entries n entry → HasLastVersion n → HasLastVersion (n + 1)
  last_step n entry lt at read ih key o e =
      let le : n ≤ length entries = omega (arith, lt) in
      let next = find-next item cmp total entries n entry key stamped lt read in
      let last = last_next n entry key lt read in
      by_choice (last_version cmp (take (n + 1) entries) key ≡ version_of item cmp o) (is_eq (cmp entry.key key)) entry.object (found_at n key) o (sym next ∙ e)
      (λ b f.
      last ∙ ap (λ t. cond t (length (take n entries) + 1) (last_version cmp (take n entries) key)) b ∙ ap (λ m. m + 1) (length-take-le n entries le)
      ∙ sym (ap (λ s. s.version) (stamp_put n entry o at f) ∙ next_version item cmp (found_at n entry.key) o (n + 1) entry.moment))
      (λ b f. last ∙ ap (λ t. cond t (length (take n entries) + 1) (last_version cmp (take n entries) key)) b ∙ ih key o f)

  -- the version of an object that stands is that of its key's last entry
  pub version_is_last : (n : ℕ) → n ≤ length entries → (key : K) (o : O) → found_at n key ≡ Some o → last_version cmp (take n entries) key ≡ version_of item cmp o
  version_is_last = along entries HasLastVersion (λ key o e. absurd cc) last_step

  abbrev LastDecides : ℕ → Type 0
  LastDecides n = (key : K) → found_at n key ≡ object_in (entry_at_version entries (last_version cmp (take n entries) key))

  decides_by : (n : ℕ) (entry : Entry O D K N A) (last : ℕ) (before : Option O) → slice_get entries n ≡ Some entry → before ≡ object_in (entry_at_version entries last) → (b : Bool)
      → cond b entry.object before ≡ object_in (entry_at_version entries (cond b (n + 1) last))
  decides_by n entry last before at ih true = let more : n + 1 ≡ suc n = add-one n in sym (ap (λ m. object_in (entry_at_version entries m)) more ∙ ap object_in at)
  decides_by n entry last before at ih false = ih

  decides_step : (n : ℕ) (entry : Entry O D K N A) → n < length entries → slice_get entries n ≡ Some entry → entry ≡ get_or entries n entry → LastDecides n → LastDecides (n + 1)
  decides_step n entry lt at read ih key =
      let le : n ≤ length entries = omega (arith, lt) in
      let last : last_version cmp (take (n + 1) entries) key ≡ cond (is_eq (cmp entry.key key)) (n + 1) (last_version cmp (take n entries) key) =
      last_next n entry key lt read ∙ ap (λ m. cond (is_eq (cmp entry.key key)) (m + 1) (last_version cmp (take n entries) key)) (length-take-le n entries le) in
      find-next item cmp total entries n entry key stamped lt read
      ∙ decides_by n entry (last_version cmp (take n entries) key) (found_at n key) at (ih key) (is_eq (cmp entry.key key))
      ∙ sym (ap (λ m. object_in (entry_at_version entries m)) last)

  -- the last entry of a key decides what stands under it
  pub last_decides : (n : ℕ) → n ≤ length entries → (key : K) → found_at n key ≡ object_in (entry_at_version entries (last_version cmp (take n entries) key))
  last_decides = along entries LastDecides (λ key. refl) decides_step

  -- an object of the same making stands under the key
  pub record StandsSince (o : O) (key : K) (m : ℕ) : Type 0 where
    pub standing : O
    pub found : found_at m key ≡ Some standing
    pub uid : (item.stamp standing).uid ≡ (item.stamp o).uid
    pub created : (item.stamp standing).created ≡ (item.stamp o).created

  abbrev StoodSoFar : ℕ → Type 0
  StoodSoFar n = (key : K) (o : O) → found_at n key ≡ Some o → (m : ℕ) → (item.stamp o).uid ≤ m → m ≤ n → StandsSince o key m

  stood_by : (n : ℕ) (entry : Entry O D K N A) (key : K) (o : O) (m : ℕ) → StoodSoFar n → cmp entry.key key ≡ Equal → (item.stamp o).uid ≤ m → m ≤ n
      → (standing : Option O) → found_at n entry.key ≡ standing → item.stamp o ≡ next_stamp item standing o (n + 1) entry.moment → StandsSince o key m
  stood_by n entry key o m ih tied low high None e s = let uid : (item.stamp o).uid ≡ n + 1 = ap (λ t. t.uid) s in absurd (omega (arith, uid, low, high))
  stood_by n entry key o m ih tied low high (Some q) e s =
      let uid : (item.stamp o).uid ≡ (item.stamp q).uid = ap (λ t. t.uid) s in
      let created : (item.stamp o).created ≡ (item.stamp q).created = ap (λ t. t.created) s in
      let low' : (item.stamp q).uid ≤ m = omega (arith, uid, low) in
      let since = ih key q (sym (find-tied item.key cmp total entry.key key (state_at item.key cmp entries n) tied) ∙ e) m low' high in
      record { standing = since.standing; found = since.found; uid = since.uid ∙ sym uid; created = since.created ∙ sym created }

  stood_step : (n : ℕ) (entry : Entry O D K N A) → n < length entries → slice_get entries n ≡ Some entry → entry ≡ get_or entries n entry → StoodSoFar n → StoodSoFar (n + 1)
  stood_step n entry lt at read ih key o e m low high = ⊎_elim
      (λ (l : m < n + 1).
      let high' : m ≤ n = omega (arith, l) in
      by_choice (StandsSince o key m) (is_eq (cmp entry.key key)) entry.object (found_at n key) o (sym (find-next item cmp total entries n entry key stamped lt read) ∙ e)
      (λ b f. stood_by n entry key o m ih (is_eq-true _ b) low high' (found_at n entry.key) refl (stamp_put n entry o at f))
      (λ b f. ih key o f m low high'))
      (λ (l : n + 1 ≤ m).
      let here : n + 1 ≡ m = omega (arith, l, high) in
      record { standing = o; found = subst (λ k. found_at k key ≡ Some o) here e; uid = refl; created = refl })
      (cases_lt m (n + 1))

  -- an object stands under its key, uid and creation from the version on that made it
  pub stands_since : (n : ℕ) → n ≤ length entries → (key : K) (o : O) → found_at n key ≡ Some o → (m : ℕ) → (item.stamp o).uid ≤ m → m ≤ n → StandsSince o key m
  stands_since = along entries StoodSoFar (λ key o e m low high. absurd cc) stood_step

  -- the entry that made an object has its key
  pub record IsBorn (o : O) (key : K) : Type 0 where
    pub entry : Entry O D K N A
    pub at : entry_at_version entries (item.stamp o).uid ≡ Some entry
    pub tied : cmp entry.key key ≡ Equal

  abbrev BornSoFar : ℕ → Type 0
  BornSoFar n = (key : K) (o : O) → found_at n key ≡ Some o → IsBorn o key

  born_by : (n : ℕ) (entry : Entry O D K N A) (key : K) (o : O) → slice_get entries n ≡ Some entry → BornSoFar n → cmp entry.key key ≡ Equal
      → (standing : Option O) → found_at n entry.key ≡ standing → item.stamp o ≡ next_stamp item standing o (n + 1) entry.moment → IsBorn o key
  born_by n entry key o at ih tied None e s =
      let uid : (item.stamp o).uid ≡ suc n = ap (λ t. t.uid) s ∙ add-one n in
      record { entry = entry; at = ap (entry_at_version entries) uid ∙ at; tied = tied }
  born_by n entry key o at ih tied (Some q) e s =
      let born : IsBorn q entry.key = ih entry.key q e in
      record {
        entry = born.entry;
        at = ap (entry_at_version entries) (ap (λ t. t.uid) s) ∙ born.at;
        tied = total.congr born.entry.key entry.key key born.tied ∙ tied;
      }

  born_step : (n : ℕ) (entry : Entry O D K N A) → n < length entries → slice_get entries n ≡ Some entry → entry ≡ get_or entries n entry → BornSoFar n → BornSoFar (n + 1)
  born_step n entry lt at read ih key o e =
      by_choice (IsBorn o key) (is_eq (cmp entry.key key)) entry.object (found_at n key) o (sym (find-next item cmp total entries n entry key stamped lt read) ∙ e)
      (λ b f. born_by n entry key o at ih (is_eq-true _ b) (found_at n entry.key) refl (stamp_put n entry o at f))
      (λ b f. ih key o f)

  pub born : (n : ℕ) → n ≤ length entries → (key : K) (o : O) → found_at n key ≡ Some o → IsBorn o key
  born = along entries BornSoFar (λ key o e. absurd cc) born_step

  -- objects of one uid have one key, even if they stood at different positions
  pub distinct_uids : (m n : ℕ) → m ≤ length entries → n ≤ length entries → (a b : K) (o p : O) → found_at m a ≡ Some o → found_at n b ≡ Some p → (item.stamp o).uid ≡ (item.stamp p).uid → cmp a b ≡ Equal
  distinct_uids m n lm ln a b o p e f same =
      let one : IsBorn o a = born m lm a o e in
      let two : IsBorn p b = born n ln b p f in
      let entry : one.entry ≡ two.entry = cc (one.at, two.at, same) in
      total.congr a one.entry.key b (tied_back total one.entry.key a one.tied) ∙ ap (λ x. cmp x.key b) entry ∙ two.tied
