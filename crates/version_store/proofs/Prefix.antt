-- The journal at its prefixes.
use Rattle.std.proofs.Common.{◌≡◌, ℕ, zero, suc, ◌+◌, ◌-◌, ◌<◌, ◌≤◌, List, [], ◌∷◌, ◌++◌, length, get_or, take, Bool, cond, Option, Some, None, Ordering, refl, sym, ap, subst, ◌∙◌, arith, add-one}
use Rattle.std.specs.Prelude.{slice_get}
use Rattle.std.specs.Ordering.{is_eq}
use Rattle.std.specs.Cmp.{IsTotalOrder}
use Rattle.std.proofs.Math.Seq.{take-suc}
use Rattle.std.proofs.lemmas.Option.{slice_get_read}
use Rattle.std.proofs.lemmas.List.{length-take-le}
use Rattle.version_store.specs.declared.item.Item.{Ghosts}
use Rattle.version_store.specs.declared.write.Entry.{Entry}
use Rattle.version_store.specs.State.{find, changed, state_from, state}
use Rattle.version_store.specs.Journal.{IsStamped, AreStampedFrom, AreStamped, changes_guard, newest_guard}
use Rattle.version_store.proofs.Keyed.{Puts, find-changed}
use Rattle.version_store.proofs.Journals.{state-push, newest_guard-push}

-- one entry more of the journal
pub take_next : {E : Type 0} (entries : List E) (i : ℕ) (entry : E) → i < length entries → entry ≡ get_or entries i entry → take (i + 1) entries ≡ take i entries ++ entry ∷ []
take_next entries i entry lt e = rw add-one (take-suc entries i entry lt ∙ ap (λ x. take i entries ++ x ∷ []) (sym e))

module _ {O D K N A : Type 0} (item : Ghosts O D K N A) (cmp : K → K → Ordering) where
  stamped_take : (st : List O) (n k : ℕ) (entries : List (Entry O D K N A)) → AreStampedFrom item cmp st n entries → AreStampedFrom item cmp st n (take k entries)
  stamped_take st n zero entries h = tt
  stamped_take st n (suc k) [] h = tt
  stamped_take st n (suc k) (entry ∷ entries) h = (h.0, stamped_take (changed item.key cmp entry.key entry.object st) (n + 1) k entries h.1)

  -- the entries of a prefix have their stamps
  pub AreStamped-take : (k : ℕ) (entries : List (Entry O D K N A)) → AreStamped item cmp entries → AreStamped item cmp (take k entries)
  AreStamped-take k entries h = stamped_take [] 0 k entries h

  stamped_get : (st : List O) (n i : ℕ) (entries : List (Entry O D K N A)) (entry : Entry O D K N A) → AreStampedFrom item cmp st n entries → slice_get entries i ≡ Some entry
      → IsStamped item (find item.key cmp entry.key (state_from item.key cmp st (take i entries))) (n + i + 1) entry.key entry.object entry.moment
  stamped_get st n i [] entry h e = absurd cc
  stamped_get st n zero (first ∷ entries) entry h e =
      let f : first ≡ entry = cc in
      let one : n + 1 ≡ n + 0 + 1 = omega arith in
      subst (λ (x : Entry O D K N A). IsStamped item (find item.key cmp x.key st) (n + 0 + 1) x.key x.object x.moment) f (subst (λ m. IsStamped item (find item.key cmp first.key st) m first.key first.object first.moment) one h.0)
  stamped_get st n (suc i) (first ∷ entries) entry h e =
      let one : (n + 1) + i + 1 ≡ n + suc i + 1 = omega arith in
      let st' = changed item.key cmp first.key first.object st in
      subst (λ m. IsStamped item (find item.key cmp entry.key (state_from item.key cmp st' (take i entries))) m entry.key entry.object entry.moment) one (stamped_get st' (n + 1) i entries entry h.1 e)

  -- what an entry puts has its key, and the stamp that is due to it in the state before it
  pub stamped_at : (entries : List (Entry O D K N A)) (i : ℕ) (entry : Entry O D K N A) → AreStamped item cmp entries → slice_get entries i ≡ Some entry
      → IsStamped item (find item.key cmp entry.key (state item.key cmp (take i entries))) (i + 1) entry.key entry.object entry.moment
  stamped_at entries i entry h e =
      let one : 0 + i + 1 ≡ i + 1 = omega arith in
      subst (λ m. IsStamped item (find item.key cmp entry.key (state item.key cmp (take i entries))) m entry.key entry.object entry.moment) one (stamped_get [] 0 i entries entry h e)

  puts_by : (standing : Option O) (version : ℕ) (key : K) (object : Option O) (moment : ℕ) → IsStamped item standing version key object moment → Puts item.key key object
  puts_by standing version key None moment h = tt
  puts_by standing version key (Some o) moment h = h.0

  pub puts_at : (entries : List (Entry O D K N A)) (i : ℕ) (entry : Entry O D K N A) → AreStamped item cmp entries → slice_get entries i ≡ Some entry → Puts item.key entry.key entry.object
  puts_at entries i entry h e = puts_by (find item.key cmp entry.key (state item.key cmp (take i entries))) (i + 1) entry.key entry.object entry.moment (stamped_at entries i entry h e)

  -- the state after one entry more of the journal
  pub state-next : (entries : List (Entry O D K N A)) (i : ℕ) (entry : Entry O D K N A) → i < length entries → entry ≡ get_or entries i entry → state item.key cmp (take (i + 1) entries) ≡ changed item.key cmp entry.key entry.object (state item.key cmp (take i entries))
  state-next entries i entry lt e = ap (state item.key cmp) (take_next entries i entry lt e) ∙ state-push item.key cmp (take i entries) entry

  -- what is found under a key after one entry more
  pub find-next : IsTotalOrder cmp → (entries : List (Entry O D K N A)) (i : ℕ) (entry : Entry O D K N A) (key : K) → AreStamped item cmp entries → i < length entries → entry ≡ get_or entries i entry
      → find item.key cmp key (state item.key cmp (take (i + 1) entries)) ≡ cond (is_eq (cmp entry.key key)) entry.object (find item.key cmp key (state item.key cmp (take i entries)))
  find-next total entries i entry key h lt e =
      ap (find item.key cmp key) (state-next entries i entry lt e)
      ∙ find-changed item.key cmp total key entry.key entry.object (state item.key cmp (take i entries)) (puts_at entries i entry h (slice_get_read entries (length entries) i entry refl lt e))

  -- the newest change of a guard after one entry more
  pub newest_guard-next : (entries : List (Entry O D K N A)) (i : ℕ) (entry : Entry O D K N A) → i < length entries → entry ≡ get_or entries i entry
      → newest_guard item cmp (take (i + 1) entries) ≡ cond (changes_guard item (find item.key cmp entry.key (state item.key cmp (take i entries))) entry.object) (i + 1) (newest_guard item cmp (take i entries))
  newest_guard-next entries i entry lt e =
      let le : i ≤ length entries = omega (arith, lt) in
      ap (newest_guard item cmp) (take_next entries i entry lt e) ∙ newest_guard-push item cmp (take i entries) entry
      ∙ ap (λ n. cond (changes_guard item (find item.key cmp entry.key (state item.key cmp (take i entries))) entry.object) (n + 1) (newest_guard item cmp (take i entries))) (length-take-le i entries le)

  -- the newest change of a guard, by the last entry of a prefix
  pub newest_guard-last : (entries : List (Entry O D K N A)) (left : ℕ) (entry : Entry O D K N A) (standing object : Option O) (b : Bool) → 0 < left → left ≤ length entries → entry ≡ get_or entries (left - 1) entry
      → standing ≡ find item.key cmp entry.key (state item.key cmp (take (left - 1) entries)) → object ≡ entry.object → b ≡ changes_guard item standing object
      → newest_guard item cmp (take left entries) ≡ cond b left (newest_guard item cmp (take (left - 1) entries))
  newest_guard-last entries zero entry standing object b some le e s o h = absurd (omega (arith, some))
  newest_guard-last entries (suc i) entry standing object b some le e s o h =
      let one : suc i - 1 ≡ i = omega arith in
      let lt : i < length entries = omega (arith, le) in
      let e' : entry ≡ get_or entries i entry = e ∙ ap (λ n. get_or entries n entry) one in
      let s' : standing ≡ find item.key cmp entry.key (state item.key cmp (take i entries)) = s ∙ ap (λ n. find item.key cmp entry.key (state item.key cmp (take n entries))) one in
      let test : changes_guard item (find item.key cmp entry.key (state item.key cmp (take i entries))) entry.object ≡ b = ap (λ x. changes_guard item x entry.object) (sym s') ∙ ap (changes_guard item standing) (sym o) ∙ sym h in
      let more : suc i ≡ i + 1 = omega arith in
      rw one (ap (λ n. newest_guard item cmp (take n entries)) more ∙ newest_guard-next entries i entry lt e' ∙ ap (λ t. cond t (i + 1) (newest_guard item cmp (take i entries))) test ∙ ap (λ n. cond b n (newest_guard item cmp (take i entries))) (sym more))
