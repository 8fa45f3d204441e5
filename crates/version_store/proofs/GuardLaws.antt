-- The laws of the newest change of a guard.
use Rattle.std.proofs.Common.{◌≡◌, ℕ, suc, ◌+◌, ◌<◌, ◌≤◌, List, length, take, get_or, Bool, true, false, cond, Some, Ordering, refl, sym, ap, subst, ◌∙◌, arith, ⊎_elim}
use Rattle.std.specs.Prelude.{slice_get}
use Rattle.std.proofs.Math.Seq.{take-length}
use Rattle.std.proofs.lemmas.Bool.{cases_lt}
use Rattle.version_store.specs.declared.item.Item.{Ghosts}
use Rattle.version_store.specs.declared.write.Entry.{Entry}
use Rattle.version_store.specs.State.{find, state_at}
use Rattle.version_store.specs.Journal.{changes_guard, newest_guard}
use Rattle.version_store.proofs.Prefix.{newest_guard-next}
use Rattle.version_store.proofs.Growth.{along}

later_or : (b : Bool) (i n newest : ℕ) → i < n → i < newest → i < cond b (n + 1) newest
later_or true i n newest lt h = omega (arith, lt)
later_or false i n newest lt h = h

within_or : (b : Bool) (n newest : ℕ) → newest ≤ n → cond b (n + 1) newest ≤ n + 1
within_or true n newest h = omega arith
within_or false n newest h = omega (arith, h)

module _ {O D K N A : Type 0} (item : Ghosts O D K N A) (cmp : K → K → Ordering) (entries : List (Entry O D K N A)) where
  -- whether the entry made a guarding object or changed its spec, where n entries stand before it
  abbrev pub is_change : ℕ → Entry O D K N A → Bool
  is_change n entry = changes_guard item (find item.key cmp entry.key (state_at item.key cmp entries n)) entry.object

  abbrev SeenSoFar : ℕ → Type 0
  SeenSoFar n = (i : ℕ) (change : Entry O D K N A) → i < n → slice_get entries i ≡ Some change → is_change i change ≡ true → i < newest_guard item cmp (take n entries)

  seen_step : (n : ℕ) (entry : Entry O D K N A) → n < length entries → slice_get entries n ≡ Some entry → entry ≡ get_or entries n entry → SeenSoFar n → SeenSoFar (n + 1)
  seen_step n entry lt at read ih i change below e is =
      let next = newest_guard-next item cmp entries n entry lt read in
      ⊎_elim
      (λ (l : i < n). subst (λ m. i < m) (sym next) (later_or (is_change n entry) i n (newest_guard item cmp (take n entries)) l (ih i change l e is)))
      (λ (l : n ≤ i).
      let here : i ≡ n = omega (arith, l, below) in
      let at' : slice_get entries n ≡ Some change = ap (slice_get entries) (sym here) ∙ e in
      let same : change ≡ entry = cc in
      let test : is_change n entry ≡ true = subst (λ x. is_change n x ≡ true) same (subst (λ m. is_change m change ≡ true) here is) in
      let found : newest_guard item cmp (take (n + 1) entries) ≡ n + 1 = next ∙ ap (λ b. cond b (n + 1) (newest_guard item cmp (take n entries))) test in
      omega (arith, found, here))
      (cases_lt i n)

  -- a change of a guard is no later than the newest
  pub change_is_seen : (i : ℕ) (change : Entry O D K N A) → i < length entries → slice_get entries i ≡ Some change → is_change i change ≡ true → i < newest_guard item cmp entries
  change_is_seen i change lt e is =
      let le : length entries ≤ length entries = omega arith in
      subst (λ es. i < newest_guard item cmp es) (take-length entries) (along entries SeenSoFar (λ j x l f b. absurd (omega (arith, l))) seen_step (length entries) le i change lt e is)

  quiet_by : (i seen : ℕ) (entry : Entry O D K N A) → i < length entries → newest_guard item cmp entries ≤ seen → seen ≤ i → slice_get entries i ≡ Some entry → (b : Bool) → is_change i entry ≡ b → b ≡ false
  quiet_by i seen entry lt newest later e true is = absurd (omega (arith, newest, later, change_is_seen i entry lt e is))
  quiet_by i seen entry lt newest later e false is = refl

  -- where the newest change of a guard was seen, no later entry is one
  pub quiet_since : (i seen : ℕ) (entry : Entry O D K N A) → i < length entries → newest_guard item cmp entries ≤ seen → seen ≤ i → slice_get entries i ≡ Some entry → is_change i entry ≡ false
  quiet_since i seen entry lt newest later e = quiet_by i seen entry lt newest later e (is_change i entry) refl

  -- the newest change is one
  pub record IsNewestChange (i : ℕ) : Type 0 where
    pub entry : Entry O D K N A
    pub at : slice_get entries i ≡ Some entry
    pub is : is_change i entry ≡ true

  abbrev NewestSoFar : ℕ → Type 0
  NewestSoFar n = (i : ℕ) → newest_guard item cmp (take n entries) ≡ suc i → IsNewestChange i

  newest_by : (n : ℕ) (entry : Entry O D K N A) (i : ℕ) → slice_get entries n ≡ Some entry → NewestSoFar n → (b : Bool) → is_change n entry ≡ b → cond b (n + 1) (newest_guard item cmp (take n entries)) ≡ suc i → IsNewestChange i
  newest_by n entry i at ih true is e =
      let here : n ≡ i = omega (arith, e) in
      subst IsNewestChange here (record { entry = entry; at = at; is = is })
  newest_by n entry i at ih false is e = ih i e

  newest_step : (n : ℕ) (entry : Entry O D K N A) → n < length entries → slice_get entries n ≡ Some entry → entry ≡ get_or entries n entry → NewestSoFar n → NewestSoFar (n + 1)
  newest_step n entry lt at read ih i e = newest_by n entry i at ih (is_change n entry) refl (sym (newest_guard-next item cmp entries n entry lt read) ∙ e)

  pub newest_is_change : (i : ℕ) → newest_guard item cmp entries ≡ suc i → IsNewestChange i
  newest_is_change i e =
      let le : length entries ≤ length entries = omega arith in
      along entries NewestSoFar (λ j f. absurd (omega (arith, f))) newest_step (length entries) le i (ap (newest_guard item cmp) (take-length entries) ∙ e)

  abbrev WithinSoFar : ℕ → Type 0
  WithinSoFar n = newest_guard item cmp (take n entries) ≤ n

  within_step : (n : ℕ) (entry : Entry O D K N A) → n < length entries → slice_get entries n ≡ Some entry → entry ≡ get_or entries n entry → WithinSoFar n → WithinSoFar (n + 1)
  within_step n entry lt at read ih = subst (λ m. m ≤ n + 1) (sym (newest_guard-next item cmp entries n entry lt read)) (within_or (is_change n entry) n (newest_guard item cmp (take n entries)) ih)

  pub newest_within : newest_guard item cmp entries ≤ length entries
  newest_within =
      let le : length entries ≤ length entries = omega arith in
      subst (λ es. newest_guard item cmp es ≤ length entries) (take-length entries) (along entries WithinSoFar (omega arith) within_step (length entries) le)
