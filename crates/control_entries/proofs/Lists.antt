-- Elements of lists by their places, and induction along a list.
use Rattle.std.proofs.Common.{◌≡◌, ◌⊎◌, inl, inr, ℕ, zero, suc, ◌<◌, ◌≤◌, Bool, true, false, cond, List, [], ◌∷◌, length, Some, None, refl, sym, ap, subst, arith}
use Rattle.std.specs.Prelude.{slice_get, ◌||◌, map}
use Rattle.std.specs.List.{filter, find, list_any}
use Rattle.control_entries.proofs.Tests.{some_same, at_end}

module _ {E : Type 0} where
  pub get_some : (j : List E) (i : ℕ) → i < length j → (e : E) × (slice_get j i ≡ Some e)
  get_some [] i h = absurd (omega arith)
  get_some (x ∷ xs) zero h = (x, refl)
  get_some (x ∷ xs) (suc i) h = get_some xs i (omega arith)

  pub get_below : (j : List E) (i : ℕ) (e : E) → slice_get j i ≡ Some e → i < length j
  get_below [] i e h = absurd cc
  get_below (x ∷ xs) zero e h = omega arith
  get_below (x ∷ xs) (suc i) e h = let k = get_below xs i e h in omega arith

  -- what passes a filter passes its test, and stands in the list
  pub filter_at : (test : E → Bool) (xs : List E) (i : ℕ) (x : E) → slice_get (filter test xs) i ≡ Some x
      → (test x ≡ true) × (k : ℕ) × (slice_get xs k ≡ Some x)
  filter_at test [] i x h = absurd cc
  filter_at test (y ∷ ys) i x h = go (test y) refl i h (filter_at test ys)
    where
      more : ((test x ≡ true) × (k : ℕ) × (slice_get ys k ≡ Some x)) → (test x ≡ true) × (k : ℕ) × (slice_get (y ∷ ys) k ≡ Some x)
      more (t, k, e) = (t, suc k, e)

      go : (b : Bool) → test y ≡ b → (i : ℕ) → slice_get (cond b (y ∷ filter test ys) (filter test ys)) i ≡ Some x
          → ((i : ℕ) (x : E) → slice_get (filter test ys) i ≡ Some x → (test x ≡ true) × (k : ℕ) × (slice_get ys k ≡ Some x))
          → (test x ≡ true) × (k : ℕ) × (slice_get (y ∷ ys) k ≡ Some x)
      go false e i h ih = more (ih i x h)
      go true e zero h ih = (subst (λ z. test z ≡ true) (some_same h) e, zero, h)
      go true e (suc i) h ih = more (ih i x h)

  -- what stands in the list and passes the test stands behind the filter
  pub at_filter : (test : E → Bool) (xs : List E) (k : ℕ) (x : E) → slice_get xs k ≡ Some x → test x ≡ true
      → (i : ℕ) × (slice_get (filter test xs) i ≡ Some x)
  at_filter test [] k x h t = absurd cc
  at_filter test (y ∷ ys) zero x h t = (zero, rw (subst (λ z. test z ≡ true) (sym (some_same h)) t) h)
  at_filter test (y ∷ ys) (suc k) x h t = go (test y) (at_filter test ys k x h t)
    where
      go : (b : Bool) → ((i : ℕ) × (slice_get (filter test ys) i ≡ Some x))
          → (i : ℕ) × (slice_get (cond b (y ∷ filter test ys) (filter test ys)) i ≡ Some x)
      go true (i, e) = (suc i, e)
      go false (i, e) = (i, e)

  -- what is found passes the test, and stands in the list
  pub find_at : (test : E → Bool) (xs : List E) (x : E) → find test xs ≡ Some x → (test x ≡ true) × (k : ℕ) × (slice_get xs k ≡ Some x)
  find_at test [] x h = absurd cc
  find_at test (y ∷ ys) x h = go (test y) refl h (find_at test ys x)
    where
      go : (b : Bool) → test y ≡ b → cond b (Some y) (find test ys) ≡ Some x
          → (find test ys ≡ Some x → (test x ≡ true) × (k : ℕ) × (slice_get ys k ≡ Some x))
          → (test x ≡ true) × (k : ℕ) × (slice_get (y ∷ ys) k ≡ Some x)
      go true e h ih = (subst (λ z. test z ≡ true) (some_same h) e, zero, h)
      go false e h ih = more (ih h)
        where
          more : ((test x ≡ true) × (k : ℕ) × (slice_get ys k ≡ Some x)) → (test x ≡ true) × (k : ℕ) × (slice_get (y ∷ ys) k ≡ Some x)
          more (t, k, e) = (t, suc k, e)

  -- where nothing is found, nothing passes the test
  pub find_none : (test : E → Bool) (xs : List E) → find test xs ≡ None → (k : ℕ) (x : E) → slice_get xs k ≡ Some x → test x ≡ false
  find_none test [] h k x e = absurd cc
  find_none test (y ∷ ys) h k x e = go (test y) refl h k e (find_none test ys)
    where
      go : (b : Bool) → test y ≡ b → cond b (Some y) (find test ys) ≡ None → (k : ℕ) → slice_get (y ∷ ys) k ≡ Some x
          → (find test ys ≡ None → (k : ℕ) (x : E) → slice_get ys k ≡ Some x → test x ≡ false) → test x ≡ false
      go true t h k e ih = absurd cc
      go false t h zero e ih = subst (λ z. test z ≡ false) (some_same e) t
      go false t h (suc k) e ih = ih h k x e

  -- one that passes the test stands in the list
  pub any_at : (test : E → Bool) (xs : List E) → list_any test xs ≡ true → (k : ℕ) × (x : E) × (slice_get xs k ≡ Some x) × (test x ≡ true)
  any_at test [] h = absurd cc
  any_at test (y ∷ ys) h = go (test y) refl h (any_at test ys)
    where
      go : (b : Bool) → test y ≡ b → (b || list_any test ys) ≡ true
          → (list_any test ys ≡ true → (k : ℕ) × (x : E) × (slice_get ys k ≡ Some x) × (test x ≡ true))
          → (k : ℕ) × (x : E) × (slice_get (y ∷ ys) k ≡ Some x) × (test x ≡ true)
      go true e h ih = (zero, y, refl, e)
      go false e h ih = let (k, x, f, t) = ih h in (suc k, x, f, t)

  pub at_any : (test : E → Bool) (xs : List E) (k : ℕ) (x : E) → slice_get xs k ≡ Some x → test x ≡ true → list_any test xs ≡ true
  at_any test [] k x h t = absurd cc
  at_any test (y ∷ ys) zero x h t = rw (subst (λ z. test z ≡ true) (sym (some_same h)) t) refl
  at_any test (y ∷ ys) (suc k) x h t = go (test y) (at_any test ys k x h t)
    where
      go : (b : Bool) → list_any test ys ≡ true → (b || list_any test ys) ≡ true
      go true e = refl
      go false e = e

  -- from m on, each step carries a fact to the next position
  pub along : (j : List E) (Q : ℕ → Type 0) (m n : ℕ) → m ≤ n → n ≤ length j
      → ((i : ℕ) (e : E) → m ≤ i → i < n → slice_get j i ≡ Some e → Q i → Q (suc i)) → Q m → Q n
  along j Q m zero le len step h = subst Q (let e : m ≡ 0 = omega arith in e) h
  along j Q m (suc n) le len step h = go (at_end m n le) (λ l. along j Q m n l (omega arith) (λ i e a b g. step i e a (omega arith) g) h)
    where
      go : (m ≡ suc n) ⊎ (m ≤ n) → (m ≤ n → Q n) → Q (suc n)
      go (inl e) ih = subst Q e h
      go (inr l) ih = (let (e, g) = get_some j n (omega arith) in step n e l (omega arith) g (ih l))

-- an element of a mapped list is the image of one
pub map_at : {A B : Type 0} (f : A → B) (xs : List A) (i : ℕ) (y : B) → slice_get (map f xs) i ≡ Some y
    → (x : A) × (slice_get xs i ≡ Some x) × (f x ≡ y)
map_at f [] i y h = absurd cc
map_at f (x ∷ xs) zero y h = (x, refl, some_same h)
map_at f (x ∷ xs) (suc i) y h = map_at f xs i y h

pub at_map : {A B : Type 0} (f : A → B) (xs : List A) (i : ℕ) (x : A) → slice_get xs i ≡ Some x → slice_get (map f xs) i ≡ Some (f x)
at_map f [] i x h = absurd cc
at_map f (y ∷ ys) zero x h = ap (λ z. Some (f z)) (some_same h)
at_map f (y ∷ ys) (suc i) x h = at_map f ys i x h
