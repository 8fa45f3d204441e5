-- Places in lists in order.
use Rattle.std.proofs.Common.{◌≡◌, ℕ, zero, suc, ◌+◌, ◌<◌, ◌≤◌, List, [], ◌∷◌, length, Bool, true, false, cond, Option, Some, None, Result, Ok, Err, Ordering, refl, sym, ap, subst, ◌∙◌, arith, ⊎_elim}
use Rattle.std.specs.Prelude.{slice_get}
use Rattle.std.specs.Ordering.{is_eq, is_lt}
use Rattle.std.proofs.lemmas.Bool.{cases_lt}
use Rattle.std.specs.declared.cmp.Ordering.TheVariants.{Less, Equal, Greater}
use Rattle.version_store.specs.Laws.{IsBeforeCut}
use Rattle.version_store.specs.Index.{leading, searched, search_in, AreGreater, AreInOrder}

module _ {K : Type 0} (cmp : K → K → Ordering) where
  all_greater : (key : K) (keys : List K) (n : ℕ) (k : K) → AreGreater (λ k. k) cmp key keys → slice_get keys n ≡ Some k → cmp key k ≡ Less
  all_greater key [] n k h e = cc
  all_greater key (first ∷ keys) zero k h e = let f : first ≡ k = cc in subst (λ x. cmp key x ≡ Less) f h.0
  all_greater key (first ∷ keys) (suc n) k h e = all_greater key keys n k h.1 e

  -- an earlier key is less
  pub earlier_less : (keys : List K) (i j : ℕ) (a b : K) → AreInOrder (λ k. k) cmp keys → i < j → slice_get keys i ≡ Some a → slice_get keys j ≡ Some b → cmp a b ≡ Less
  earlier_less [] i j a b h le p q = cc
  earlier_less (first ∷ keys) zero zero a b h le p q = absurd (omega arith)
  earlier_less (first ∷ keys) zero (suc j) a b h le p q = let f : first ≡ a = cc in subst (λ x. cmp x b ≡ Less) f (all_greater first keys j b h.0 q)
  earlier_less (first ∷ keys) (suc i) zero a b h le p q = absurd (omega arith)
  earlier_less (first ∷ keys) (suc i) (suc j) a b h le p q = let le' : i < j = omega arith in earlier_less keys i j a b h.1 le' p q

  module _ (keys : List K) (ordered : AreInOrder (λ k. k) cmp keys) (before : K → Bool) (cut : IsBeforeCut cmp before) (middle : ℕ) (key : K) (at : slice_get keys middle ≡ Some key) where
    same_key : (n : ℕ) (k : K) → n ≡ middle → slice_get keys n ≡ Some k → k ≡ key
    same_key n k e h = let h' : slice_get keys middle ≡ Some k = ap (slice_get keys) (sym e) ∙ h in cc

    -- with a key before the cut, all earlier ones are
    pub before-more : before key ≡ true → (n : ℕ) (k : K) → n < middle + 1 → slice_get keys n ≡ Some k → before k ≡ true
    before-more is n k le h = ⊎_elim
        (λ (l : n < middle). cut k key (earlier_less keys n middle k key ordered l h at) is)
        (λ (l : middle ≤ n). let e : n ≡ middle = omega (arith, l, le) in rw (same_key n k e h) is)
        (cases_lt n middle)

    not_before : (k : K) → cmp key k ≡ Less → before key ≡ false → (b : Bool) → before k ≡ b → b ≡ false
    not_before k e is true h = let f : before key ≡ true = cut key k e h in cc
    not_before k e is false h = refl

    -- with a key behind the cut, all later ones are
    pub behind-more : before key ≡ false → (n : ℕ) (k : K) → middle ≤ n → slice_get keys n ≡ Some k → before k ≡ false
    behind-more is n k le h = ⊎_elim
        (λ (l : middle < n). not_before k (earlier_less keys middle n key k ordered l at h) is (before k) refl)
        (λ (l : n ≤ middle). let e : n ≡ middle = omega (arith, l, le) in rw (same_key n k e h) is)
        (cases_lt middle n)

-- where the elements ahead of a place pass the test and the others do not, the place is the number of the leading ones
pub leading_is : {X : Type 0} (test : X → Bool) (xs : List X) (p : ℕ) → p ≤ length xs
    → ((n : ℕ) (x : X) → n < p → slice_get xs n ≡ Some x → test x ≡ true)
    → ((n : ℕ) (x : X) → p ≤ n → slice_get xs n ≡ Some x → test x ≡ false)
    → p ≡ leading test xs
leading_is test [] p le low high = omega (arith, le)
leading_is test (x ∷ xs) zero le low high = let f : test x ≡ false = high zero x (omega arith) refl in rw f refl
leading_is test (x ∷ xs) (suc p) le low high =
    let f : test x ≡ true = low zero x (omega arith) refl in
    let le' : p ≤ length xs = omega (arith, le) in
    let rest : p ≡ leading test xs = leading_is test xs p le' (λ n y lt e. let lt' : suc n < suc p = omega arith in low (suc n) y lt' e) (λ n y ge e. let ge' : suc p ≤ suc n = omega arith in high (suc n) y ge' e) in
    rw (f, ← rest) refl

module _ {K : Type 0} (cmp : K → K → Ordering) (key : K) where
  abbrev pub below : List K → ℕ
  below keys = leading (λ k. is_lt (cmp k key)) keys

  -- whether there is a key, and it ties with the one that is sought
  abbrev pub is_here : Option K → Bool
  is_here None = false
  is_here (Some k) = is_eq (cmp k key)

  abbrev place_by : Bool → ℕ → Result ℕ ℕ
  place_by b p = cond b (Ok p) (Err p)

  searched_next : (b : Bool) (p : ℕ) → searched Less (place_by b p) ≡ place_by b (suc p)
  searched_next true p = refl
  searched_next false p = refl

  search_by : (k : K) (keys : List K) → search_in cmp key keys ≡ place_by (is_here (slice_get keys (below keys))) (below keys)
      → (r : Ordering) → cmp k key ≡ r → searched r (search_in cmp key keys) ≡ place_by (is_here (slice_get (k ∷ keys) (cond (is_lt r) (suc (below keys)) 0))) (cond (is_lt r) (suc (below keys)) 0)
  search_by k keys ih Less e = ap (searched Less) ih ∙ searched_next (is_here (slice_get keys (below keys))) (below keys)
  search_by k keys ih Equal e = ap (λ r. place_by (is_eq r) 0) (sym e)
  search_by k keys ih Greater e = ap (λ r. place_by (is_eq r) 0) (sym e)

  -- a search answers with the number of lesser keys
  pub search-below : (keys : List K) → search_in cmp key keys ≡ cond (is_here (slice_get keys (below keys))) (Ok (below keys)) (Err (below keys))
  search-below [] = refl
  search-below (k ∷ keys) = search_by k keys (search-below keys) (cmp k key) refl

  pub search_at : (keys : List K) (p : ℕ) (at : Option K) → p ≡ below keys → slice_get keys p ≡ at → search_in cmp key keys ≡ cond (is_here at) (Ok p) (Err p)
  search_at keys p at e h = search-below keys ∙ ap (λ n. cond (is_here (slice_get keys n)) (Ok n) (Err n)) (sym e) ∙ ap (λ o. cond (is_here o) (Ok p) (Err p)) h
