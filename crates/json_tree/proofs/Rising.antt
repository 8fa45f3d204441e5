-- A put keeps the names rising, and so does a name that is added after all others.
use Rattle.std.proofs.Common.{◌≡◌, ℕ, true, Result, Ok, Err, OnOk, OnErr, List, [], ◌∷◌, ◌++◌, nat_cmp, Ordering, Less, Equal, Greater, refl, sym, ap, subst, ◌∙◌, arith}
use Rattle.std.proofs.lemmas.Cmp.{nat_list_cmp_total}
use Rattle.std.proofs.lemmas.Map.Text.{is_eq-slice_cmp}
use Rattle.std.proofs.lemmas.Slice.Eq.{bytes_eq-Decides}
use Rattle.std.specs.Cmp.Lexicographic.{slice_cmp}
use Rattle.std.specs.Ordering.{is_lt, is_eq, match_ordering, ordering_reverse}
use Rattle.json_tree.specs.Tree.{put_entry, names_rise, is_before_all, is_after_all, names_of}
use Rattle.json_tree.proofs.Facts.{less_of}

before_all_trans : (k a : List ℕ) (ns : List (List ℕ)) → slice_cmp nat_cmp k a ≡ Less → is_before_all a ns ≡ true → is_before_all k ns ≡ true
before_all_trans k a [] p h = refl
before_all_trans k a (n ∷ ns) p h =
    let first : slice_cmp nat_cmp a n ≡ Less = less_of _ (grind arith) in
    let rest : is_before_all k ns ≡ true = before_all_trans k a ns p (grind arith) in
    let now : slice_cmp nat_cmp k n ≡ Less = nat_list_cmp_total.trans k a n p first in
    rw now rest

same_name : (k l : List ℕ) → slice_cmp nat_cmp k l ≡ Equal → k ≡ l
same_name k l e = (bytes_eq-Decides k l).0 (sym (is_eq-slice_cmp k l) ∙ ap is_eq e)

lt_of : (k l : List ℕ) → slice_cmp nat_cmp k l ≡ Greater → is_lt (slice_cmp nat_cmp l k) ≡ true
lt_of k l e = ap is_lt (nat_list_cmp_total.antisymm l k ∙ ap ordering_reverse e)

module _ {A : Type 0} where
  -- a name before all the names that are there, and before the new one, is before all of them
  before_put_at : (o : Ordering) (a k : List ℕ) (v : A) (e : List ℕ × A) (es : List (List ℕ × A)) → is_lt (slice_cmp nat_cmp a k) ≡ true → is_before_all a (names_of (e ∷ es)) ≡ true
      → is_before_all a (names_of (put_entry k v es)) ≡ true → is_before_all a (names_of (match_ordering o ((k, v) ∷ e ∷ es) ((k, v) ∷ es) (e ∷ put_entry k v es))) ≡ true
  before_put_at Less a k v e es h b rest = grind arith
  before_put_at Equal a k v e es h b rest = grind arith
  before_put_at Greater a k v e es h b rest = grind arith

  before_put : (a k : List ℕ) (v : A) (es : List (List ℕ × A)) → is_lt (slice_cmp nat_cmp a k) ≡ true → is_before_all a (names_of es) ≡ true → is_before_all a (names_of (put_entry k v es)) ≡ true
  before_put a k v [] h b = grind arith
  before_put a k v (e ∷ es) h b = before_put_at _ a k v e es h b (before_put a k v es h (grind arith))

  rises_put_at : (o : Ordering) (k : List ℕ) (v : A) (e : List ℕ × A) (es : List (List ℕ × A)) → slice_cmp nat_cmp k e.0 ≡ o → names_rise (names_of (e ∷ es)) ≡ true
      → names_rise (names_of (put_entry k v es)) ≡ true → names_rise (names_of (match_ordering o ((k, v) ∷ e ∷ es) ((k, v) ∷ es) (e ∷ put_entry k v es))) ≡ true
  rises_put_at Less k v e es is h rest =
      let after : is_before_all k (names_of es) ≡ true = before_all_trans k e.0 (names_of es) is (grind arith) in
      rw (is, after) h
  rises_put_at Equal k v e es is h rest =
      let below : is_before_all e.0 (names_of es) ≡ true = grind arith in
      let later : names_rise (names_of es) ≡ true = grind arith in
      rw (subst (λ n. is_before_all n (names_of es) ≡ true) (sym (same_name k e.0 is)) below) later
  rises_put_at Greater k v e es is h rest =
      let below : is_before_all e.0 (names_of es) ≡ true = grind arith in
      rw (before_put e.0 k v es (lt_of k e.0 is) below) rest

  -- a put keeps the names rising
  pub rises-put_entry : (k : List ℕ) (v : A) (es : List (List ℕ × A)) → names_rise (names_of es) ≡ true → names_rise (names_of (put_entry k v es)) ≡ true
  rises-put_entry k v [] h = refl
  rises-put_entry k v (e ∷ es) h = rises_put_at _ k v e es refl h (rises-put_entry k v es (grind arith))

  before_push : (a k : List ℕ) (v : A) (es : List (List ℕ × A)) → is_before_all a (names_of es) ≡ true → is_lt (slice_cmp nat_cmp a k) ≡ true
      → is_before_all a (names_of (es ++ (k, v) ∷ [])) ≡ true
  before_push a k v [] h b = grind arith
  before_push a k v (e ∷ es) h b =
      let rest : is_before_all a (names_of (es ++ (k, v) ∷ [])) ≡ true = before_push a k v es (grind arith) b in
      grind arith

  -- a name that comes after all others goes to the end
  pub rises-push : (k : List ℕ) (v : A) (es : List (List ℕ × A)) → names_rise (names_of es) ≡ true → is_after_all k (names_of es) ≡ true → names_rise (names_of (es ++ (k, v) ∷ [])) ≡ true
  rises-push k v [] h a = refl
  rises-push k v (e ∷ es) h a =
      let first : is_before_all e.0 (names_of (es ++ (k, v) ∷ [])) ≡ true = before_push e.0 k v es (grind arith) (grind arith) in
      let rest : names_rise (names_of (es ++ (k, v) ∷ [])) ≡ true = rises-push k v es (grind arith) (grind arith) in
      grind arith

  -- a name that comes after all others is put behind them
  pub put-behind : (k : List ℕ) (v : A) (es : List (List ℕ × A)) → is_after_all k (names_of es) ≡ true → put_entry k v es ≡ es ++ (k, v) ∷ []
  put-behind k v [] h = refl
  put-behind k v (e ∷ es) h =
      let below : slice_cmp nat_cmp e.0 k ≡ Less = less_of _ (grind arith) in
      let above : slice_cmp nat_cmp k e.0 ≡ Greater = nat_list_cmp_total.antisymm k e.0 ∙ ap ordering_reverse below in
      let rest : put_entry k v es ≡ es ++ (k, v) ∷ [] = put-behind k v es (grind arith) in
      rw above (ap (λ (xs : List (List ℕ × A)). e ∷ xs) rest)

  -- a name that comes after all others, and after the new one, comes after all of them
  pub after-push : (k a : List ℕ) (v : A) (es : List (List ℕ × A)) → is_after_all k (names_of es) ≡ true → is_lt (slice_cmp nat_cmp a k) ≡ true
      → is_after_all k (names_of (es ++ (a, v) ∷ [])) ≡ true
  after-push k a v [] h b = grind arith
  after-push k a v (e ∷ es) h b =
      let rest : is_after_all k (names_of (es ++ (a, v) ∷ [])) ≡ true = after-push k a v es (grind arith) b in
      grind arith

  -- where a change that can be refused keeps the names rising, they rise after it either way
  pub rises-either : {T E : Type 0} (r : Result T E) (old new changed : List (List ℕ × A)) → OnOk r (new ≡ changed) → OnErr r (new ≡ old)
      → (names_rise (names_of old) ≡ true → names_rise (names_of changed) ≡ true) → names_rise (names_of old) ≡ true → names_rise (names_of new) ≡ true
  rises-either (Ok x) old new changed ok err next h = rw ok (next h)
  rises-either (Err x) old new changed ok err next h = rw err h
