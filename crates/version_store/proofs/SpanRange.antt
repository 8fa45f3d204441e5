-- The objects of a span, as of a kind, stand next to each other in the state.
use Rattle.std.proofs.Common.{◌≡◌, ℕ, suc, ◌-◌, ◌≤◌, List, [], ◌∷◌, length, take, drop, Bool, true, false, cond, Ordering, refl, sym, ap, ◌∙◌, arith}
use Rattle.std.specs.Prelude.{map, ◌&&◌}
use Rattle.std.specs.List.{filter}
use Rattle.std.specs.Ordering.{is_eq, is_lt, is_le, is_gt}
use Rattle.std.specs.declared.cmp.Ordering.TheVariants.{Less, Equal, Greater}
use Rattle.version_store.specs.Laws.{IsSpan}
use Rattle.version_store.specs.State.{is_of_kind, of_kind, in_span, behind}
use Rattle.version_store.specs.Index.{leading, AreGreater, AreInOrder}
use Rattle.version_store.specs.Cuts.{side_behind}

pub leading-map : {X Y : Type 0} (test : Y → Bool) (f : X → Y) (xs : List X) → leading test (map f xs) ≡ leading (λ x. test (f x)) xs
leading-map test f [] = refl
leading-map test f (x ∷ xs) = ap (λ n. cond (test (f x)) (suc n) 0) (leading-map test f xs)

pub leading_within : {X : Type 0} (test : X → Bool) (xs : List X) → leading test xs ≤ length xs
leading_within test [] = omega arith
leading_within test (x ∷ xs) = by_head (test x) (leading_within test xs)
  where
    by_head : (b : Bool) → leading test xs ≤ length xs → cond b (suc (leading test xs)) 0 ≤ suc (length xs)
    by_head true h = omega arith
    by_head false h = omega arith

-- tests that agree keep the same
pub filter-alike : {X : Type 0} (p q : X → Bool) (xs : List X) → ((x : X) → p x ≡ q x) → filter p xs ≡ filter q xs
filter-alike p q [] h = refl
filter-alike p q (x ∷ xs) h = ap (λ b. cond b (x ∷ filter p xs) (filter p xs)) (h x) ∙ ap (λ ys. cond (q x) (x ∷ ys) ys) (filter-alike p q xs h)

-- what passes two tests
pub filter-both : {X : Type 0} (p q : X → Bool) (xs : List X) → filter (λ x. p x && q x) xs ≡ filter p (filter q xs)
filter-both p q [] = refl
filter-both p q (x ∷ xs) = by (q x) refl (filter-both p q xs)
  where
    by : (b : Bool) → b ≡ q x → filter (λ y. p y && q y) xs ≡ filter p (filter q xs) → cond (p x && b) (x ∷ filter (λ y. p y && q y) xs) (filter (λ y. p y && q y) xs) ≡ filter p (cond b (x ∷ filter q xs) (filter q xs))
    by true e ih = through (p x)
      where
        through : (t : Bool) → cond (t && true) (x ∷ filter (λ y. p y && q y) xs) (filter (λ y. p y && q y) xs) ≡ cond t (x ∷ filter p (filter q xs)) (filter p (filter q xs))
        through true = ap (λ ys. x ∷ ys) ih
        through false = ih
    by false e ih = past (p x)
      where
        past : (t : Bool) → cond (t && false) (x ∷ filter (λ y. p y && q y) xs) (filter (λ y. p y && q y) xs) ≡ filter p (filter q xs)
        past true = ih
        past false = ih

module _ {X K : Type 0} (key_of : X → K) (side : K → Ordering) where
  -- the place of the first object of the span
  abbrev pub first_place : List X → ℕ
  first_place xs = leading (λ x. is_lt (side (key_of x))) xs

  -- the place behind the last one
  abbrev pub end_place : List X → ℕ
  end_place xs = leading (λ x. is_le (side (key_of x))) xs

module _ {X K : Type 0} (key_of : X → K) (cmp : K → K → Ordering) (side : K → Ordering) (span : IsSpan cmp side) where
  abbrev rank : X → Ordering
  rank x = side (key_of x)

  abbrev first : List X → ℕ
  first xs = first_place key_of side xs

  abbrev end : List X → ℕ
  end xs = end_place key_of side xs

  abbrev alike : List X → List X
  alike xs = in_span key_of side xs

  abbrev range : List X → List X
  range xs = take (end xs - first xs) (drop (first xs) xs)

  -- behind an object of the span none is before it
  none_less : (x : X) (xs : List X) → rank x ≡ Equal → AreGreater key_of cmp (key_of x) xs → first xs ≡ 0
  none_less x [] e g = refl
  none_less x (y ∷ ys) e g = by_rank (rank y) refl
    where
      by_rank : (r : Ordering) → rank y ≡ r → cond (is_lt r) (suc (first ys)) 0 ≡ 0
      by_rank Less f = let l : rank x ≡ Less = span.before (key_of x) (key_of y) g.0 f in cc
      by_rank Equal f = refl
      by_rank Greater f = refl

  -- behind an object that is behind the span none is in it
  none_alike : (x : X) (xs : List X) → rank x ≡ Greater → AreGreater key_of cmp (key_of x) xs → alike xs ≡ []
  none_alike x [] e g = refl
  none_alike x (y ∷ ys) e g =
      let behind : rank y ≡ Greater = span.behind (key_of x) (key_of y) g.0 e in
      ap (λ r. cond (is_eq r) (y ∷ alike ys) (alike ys)) behind ∙ none_alike x ys e g.1

  range_by : (x : X) (xs : List X) → AreGreater key_of cmp (key_of x) xs → alike xs ≡ range xs → (r : Ordering) → rank x ≡ r
      → cond (is_eq r) (x ∷ alike xs) (alike xs) ≡ take (cond (is_le r) (suc (end xs)) 0 - cond (is_lt r) (suc (first xs)) 0) (drop (cond (is_lt r) (suc (first xs)) 0) (x ∷ xs))
  range_by x xs g ih Less e = let less : suc (end xs) - suc (first xs) ≡ end xs - first xs = omega arith in rw less ih
  range_by x xs g ih Equal e =
      let none = none_less x xs e g in
      let all : alike xs ≡ take (end xs) xs = ih ∙ rw none (let n : end xs - 0 ≡ end xs = omega arith in rw n refl) in
      let n : suc (end xs) - 0 ≡ suc (end xs) = omega arith in
      rw n (ap (λ ys. x ∷ ys) all)
  range_by x xs g ih Greater e = none_alike x xs e g

  -- the objects of a span are a range of the state
  pub alike-range : (xs : List X) → AreInOrder key_of cmp xs → alike xs ≡ range xs
  alike-range [] h = refl
  alike-range (x ∷ xs) h = range_by x xs h.0 (alike-range xs h.1) (rank x) refl

  pub first_end : (xs : List X) → first_place key_of side xs ≤ end_place key_of side xs
  first_end [] = omega arith
  first_end (x ∷ xs) = by_rank (rank x) (first_end xs)
    where
      by_rank : (r : Ordering) → first xs ≤ end xs → cond (is_lt r) (suc (first xs)) 0 ≤ cond (is_le r) (suc (end xs)) 0
      by_rank Less h = omega arith
      by_rank Equal h = omega arith
      by_rank Greater h = omega arith

module _ {X K : Type 0} (key_of : X → K) where
  -- the objects of a kind are those whose keys are in its span
  pub in_span-kind : {D : Type 0} (kind_of : K → D) (kind_cmp : D → D → Ordering) (kind_eq : D → D → Bool) (kind : D) → ((a b : D) → kind_eq a b ≡ is_eq (kind_cmp a b)) → (xs : List X)
      → in_span key_of (λ k. kind_cmp (kind_of k) kind) xs ≡ of_kind key_of kind_of kind_eq kind xs
  in_span-kind kind_of kind_cmp kind_eq kind tied xs = filter-alike (λ x. is_eq (kind_cmp (kind_of (key_of x)) kind)) (is_of_kind key_of kind_of kind_eq kind) xs (λ x. sym (tied (kind_of (key_of x)) kind))

  behind_by : (x : X) (r s : Ordering) (rest behind_rest : List X) (b : Bool) → b ≡ is_eq r → behind_rest ≡ rest
      → cond (is_eq (side_behind r (is_le s))) (x ∷ behind_rest) behind_rest ≡ cond (is_gt s && b) (x ∷ rest) rest
  behind_by x Less Less rest more b e h = h
  behind_by x Less Equal rest more b e h = h
  behind_by x Equal Less rest more b e h = h
  behind_by x Equal Equal rest more b e h = h
  behind_by x Greater Less rest more b e h = h
  behind_by x Greater Equal rest more b e h = h
  behind_by x Less Greater rest more b e h = h ∙ ap (λ (t : Bool). cond t (x ∷ rest) rest) (sym e)
  behind_by x Equal Greater rest more b e h = ap (λ xs. x ∷ xs) h ∙ ap (λ (t : Bool). cond t (x ∷ rest) rest) (sym e)
  behind_by x Greater Greater rest more b e h = h ∙ ap (λ (t : Bool). cond t (x ∷ rest) rest) (sym e)

  -- the objects behind a key among those of a kind are those whose keys are in the span of both
  pub in_span-behind : {D : Type 0} (cmp : K → K → Ordering) (kind_of : K → D) (kind_cmp : D → D → Ordering) (kind_eq : D → D → Bool) (kind : D) (key : K) → ((a b : D) → kind_eq a b ≡ is_eq (kind_cmp a b)) → (xs : List X)
      → in_span key_of (λ k. side_behind (kind_cmp (kind_of k) kind) (is_le (cmp k key))) xs ≡ behind key_of cmp key (of_kind key_of kind_of kind_eq kind xs)
  in_span-behind cmp kind_of kind_cmp kind_eq kind key tied xs =
      split xs ∙ filter-both (λ x. is_gt (cmp (key_of x) key)) (is_of_kind key_of kind_of kind_eq kind) xs
    where
      split : (ys : List X) → in_span key_of (λ k. side_behind (kind_cmp (kind_of k) kind) (is_le (cmp k key))) ys ≡ filter (λ x. is_gt (cmp (key_of x) key) && is_of_kind key_of kind_of kind_eq kind x) ys
      split [] = refl
      split (y ∷ ys) = behind_by y (kind_cmp (kind_of (key_of y)) kind) (cmp (key_of y) key) (filter (λ x. is_gt (cmp (key_of x) key) && is_of_kind key_of kind_of kind_eq kind x) ys) (in_span key_of (λ k. side_behind (kind_cmp (kind_of k) kind) (is_le (cmp k key))) ys) (kind_eq (kind_of (key_of y)) kind) (tied (kind_of (key_of y)) kind) (split ys)
