-- One walk over objects of which some count, and the list of those.
use Rattle.std.proofs.Common.{◌≡◌, ℕ, suc, ◌+◌, ◌≤◌, ◌<◌, get_or, Bool, true, false, cond, List, [], ◌∷◌, drop, length, Option, Some, refl, sym, ap, ◌∙◌, arith, drop-cons}
use Rattle.std.specs.Prelude.{◌&&◌, bytes_eq, slice_get}
use Rattle.std.specs.List.{filter}
use Rattle.std.proofs.lemmas.List.{at_drop_all}
use Rattle.resource_types.specs.declared.objects.Object.{Object}
use Rattle.resource_types.specs.Lookups.{in_space}
use Rattle.resource_types.proofs.Lists.{drop_at}
use Rattle.control_rules.specs.declared.collection.Candidate.{Candidate}
use Rattle.control_rules.specs.Collection.{earlier, first_from, place_of}
use Rattle.revision_gc.specs.Sweeps.{count_from, count_with, earlier_object, first_object}

drop_item : {X : Type 0} (xs : List X) (k : ℕ) (x : X) → k < length xs → x ≡ get_or xs k x → drop k xs ≡ x ∷ drop (k + 1) xs
drop_item xs k x lt e = drop-cons xs k x lt ∙ ap (λ y. y ∷ drop (suc k) xs) (sym e) ∙ (let f : suc k ≡ k + 1 = omega arith in ap (λ n. x ∷ drop n xs) f)

-- ---- a step of the walk

pub count-next : (counts : Object → Bool) (n : ℕ) (xs : List Object) (k : ℕ) (r : Object) → slice_get xs k ≡ Some r
    → count_from counts (count_with (counts r) n) (drop (k + 1) xs) ≡ count_from counts n (drop k xs)
count-next counts n xs k r e = ap (count_from counts n) (sym (drop_at xs k r e))

pub first-next : (counts : Object → Bool) (best : Option Object) (xs : List Object) (k : ℕ) (r : Object) → slice_get xs k ≡ Some r
    → first_object counts (earlier_object (counts r) best r) (drop (k + 1) xs) ≡ first_object counts best (drop k xs)
first-next counts best xs k r e = ap (first_object counts best) (sym (drop_at xs k r e))

pub count_with-le : (t : Bool) (n k : ℕ) → n ≤ k → count_with t n ≤ k + 1
count_with-le true n k le = omega arith
count_with-le false n k le = omega arith

-- ---- a step of a walk over candidates

pub place-next : (counts : Candidate → Bool) (best : Option (ℕ × Candidate)) (xs : List Candidate) (k : ℕ) (x : Candidate) → k < length xs → x ≡ get_or xs k x
    → first_from counts (k + 1) (earlier (counts x) k x best) (drop (k + 1) xs) ≡ first_from counts k best (drop k xs)
unfolding first_from
place-next counts best xs k x lt e = ap (first_from counts k best) (sym (drop_item xs k x lt e))

-- at the end the first so far is the first of all
pub place-end : (counts : Candidate → Bool) (best : Option (ℕ × Candidate)) (xs : List Candidate) (k : ℕ) (out : Option (ℕ × Candidate)) → length xs ≤ k
    → first_from counts k best (drop k xs) ≡ out → place_of best ≡ place_of out
unfolding first_from
place-end counts best xs k out le e = ap place_of (sym (at_drop_all (first_from counts k best) xs k le) ∙ e)

-- ---- the list of those that count

module _ (p : Object → Bool) where
  abbrev Counted : List Object → Type 0
  Counted xs = (n : ℕ) → count_from p n xs ≡ n + length (filter p xs)

  counted_at : (x : Object) (xs : List Object) → Counted xs → (t : Bool) (n : ℕ)
      → count_from p (count_with t n) xs ≡ n + length (cond t (x ∷ filter p xs) (filter p xs))
  counted_at x xs h true n = h (n + 1) ∙ (let e : (n + 1) + length (filter p xs) ≡ n + suc (length (filter p xs)) = omega arith in e)
  counted_at x xs h false n = h n

  counted : (xs : List Object) → Counted xs
  counted [] n = let e : n ≡ n + 0 = omega arith in e
  counted (x ∷ xs) n = counted_at x xs (counted xs) (p x) n

  -- as many count as are in the list
  pub counted_all : (xs : List Object) → count_from p 0 xs ≡ length (filter p xs)
  counted_all xs = counted xs 0 ∙ (let e : 0 + length (filter p xs) ≡ length (filter p xs) = omega arith in e)

  module _ (q : Object → Bool) where
    abbrev Filtered : List Object → Type 0
    Filtered xs = (best : Option Object) → first_object (λ o. p o && q o) best xs ≡ first_object q best (filter p xs)

    filtered_at : (x : Object) (xs : List Object) → Filtered xs → (t : Bool) (best : Option Object)
        → first_object (λ o. p o && q o) (earlier_object (t && q x) best x) xs ≡ first_object q best (cond t (x ∷ filter p xs) (filter p xs))
    filtered_at x xs h true best = h (earlier_object (q x) best x)
    filtered_at x xs h false best = h best

    -- the first of those that count and pass the test is the first in the list that does
    pub filtered : (xs : List Object) → Filtered xs
    filtered [] best = refl
    filtered (x ∷ xs) best = filtered_at x xs (filtered xs) (p x) best

  abbrev Whole : List Object → Type 0
  Whole xs = (best : Option Object) → first_object p best xs ≡ first_object (λ o. true) best (filter p xs)

  whole_at : (x : Object) (xs : List Object) → Whole xs → (t : Bool) (best : Option Object)
      → first_object p (earlier_object t best x) xs ≡ first_object (λ o. true) best (cond t (x ∷ filter p xs) (filter p xs))
  whole_at x xs h true best = h (earlier_object true best x)
  whole_at x xs h false best = h best

  -- the first of those that count is the first in the list
  pub whole : (xs : List Object) → Whole xs
  whole [] best = refl
  whole (x ∷ xs) best = whole_at x xs (whole xs) (p x) best

-- ---- in a namespace

-- where what counts is in the namespace, those that count are all there
pub filter-in_space : (p : Object → Bool) (space : List ℕ) → ((o : Object) → p o ≡ true → bytes_eq o.key.name.space space ≡ true)
    → (xs : List Object) → filter p (in_space space xs) ≡ filter p xs
filter-in_space p space there [] = refl
filter-in_space p space there (x ∷ xs) = by (bytes_eq x.key.name.space space) (p x) refl refl (filter-in_space p space there xs)
  where
    by : (b t : Bool) → bytes_eq x.key.name.space space ≡ b → p x ≡ t → filter p (in_space space xs) ≡ filter p xs
        → filter p (cond b (x ∷ in_space space xs) (in_space space xs)) ≡ cond t (x ∷ filter p xs) (filter p xs)
    by true t e f ih = ap (λ (ys : List Object). cond (p x) (x ∷ ys) ys) ih ∙ rw f refl
    by false true e f ih = let g : bytes_eq x.key.name.space space ≡ true = there x f in absurd cc
    by false false e f ih = ih
