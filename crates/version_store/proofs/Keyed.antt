-- Lists in order of key.
use Rattle.std.proofs.Common.{◌≡◌, ℕ, suc, List, [], ◌∷◌, take, drop, Bool, true, false, cond, Option, Some, None, Result, Ok, Err, Ordering, refl, sym, ap, ◌∙◌}
use Rattle.std.specs.Prelude.{map}
use Rattle.std.specs.Ordering.{is_eq, ordering_reverse}
use Rattle.std.specs.Cmp.{IsTotalOrder}
use Rattle.std.proofs.lemmas.Cmp.{tied_back}
use Rattle.std.proofs.lemmas.List.{map-set, map-append, take-map, drop-map}
use Rattle.std.specs.declared.cmp.Ordering.TheVariants.{Less, Equal, Greater}
use Rattle.version_store.specs.State.{find, placed, put, without, changed}
use Rattle.version_store.specs.Index.{searched, search_in, found, put_at, removed_at, changed_at, AreGreater, AreInOrder}

pub is_eq-true : (r : Ordering) → is_eq r ≡ true → r ≡ Equal
is_eq-true Less e = cc
is_eq-true Equal e = refl
is_eq-true Greater e = cc

-- of two tests that do not both hold, either may come first
pub cond_other : {X : Type 0} (b c : Bool) (x y z : X) → (b ≡ true → c ≡ true → ⊥) → cond b x (cond c y z) ≡ cond c y (cond b x z)
cond_other true true x y z h = absurd (h refl refl)
cond_other true false x y z h = refl
cond_other false true x y z h = refl
cond_other false false x y z h = refl

-- a test made twice
pub cond_twice : {X : Type 0} (b c : Bool) (x y z : X) → c ≡ b → cond b x (cond c y z) ≡ cond b x z
cond_twice true c x y z e = refl
cond_twice false true x y z e = cc
cond_twice false false x y z e = refl

none : {X : Type 0} (b : Bool) → ◌≡◌ {A = Option X} None (cond b None None)
none true = refl
none false = refl

-- an element that is put has the key
abbrev pub Puts : {X K : Type 0} → (X → K) → K → Option X → Type 0
Puts key_of key None = Unit {0}
Puts key_of key (Some x) = key_of x ≡ key

module _ {X K : Type 0} (key_of : X → K) (cmp : K → K → Ordering) (total : IsTotalOrder cmp) where
  pub greater_than_less : (a b : K) (xs : List X) → cmp a b ≡ Less → AreGreater key_of cmp b xs → AreGreater key_of cmp a xs
  greater_than_less a b [] e h = tt
  greater_than_less a b (x ∷ xs) e h = (total.trans a b (key_of x) e h.0, greater_than_less a b xs e h.1)

  pub greater_than_equal : (a b : K) (xs : List X) → cmp a b ≡ Equal → AreGreater key_of cmp b xs → AreGreater key_of cmp a xs
  greater_than_equal a b [] e h = tt
  greater_than_equal a b (x ∷ xs) e h = (total.congr a b (key_of x) e ∙ h.0, greater_than_equal a b xs e h.1)

  -- a put keeps the order
  greater-placed : (key : K) (new x : X) (xs rest : List X) → cmp key (key_of new) ≡ Less → AreGreater key_of cmp key (x ∷ xs) → AreGreater key_of cmp key rest → (r : Ordering) → AreGreater key_of cmp key (placed r new x xs rest)
  greater-placed key new x xs rest n h re Less = (n, h)
  greater-placed key new x xs rest n h re Equal = (n, h.1)
  greater-placed key new x xs rest n h re Greater = (h.0, re)

  greater-put : (key : K) (new : X) (xs : List X) → cmp key (key_of new) ≡ Less → AreGreater key_of cmp key xs → AreGreater key_of cmp key (put key_of cmp new xs)
  greater-put key new [] n h = (n, tt)
  greater-put key new (x ∷ xs) n h = greater-placed key new x xs (put key_of cmp new xs) n h (greater-put key new xs n h.1) (cmp (key_of new) (key_of x))

  order-placed : (new x : X) (xs rest : List X) → AreInOrder key_of cmp (x ∷ xs) → AreInOrder key_of cmp rest → (cmp (key_of new) (key_of x) ≡ Greater → AreGreater key_of cmp (key_of x) rest) → (r : Ordering) → cmp (key_of new) (key_of x) ≡ r → AreInOrder key_of cmp (placed r new x xs rest)
  order-placed new x xs rest h re g Less e = ((e, greater_than_less (key_of new) (key_of x) xs e h.0), h)
  order-placed new x xs rest h re g Equal e = (greater_than_equal (key_of new) (key_of x) xs e h.0, h.1)
  order-placed new x xs rest h re g Greater e = (g e, re)

  pub order-put : (new : X) (xs : List X) → AreInOrder key_of cmp xs → AreInOrder key_of cmp (put key_of cmp new xs)
  order-put new [] h = (tt, tt)
  order-put new (x ∷ xs) h =
      order-placed new x xs (put key_of cmp new xs) h (order-put new xs h.1) (λ e. greater-put (key_of x) new xs (total.antisymm (key_of x) (key_of new) ∙ ap ordering_reverse e) h.0) (cmp (key_of new) (key_of x)) refl

  -- and so does a removal
  greater-kept : (key : K) (x : X) (rest : List X) (b : Bool) → cmp key (key_of x) ≡ Less → AreGreater key_of cmp key rest → AreGreater key_of cmp key (cond b rest (x ∷ rest))
  greater-kept key x rest true n h = h
  greater-kept key x rest false n h = (n, h)

  greater-without : (key gone : K) (xs : List X) → AreGreater key_of cmp key xs → AreGreater key_of cmp key (without key_of cmp gone xs)
  greater-without key gone [] h = tt
  greater-without key gone (x ∷ xs) h = greater-kept key x (without key_of cmp gone xs) (is_eq (cmp (key_of x) gone)) h.0 (greater-without key gone xs h.1)

  order-kept : (x : X) (rest : List X) (b : Bool) → AreGreater key_of cmp (key_of x) rest → AreInOrder key_of cmp rest → AreInOrder key_of cmp (cond b rest (x ∷ rest))
  order-kept x rest true g h = h
  order-kept x rest false g h = (g, h)

  pub order-without : (gone : K) (xs : List X) → AreInOrder key_of cmp xs → AreInOrder key_of cmp (without key_of cmp gone xs)
  order-without gone [] h = tt
  order-without gone (x ∷ xs) h = order-kept x (without key_of cmp gone xs) (is_eq (cmp (key_of x) gone)) (greater-without (key_of x) gone xs h.0) (order-without gone xs h.1)

  pub order-changed : (key : K) (object : Option X) (xs : List X) → AreInOrder key_of cmp xs → AreInOrder key_of cmp (changed key_of cmp key object xs)
  order-changed key None xs h = order-without key xs h
  order-changed key (Some x) xs h = order-put x xs h

  -- what is found after a put
  not_both : (a b c : K) → cmp a b ≡ Greater → is_eq (cmp b c) ≡ true → is_eq (cmp a c) ≡ true → ⊥
  not_both a b c g p q =
      let cb : cmp c b ≡ Equal = tied_back total b c (is_eq-true _ p) in
      let ab : cmp a b ≡ Equal = total.congr a c b (is_eq-true _ q) ∙ cb in
      cc

  find-placed : (key : K) (new x : X) (xs rest : List X) → find key_of cmp key rest ≡ cond (is_eq (cmp (key_of new) key)) (Some new) (find key_of cmp key xs)
      → (r : Ordering) → cmp (key_of new) (key_of x) ≡ r → find key_of cmp key (placed r new x xs rest) ≡ cond (is_eq (cmp (key_of new) key)) (Some new) (find key_of cmp key (x ∷ xs))
  find-placed key new x xs rest ih Less e = refl
  find-placed key new x xs rest ih Equal e =
      sym (cond_twice (is_eq (cmp (key_of new) key)) (is_eq (cmp (key_of x) key)) (Some new) (Some x) (find key_of cmp key xs) (ap is_eq (sym (total.congr (key_of new) (key_of x) key e))))
  find-placed key new x xs rest ih Greater e =
      ap (λ o. cond (is_eq (cmp (key_of x) key)) (Some x) o) ih
      ∙ cond_other (is_eq (cmp (key_of x) key)) (is_eq (cmp (key_of new) key)) (Some x) (Some new) (find key_of cmp key xs) (not_both (key_of new) (key_of x) key e)

  pub find-put : (key : K) (new : X) (xs : List X) → find key_of cmp key (put key_of cmp new xs) ≡ cond (is_eq (cmp (key_of new) key)) (Some new) (find key_of cmp key xs)
  find-put key new [] = refl
  find-put key new (x ∷ xs) = find-placed key new x xs (put key_of cmp new xs) (find-put key new xs) (cmp (key_of new) (key_of x)) refl

  -- what is found after a removal
  apart : (a b c : K) → is_eq (cmp a b) ≡ false → is_eq (cmp a c) ≡ true → is_eq (cmp b c) ≡ true → ⊥
  apart a b c f p q =
      let cb : cmp c b ≡ Equal = tied_back total b c (is_eq-true _ q) in
      let ab : cmp a b ≡ Equal = total.congr a c b (is_eq-true _ p) ∙ cb in
      let t : is_eq (cmp a b) ≡ true = ap is_eq ab in
      cc

  without_by : (key gone : K) (x : X) (xs : List X) → find key_of cmp key (without key_of cmp gone xs) ≡ cond (is_eq (cmp gone key)) None (find key_of cmp key xs)
      → (b : Bool) → is_eq (cmp (key_of x) gone) ≡ b → find key_of cmp key (cond b (without key_of cmp gone xs) (x ∷ without key_of cmp gone xs)) ≡ cond (is_eq (cmp gone key)) None (find key_of cmp key (x ∷ xs))
  without_by key gone x xs ih true e =
      ih ∙ sym (cond_twice (is_eq (cmp gone key)) (is_eq (cmp (key_of x) key)) None (Some x) (find key_of cmp key xs) (ap is_eq (total.congr (key_of x) gone key (is_eq-true _ e))))
  without_by key gone x xs ih false e =
      ap (λ o. cond (is_eq (cmp (key_of x) key)) (Some x) o) ih
      ∙ cond_other (is_eq (cmp (key_of x) key)) (is_eq (cmp gone key)) (Some x) None (find key_of cmp key xs) (apart (key_of x) gone key e)

  pub find-without : (key gone : K) (xs : List X) → find key_of cmp key (without key_of cmp gone xs) ≡ cond (is_eq (cmp gone key)) None (find key_of cmp key xs)
  find-without key gone [] = none (is_eq (cmp gone key))
  find-without key gone (x ∷ xs) = without_by key gone x xs (find-without key gone xs) (is_eq (cmp (key_of x) gone)) refl

  -- what is found after an entry: what it puts, or what was found before it
  pub find-changed : (key k : K) (object : Option X) (xs : List X) → Puts key_of k object → find key_of cmp key (changed key_of cmp k object xs) ≡ cond (is_eq (cmp k key)) object (find key_of cmp key xs)
  find-changed key k None xs h = find-without key k xs
  find-changed key k (Some x) xs h = find-put key x xs ∙ ap (λ y. cond (is_eq (cmp y key)) (Some x) (find key_of cmp key xs)) h

  -- nothing is found before the first key
  pub find_greater : (key : K) (xs : List X) → AreGreater key_of cmp key xs → find key_of cmp key xs ≡ None
  find_greater key [] h = refl
  find_greater key (x ∷ xs) h =
      let f : is_eq (cmp (key_of x) key) ≡ false = ap is_eq (total.antisymm (key_of x) key ∙ ap ordering_reverse h.0) in
      ap (λ b. cond b (Some x) (find key_of cmp key xs)) f ∙ find_greater key xs h.1

  pub without_greater : (key : K) (xs : List X) → AreGreater key_of cmp key xs → without key_of cmp key xs ≡ xs
  without_greater key [] h = refl
  without_greater key (x ∷ xs) h =
      let f : is_eq (cmp (key_of x) key) ≡ false = ap is_eq (total.antisymm (key_of x) key ∙ ap ordering_reverse h.0) in
      ap (λ b. cond b (without key_of cmp key xs) (x ∷ without key_of cmp key xs)) f ∙ ap (λ ys. x ∷ ys) (without_greater key xs h.1)

  -- a search finds the key
  found_next : (x : X) (xs : List X) (r : Result ℕ ℕ) → found (x ∷ xs) (searched Less r) ≡ found xs r
  found_next x xs (Ok place) = refl
  found_next x xs (Err place) = refl

  find_by : (key : K) (x : X) (xs : List X) → AreGreater key_of cmp (key_of x) xs → find key_of cmp key xs ≡ found xs (search_in cmp key (map key_of xs))
      → (r : Ordering) → cmp (key_of x) key ≡ r → cond (is_eq r) (Some x) (find key_of cmp key xs) ≡ found (x ∷ xs) (searched r (search_in cmp key (map key_of xs)))
  find_by key x xs g ih Less e = ih ∙ sym (found_next x xs (search_in cmp key (map key_of xs)))
  find_by key x xs g ih Equal e = refl
  find_by key x xs g ih Greater e = find_greater key xs (greater_than_less key (key_of x) xs (total.antisymm key (key_of x) ∙ ap ordering_reverse e) g)

  pub find-search : (key : K) (xs : List X) → AreInOrder key_of cmp xs → find key_of cmp key xs ≡ found xs (search_in cmp key (map key_of xs))
  find-search key [] h = refl
  find-search key (x ∷ xs) h = find_by key x xs h.0 (find-search key xs h.1) (cmp (key_of x) key) refl

  put_next : (new x : X) (xs : List X) (r : Result ℕ ℕ) → x ∷ put_at new xs r ≡ put_at new (x ∷ xs) (searched Less r)
  put_next new x xs (Ok place) = refl
  put_next new x xs (Err place) = refl

  put_by : (new x : X) (xs : List X) → put key_of cmp new xs ≡ put_at new xs (search_in cmp (key_of new) (map key_of xs))
      → (r : Ordering) → cmp (key_of x) (key_of new) ≡ r → placed (ordering_reverse r) new x xs (put key_of cmp new xs) ≡ put_at new (x ∷ xs) (searched r (search_in cmp (key_of new) (map key_of xs)))
  put_by new x xs ih Less e = ap (λ ys. x ∷ ys) ih ∙ put_next new x xs (search_in cmp (key_of new) (map key_of xs))
  put_by new x xs ih Equal e = refl
  put_by new x xs ih Greater e = refl

  -- a put is a write at the place that a search finds
  pub put-search : (new : X) (xs : List X) → put key_of cmp new xs ≡ put_at new xs (search_in cmp (key_of new) (map key_of xs))
  put-search new [] = refl
  put-search new (x ∷ xs) =
      ap (λ r. placed r new x xs (put key_of cmp new xs)) (total.antisymm (key_of new) (key_of x)) ∙ put_by new x xs (put-search new xs) (cmp (key_of x) (key_of new)) refl

  removed_next : (x : X) (xs : List X) (r : Result ℕ ℕ) → x ∷ removed_at xs r ≡ removed_at (x ∷ xs) (searched Less r)
  removed_next x xs (Ok place) = refl
  removed_next x xs (Err place) = refl

  removed_by : (key : K) (x : X) (xs : List X) → AreGreater key_of cmp (key_of x) xs → without key_of cmp key xs ≡ removed_at xs (search_in cmp key (map key_of xs))
      → (r : Ordering) → cmp (key_of x) key ≡ r → cond (is_eq r) (without key_of cmp key xs) (x ∷ without key_of cmp key xs) ≡ removed_at (x ∷ xs) (searched r (search_in cmp key (map key_of xs)))
  removed_by key x xs g ih Less e = ap (λ ys. x ∷ ys) ih ∙ removed_next x xs (search_in cmp key (map key_of xs))
  removed_by key x xs g ih Equal e = without_greater key xs (greater_than_equal key (key_of x) xs (tied_back total (key_of x) key e) g)
  removed_by key x xs g ih Greater e = ap (λ ys. x ∷ ys) (without_greater key xs (greater_than_less key (key_of x) xs (total.antisymm key (key_of x) ∙ ap ordering_reverse e) g))

  -- a removal is one at the place that a search finds
  pub without-search : (key : K) (xs : List X) → AreInOrder key_of cmp xs → without key_of cmp key xs ≡ removed_at xs (search_in cmp key (map key_of xs))
  without-search key [] h = refl
  without-search key (x ∷ xs) h = removed_by key x xs h.0 (without-search key xs h.1) (cmp (key_of x) key) refl

  pub changed-search : (key : K) (object : Option X) (xs : List X) → Puts key_of key object → AreInOrder key_of cmp xs → changed key_of cmp key object xs ≡ changed_at object xs (search_in cmp key (map key_of xs))
  changed-search key None xs p h = without-search key xs h
  changed-search key (Some x) xs p h = put-search x xs ∙ ap (λ k. put_at x xs (search_in cmp k (map key_of xs))) p

-- what is read of the elements changes with them
pub map-put_at : {X Y : Type 0} (f : X → Y) (x : X) (xs : List X) (r : Result ℕ ℕ) → map f (put_at x xs r) ≡ put_at (f x) (map f xs) r
map-put_at f x xs (Ok place) = map-set f xs place x
map-put_at f x xs (Err place) = rw (take-map f place xs, drop-map f place xs) (map-append f (take place xs) (x ∷ drop place xs))

pub map-removed_at : {X Y : Type 0} (f : X → Y) (xs : List X) (r : Result ℕ ℕ) → map f (removed_at xs r) ≡ removed_at (map f xs) r
map-removed_at f xs (Ok place) = rw (take-map f place xs, drop-map f (suc place) xs) (map-append f (take place xs) (drop (suc place) xs))
map-removed_at f xs (Err place) = refl
