-- The latest of the Revisions that count: one of greatest generation, and of equal ones the first by name.
use Rattle.std.proofs.Common.{◌≡◌, ℕ, zero, suc, ◌+◌, ◌<◌, ◌≤◌, ◌⊎◌, inl, inr, [], ◌∷◌, drop, Bool, true, false, cond, Option, Some, None, Less, Equal, refl, sym, ap, subst, ◌∙◌, arith, nat_lt}
use Rattle.std.specs.Prelude.{slice_get}
use Rattle.std.specs.Ordering.{ordering_then}
use Rattle.std.specs.List.{filter}
use Rattle.std.proofs.lemmas.Bool.Decides.{nat_tests}
use Rattle.version_store.specs.Index.{AreGreater, AreInOrder}
use Rattle.resource_types.specs.declared.names.Kind.{Kind}
use Rattle.resource_types.specs.declared.names.Kind.TheVariants as kind
use Rattle.resource_types.specs.declared.names.Key.{Key}
use Rattle.resource_types.specs.declared.objects.Object.{Object}
use Rattle.resource_types.specs.contracts.names.KindOrd.TheImpl as kind_order
use Rattle.resource_types.specs.contracts.names.NameOrd.TheImpl as name_order
use Rattle.resource_types.specs.contracts.names.KeyOrd.TheImpl as key_order
use Rattle.resource_types.specs.contracts.names.KeyOrd.TheImpl.Laws as key_laws
use Rattle.resource_types.specs.Objects.{same_kind, generation_of}
use Rattle.resource_types.specs.Lookups.{State, of_kind, later, latest_from, latest, IsAhead, IsLatest}
use Rattle.resource_types.proofs.Lists.{drop_at}

-- the latest of a list from a place on is that of the list behind it, with the object there looked at
pub latest-next : (counts : Object → Bool) (best : Option Object) (xs : State) (k : ℕ) (r : Object) → slice_get xs k ≡ Some r → latest_from counts (later (counts r) best r) (drop (k + 1) xs) ≡ latest_from counts best (drop k xs)
latest-next counts best xs k r e = ap (latest_from counts best) (sym (drop_at xs k r e))

-- the key of an object
abbrev pub key_of_object : Object → Key
key_of_object o = o.key

-- as `IsAhead`, by key
abbrev Precedes : Object → Object → Type 0
Precedes r o =
    (generation_of o.body < generation_of r.body)
    ⊎ (((generation_of o.body ≡ generation_of r.body) × (key_order.ghosts.cmp r.key o.key ≡ Less)) ⊎ (r ≡ o))

older_or_less : (r x : Object) (m n : ℕ) → generation_of x.body ≡ m → generation_of r.body ≡ n → m ≤ n → key_order.ghosts.cmp r.key x.key ≡ Less → (t : Bool) → nat_lt m n ≡ t → Precedes r x
older_or_less r x m n em en le less true e = let lt : generation_of x.body < generation_of r.body = grind (arith, nat_tests) in inl lt
older_or_less r x m n em en le less false e = let same : generation_of x.body ≡ generation_of r.body = grind (arith, nat_tests) in inr (inl (same, less))

older : (r b x : Object) → generation_of x.body ≤ generation_of b.body → generation_of b.body < generation_of r.body → generation_of x.body < generation_of r.body
older r b x le lt = omega arith

-- with a Revision that comes before x by key and is not of a lesser generation, what precedes it precedes x
precedes-past : (r b x : Object) → Precedes r b → generation_of x.body ≤ generation_of b.body → key_order.ghosts.cmp b.key x.key ≡ Less → Precedes r x
precedes-past r b x (inl lt) le less = inl (older r b x le lt)
precedes-past r b x (inr (inl (same, first))) le less =
    let le' : generation_of x.body ≤ generation_of r.body = omega (arith, same, le) in
    older_or_less r x (generation_of x.body) (generation_of r.body) refl refl le' (key_laws.total-law.trans r.key b.key x.key first less) (nat_lt (generation_of x.body) (generation_of r.body)) refl
precedes-past r b x (inr (inr same)) le less =
    let le' : generation_of x.body ≤ generation_of r.body = omega (arith, ap (λ (o : Object). generation_of o.body) same, le) in
    older_or_less r x (generation_of x.body) (generation_of r.body) refl refl le' (ap (λ (o : Object). key_order.ghosts.cmp o.key x.key) same ∙ less) (nat_lt (generation_of x.body) (generation_of r.body)) refl

at_most : (r x : Object) → Precedes r x → generation_of x.body ≤ generation_of r.body
at_most r x (inl lt) = omega arith
at_most r x (inr (inl (same, first))) = omega (arith, same)
at_most r x (inr (inr same)) = omega (arith, ap (λ (o : Object). generation_of o.body) same)

past_lesser : (r b x : Object) → generation_of b.body < generation_of x.body → Precedes r x → Precedes r b
past_lesser r b x lt p = let le = at_most r x p in let lt' : generation_of b.body < generation_of r.body = omega (arith, lt, le) in inl lt'

-- what holds of the first and of all others holds of each
each : (P : Object → Type 0) (x : Object) (xs : State) → P x → ((place : ℕ) (o : Object) → slice_get xs place ≡ Some o → P o) → (place : ℕ) (o : Object) → slice_get (x ∷ xs) place ≡ Some o → P o
each P x xs first rest zero o e = let same : x ≡ o = cc in subst P same first
each P x xs first rest (suc place) o e = rest place o e

module _ (counts : Object → Bool) where
  record IsBest (best : Option Object) (rs : State) (r : Object) : Type 0 where
    from : (best ≡ Some r) ⊎ ((place : ℕ) × (slice_get rs place ≡ Some r))
    counted : counts r ≡ true
    ahead : (place : ℕ) (o : Object) → slice_get rs place ≡ Some o → counts o ≡ true → Precedes r o
    past_best : (b : Object) → best ≡ Some b → Precedes r b

  -- what the best of a first one and of a list is
  abbrev Means : Option Object → State → Option Object → Type 0
  Means best rs None = (best ≡ None) × ((place : ℕ) (o : Object) → slice_get rs place ≡ Some o → counts o ≡ false)
  Means best rs (Some r) = IsBest best rs r

  -- the best so far counts, and comes before the list
  abbrev IsBefore : Option Object → State → Type 0
  IsBefore None rs = Unit {0}
  IsBefore (Some b) rs = (counts b ≡ true) × AreGreater key_of_object key_order.ghosts.cmp b.key rs

  from_more : (best : Option Object) (x : Object) (xs : State) (r : Object) → (best ≡ Some r) ⊎ ((place : ℕ) × (slice_get xs place ≡ Some r)) → (best ≡ Some r) ⊎ ((place : ℕ) × (slice_get (x ∷ xs) place ≡ Some r))
  from_more best x xs r (inl e) = inl e
  from_more best x xs r (inr p) = inr (suc p.0, p.1)

  from_first : (x : Object) (xs : State) (r : Object) → (Some x ≡ Some r) ⊎ ((place : ℕ) × (slice_get xs place ≡ Some r)) → (place : ℕ) × (slice_get (x ∷ xs) place ≡ Some r)
  from_first x xs r (inl e) = (zero, e)
  from_first x xs r (inr p) = (suc p.0, p.1)

  is_before-next : (best : Option Object) (x : Object) (xs : State) → IsBefore best (x ∷ xs) → IsBefore best xs
  is_before-next None x xs h = tt
  is_before-next (Some b) x xs h = (h.0, h.1.1)

  skipped : (best : Option Object) (x : Object) (xs : State) → counts x ≡ false → (out : Option Object) → Means best xs out → Means best (x ∷ xs) out
  skipped best x xs e None m = (m.0, each (λ o. counts o ≡ false) x xs e m.1)
  skipped best x xs e (Some r) m = record {
    from = from_more best x xs r m.from;
    counted = m.counted;
    ahead = each (λ o. counts o ≡ true → Precedes r o) x xs (λ f. let g : false ≡ true = sym e ∙ f in absurd cc) m.ahead;
    past_best = m.past_best;
  }

  taken : (best : Option Object) (x : Object) (xs : State) → ((b : Object) → best ≡ Some b → generation_of b.body < generation_of x.body) → (out : Option Object) → Means (Some x) xs out → Means best (x ∷ xs) out
  taken best x xs newer None m = let e = m.0 in absurd cc
  taken best x xs newer (Some r) m = record {
    from = inr (from_first x xs r m.from);
    counted = m.counted;
    ahead = each (λ o. counts o ≡ true → Precedes r o) x xs (λ f. m.past_best x refl) m.ahead;
    past_best = λ b e. past_lesser r b x (newer b e) (m.past_best x refl);
  }

  kept : (b x : Object) (xs : State) → generation_of x.body ≤ generation_of b.body → key_order.ghosts.cmp b.key x.key ≡ Less → (out : Option Object) → Means (Some b) xs out → Means (Some b) (x ∷ xs) out
  kept b x xs le less None m = let e = m.0 in absurd cc
  kept b x xs le less (Some r) m = record {
    from = from_more (Some b) x xs r m.from;
    counted = m.counted;
    ahead = each (λ o. counts o ≡ true → Precedes r o) x xs (λ f. precedes-past r b x (m.past_best b refl) le less) m.ahead;
    past_best = m.past_best;
  }

  abbrev Rest : State → Type 0
  Rest xs = (best : Option Object) → IsBefore best xs → Means best xs (latest_from counts best xs)

  counted_step : (b x : Object) (xs : State) → AreGreater key_of_object key_order.ghosts.cmp x.key xs → IsBefore (Some b) (x ∷ xs) → counts x ≡ true → Rest xs → (t : Bool) → nat_lt (generation_of b.body) (generation_of x.body) ≡ t → Means (Some b) (x ∷ xs) (latest_from counts (cond t (Some x) (Some b)) xs)
  counted_step b x xs g h e rest true lt =
      let newer : generation_of b.body < generation_of x.body = grind (arith, nat_tests) in
      taken (Some b) x xs (λ c f. let same : b ≡ c = cc in subst (λ (o : Object). generation_of o.body < generation_of x.body) same newer) (latest_from counts (Some x) xs) (rest (Some x) (e, g))
  counted_step b x xs g h e rest false lt =
      let le : generation_of x.body ≤ generation_of b.body = grind (arith, nat_tests) in
      kept b x xs le h.1.0 (latest_from counts (Some b) xs) (rest (Some b) (h.0, h.1.1))

  step : (best : Option Object) (x : Object) (xs : State) → AreGreater key_of_object key_order.ghosts.cmp x.key xs → IsBefore best (x ∷ xs) → Rest xs → (t : Bool) → counts x ≡ t → Means best (x ∷ xs) (latest_from counts (later t best x) xs)
  step best x xs g h rest false e = skipped best x xs e (latest_from counts best xs) (rest best (is_before-next best x xs h))
  step None x xs g h rest true e = taken None x xs (λ b f. absurd cc) (latest_from counts (Some x) xs) (rest (Some x) (e, g))
  step (Some b) x xs g h rest true e = counted_step b x xs g h e rest (nat_lt (generation_of b.body) (generation_of x.body)) refl

  means : (xs : State) → AreInOrder key_of_object key_order.ghosts.cmp xs → Rest xs
  means [] h None k = (refl, λ place o e. absurd cc)
  means [] h (Some b) k = record { from = inl refl; counted = k.0; ahead = λ place o e. absurd cc; past_best = λ c e. inr (inr (cc)) }
  means (x ∷ xs) h best k = step best x xs h.0 k (means xs h.1) (counts x) refl

-- ---- a list in order stays so without some of its objects

greater_by : (key : Key) (x : Object) (xs rest : State) → key_order.ghosts.cmp key x.key ≡ Less → AreGreater key_of_object key_order.ghosts.cmp key rest → (t : Bool) → AreGreater key_of_object key_order.ghosts.cmp key (cond t (x ∷ rest) rest)
greater_by key x xs rest less h true = (less, h)
greater_by key x xs rest less h false = h

greater-filter : (p : Object → Bool) (key : Key) (xs : State) → AreGreater key_of_object key_order.ghosts.cmp key xs → AreGreater key_of_object key_order.ghosts.cmp key (filter p xs)
greater-filter p key [] h = tt
greater-filter p key (x ∷ xs) h = greater_by key x xs (filter p xs) h.0 (greater-filter p key xs h.1) (p x)

order_by : (x : Object) (rest : State) → AreGreater key_of_object key_order.ghosts.cmp x.key rest → AreInOrder key_of_object key_order.ghosts.cmp rest → (t : Bool) → AreInOrder key_of_object key_order.ghosts.cmp (cond t (x ∷ rest) rest)
order_by x rest g h true = (g, h)
order_by x rest g h false = h

pub order-filter : (p : Object → Bool) (xs : State) → AreInOrder key_of_object key_order.ghosts.cmp xs → AreInOrder key_of_object key_order.ghosts.cmp (filter p xs)
order-filter p [] h = tt
order-filter p (x ∷ xs) h = order_by x (filter p xs) (greater-filter p x.key xs h.0) (order-filter p xs h.1) (p x)

-- ---- by name

kinds_tie : (a b : Kind) → a ≡ kind.Revision → b ≡ kind.Revision → kind_order.ghosts.cmp a b ≡ Equal
kinds_tie a b e f = rw (e, f) refl

by_name : (r o : Object) → r.key.kind ≡ kind.Revision → o.key.kind ≡ kind.Revision → key_order.ghosts.cmp r.key o.key ≡ Less → name_order.ghosts.cmp r.key.name o.key.name ≡ Less
by_name r o e f less = sym (ap (λ t. ordering_then t (name_order.ghosts.cmp r.key.name o.key.name)) (kinds_tie r.key.kind o.key.kind e f)) ∙ less

ahead-by_name : (r o : Object) → r.key.kind ≡ kind.Revision → o.key.kind ≡ kind.Revision → Precedes r o → IsAhead r o
ahead-by_name r o e f (inl lt) = inl lt
ahead-by_name r o e f (inr (inl (same, less))) = inr (inl (same, by_name r o e f less))
ahead-by_name r o e f (inr (inr same)) = inr (inr same)

stands_by : (xs : State) (r : Object) → (None ≡ Some r) ⊎ ((place : ℕ) × (slice_get xs place ≡ Some r)) → (place : ℕ) × (slice_get xs place ≡ Some r)
stands_by xs r (inl e) = absurd cc
stands_by xs r (inr p) = p

module _ (counts : Object → Bool) (are_revisions : (o : Object) → counts o ≡ true → o.key.kind ≡ kind.Revision) (st : State) where
  answer : (out : Option Object) → Means counts None (of_kind kind.Revision st) out → IsLatest counts st out
  answer None m = m.1
  answer (Some r) m = record {
    stands = stands_by (of_kind kind.Revision st) r m.from;
    counted = m.counted;
    ahead = λ place o at yes. ahead-by_name r o (are_revisions r m.counted) (are_revisions o yes) (m.ahead place o at yes);
  }

  -- the latest is the newest Revision that counts, and is none exactly where none counts
  pub latest-law : AreInOrder key_of_object key_order.ghosts.cmp st → IsLatest counts st (latest counts st)
  latest-law h = answer (latest counts st) (means counts (of_kind kind.Revision st) (order-filter (λ o. same_kind o.key.kind kind.Revision) st h) None tt)
