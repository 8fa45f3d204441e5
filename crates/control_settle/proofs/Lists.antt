-- Sums over the objects that stand, after a change at one key.
use Rattle.std.proofs.Common.{◌≡◌, ◌≢◌, ℕ, ◌+◌, ◌≤◌, [], ◌∷◌, Bool, true, false, cond, Some, None, Ordering, refl, sym, ap, ◌∙◌, subst, arith}
use Rattle.std.specs.Ordering.{is_eq, ordering_reverse}
use Rattle.std.specs.declared.cmp.Ordering.TheVariants.{Less, Equal, Greater}
use Rattle.version_store.specs.State as store
use Rattle.version_store.specs.Index.{AreGreater}
use Rattle.version_store.proofs.Keyed.{greater_than_less, greater_than_equal, without_greater}
use Rattle.resource_types.specs.declared.names.Key.{Key}
use Rattle.resource_types.specs.declared.objects.Object.{Object}
use Rattle.resource_types.specs.contracts.names.KeyOrd.TheImpl as key_order
use Rattle.resource_types.specs.contracts.names.KeyOrd.TheImpl.Laws as key_laws
use Rattle.resource_types.specs.Lookups.{State, find}
use Rattle.control_entries.specs.Ground.{IsOrdered}
use Rattle.control_settle.specs.Burden.{weigh}
use Rattle.control_settle.proofs.Machine.{In, First, Later}
use Rattle.control_entries.proofs.Changes.{Change}
use Rattle.control_entries.proofs.Tests.{not_both, some_same}
use Rattle.control_entries.proofs.Standing.{key_self, key_tied}

abbrev pub IsBelow : Key → State → Type 0
IsBelow k st = AreGreater (λ (o : Object). o.key) key_order.ghosts.cmp k st

abbrev pub without : Key → State → State
without k st = store.without (λ (o : Object). o.key) key_order.ghosts.cmp k st

abbrev pub put : Object → State → State
put x st = store.put (λ (o : Object). o.key) key_order.ghosts.cmp x st

-- ---- members are found

greater_in : (k : Key) (st : State) (p : Object) → IsBelow k st → In p st → key_order.ghosts.cmp k p.key ≡ Less
greater_in k (x ∷ xs) p g (Later m) = greater_in k xs p g.1 m
greater_in k (_ ∷ xs) p g First = g.0
greater_in k [] p g m = elim m [ ]

pub found_in : (st : State) (p : Object) → IsOrdered st → In p st → find p.key st ≡ Some p
found_in (x ∷ xs) p h (Later m) = ap (λ r. cond (is_eq r) (Some x) (find p.key xs)) (greater_in x.key xs p h.0 m) ∙ found_in xs p h.1 m
found_in (_ ∷ xs) p h First = ap (λ t. cond t (Some p) (find p.key xs)) (key_self p.key)
found_in [] p h m = elim m [ ]

pub in_found : (st : State) (k : Key) (o : Object) → find k st ≡ Some o → In o st
in_found [] k o e = absurd cc
in_found (x ∷ xs) k o e = go (is_eq (key_order.ghosts.cmp x.key k)) e (in_found xs k o)
  where
    go : (t : Bool) → cond t (Some x) (find k xs) ≡ Some o → (find k xs ≡ Some o → In o xs) → In o (x ∷ xs)
    go true e ih = subst (λ z. In z (x ∷ xs)) (some_same e) First
    go false e ih = Later (ih e)

-- ---- sums

pub weigh-without : (w : Object → ℕ) (k : Key) (st : State) → weigh w (without k st) ≤ weigh w st
unfolding weigh
weigh-without w k [] = omega arith
weigh-without w k (x ∷ xs) = go (is_eq (key_order.ghosts.cmp x.key k)) (weigh-without w k xs)
  where
    go : (t : Bool) → weigh w (without k xs) ≤ weigh w xs → weigh w (cond t (without k xs) (x ∷ without k xs)) ≤ w x + weigh w xs
    go true ih = omega arith
    go false ih = omega arith

pub weigh-without_found : (w : Object → ℕ) (k : Key) (o : Object) (st : State) → find k st ≡ Some o → weigh w (without k st) + w o ≤ weigh w st
unfolding weigh
weigh-without_found w k o [] e = absurd cc
weigh-without_found w k o (x ∷ xs) e = go (is_eq (key_order.ghosts.cmp x.key k)) e (weigh-without_found w k o xs) (weigh-without w k xs)
  where
    go : (t : Bool) → cond t (Some x) (find k xs) ≡ Some o → (find k xs ≡ Some o → weigh w (without k xs) + w o ≤ weigh w xs) → weigh w (without k xs) ≤ weigh w xs → weigh w (cond t (without k xs) (x ∷ without k xs)) + w o ≤ w x + weigh w xs
    go true e ih le = let same : w x ≡ w o = ap w (some_same e) in omega arith
    go false e ih le = let i = ih e in omega arith

put_by : (w : Object → ℕ) (x y : Object) (ys : State) → IsOrdered (y ∷ ys) → weigh w (put x ys) ≤ w x + weigh w (without x.key ys) → (r : Ordering) → key_order.ghosts.cmp x.key y.key ≡ r
    → weigh w (store.placed r x y ys (put x ys)) ≤ w x + weigh w (cond (is_eq (key_order.ghosts.cmp y.key x.key)) (without x.key ys) (y ∷ without x.key ys))
unfolding weigh
put_by w x y ys h ih Less e =
    let back : key_order.ghosts.cmp y.key x.key ≡ Greater = key_laws.total-law.antisymm y.key x.key ∙ ap ordering_reverse e in
    let same : without x.key ys ≡ ys = without_greater (λ (o : Object). o.key) key_order.ghosts.cmp key_laws.total-law x.key ys (greater_than_less (λ (o : Object). o.key) key_order.ghosts.cmp key_laws.total-law x.key y.key ys e h.0) in
    rw (back, same) (omega arith)
put_by w x y ys h ih Equal e =
    let back : key_order.ghosts.cmp y.key x.key ≡ Equal = key_laws.total-law.antisymm y.key x.key ∙ ap ordering_reverse e in
    let same : without x.key ys ≡ ys = without_greater (λ (o : Object). o.key) key_order.ghosts.cmp key_laws.total-law x.key ys (greater_than_equal (λ (o : Object). o.key) key_order.ghosts.cmp key_laws.total-law x.key y.key ys e h.0) in
    rw (back, same) (omega arith)
put_by w x y ys h ih Greater e =
    let back : key_order.ghosts.cmp y.key x.key ≡ Less = key_laws.total-law.antisymm y.key x.key ∙ ap ordering_reverse e in
    rw back (omega arith)

pub weigh-put : (w : Object → ℕ) (x : Object) (st : State) → IsOrdered st → weigh w (put x st) ≤ w x + weigh w (without x.key st)
unfolding weigh
weigh-put w x [] h = omega arith
weigh-put w x (y ∷ ys) h = put_by w x y ys h (weigh-put w x ys h.1) (key_order.ghosts.cmp x.key y.key) refl

-- where each member weighs no more, all weigh no more
pub weigh_less : (u w : Object → ℕ) (st : State) → ((p : Object) → In p st → u p ≤ w p) → weigh u st ≤ weigh w st
unfolding weigh
weigh_less u w [] h = omega arith
weigh_less u w (x ∷ xs) h = let a = h x First in let b = weigh_less u w xs (λ p m. h p (Later m)) in omega arith

-- the same without a key
pub weigh_less_but : (u w : Object → ℕ) (k : Key) (st : State) → ((p : Object) → In p st → (k ≢ p.key) → u p ≤ w p) → weigh u (without k st) ≤ weigh w (without k st)
unfolding weigh
weigh_less_but u w k [] h = omega arith
weigh_less_but u w k (x ∷ xs) h = go (is_eq (key_order.ghosts.cmp x.key k)) refl (weigh_less_but u w k xs (λ p m. h p (Later m)))
  where
    go : (t : Bool) → is_eq (key_order.ghosts.cmp x.key k) ≡ t → weigh u (without k xs) ≤ weigh w (without k xs) → weigh u (cond t (without k xs) (x ∷ without k xs)) ≤ weigh w (cond t (without k xs) (x ∷ without k xs))
    go true e ih = ih
    go false e ih = let a = h x First (λ q. not_both (subst (λ z. is_eq (key_order.ghosts.cmp x.key z) ≡ true) (sym q) (key_self x.key)) e) in omega arith

-- and where one member weighs so much less, so do all
pub weigh_falls_but : (u w : Object → ℕ) (k : Key) (s : Object) (d : ℕ) (st : State) → ((p : Object) → In p st → (k ≢ p.key) → u p ≤ w p) → In s st → (k ≢ s.key) → u s + d ≤ w s → weigh u (without k st) + d ≤ weigh w (without k st)
unfolding weigh
weigh_falls_but u w k s d (x ∷ xs) h (Later m) apart fall = go (is_eq (key_order.ghosts.cmp x.key k)) refl (weigh_falls_but u w k s d xs (λ p m. h p (Later m)) m apart fall)
  where
    go : (t : Bool) → is_eq (key_order.ghosts.cmp x.key k) ≡ t → weigh u (without k xs) + d ≤ weigh w (without k xs) → weigh u (cond t (without k xs) (x ∷ without k xs)) + d ≤ weigh w (cond t (without k xs) (x ∷ without k xs))
    go true e ih = ih
    go false e ih = let a = h x First (λ q. not_both (subst (λ z. is_eq (key_order.ghosts.cmp x.key z) ≡ true) (sym q) (key_self x.key)) e) in omega arith
weigh_falls_but u w k s d (_ ∷ xs) h First apart fall = go (is_eq (key_order.ghosts.cmp s.key k)) refl (weigh_less_but u w k xs (λ p m. h p (Later m)))
  where
    go : (t : Bool) → is_eq (key_order.ghosts.cmp s.key k) ≡ t → weigh u (without k xs) ≤ weigh w (without k xs) → weigh u (cond t (without k xs) (s ∷ without k xs)) + d ≤ weigh w (cond t (without k xs) (s ∷ without k xs))
    go true e ih = absurd (apart (sym (key_tied s.key k e)))
    go false e ih = omega arith
weigh_falls_but u w k s d [] h m apart fall = elim m [ ]

-- ---- after a change

-- a put, where something stands or not
pub weigh_put_less : (u w : Object → ℕ) (k : Key) (x : Object) (a b : State) → Change k (Some x) a b → ((p : Object) → In p a → (k ≢ p.key) → u p ≤ w p) → weigh u b ≤ u x + weigh w (without k a)
weigh_put_less u w k x a b h less =
    let put : weigh u b ≤ u x + weigh u (without x.key a) = subst (λ z. weigh u z ≤ u x + weigh u (without x.key a)) (sym h.is) (weigh-put u x a h.ordered) in
    let at : weigh u (without x.key a) ≡ weigh u (without k a) = ap (λ q. weigh u (without q a)) h.puts in
    let rest = weigh_less_but u w k a less in
    omega arith

-- a put in place of an object
pub weigh_put_at : (u w : Object → ℕ) (k : Key) (x o : Object) (a b : State) → Change k (Some x) a b → find k a ≡ Some o → ((p : Object) → In p a → (k ≢ p.key) → u p ≤ w p) → weigh u b + w o ≤ u x + weigh w a
weigh_put_at u w k x o a b h e less = let p = weigh_put_less u w k x a b h less in let f = weigh-without_found w k o a e in omega arith

-- a put anywhere
pub weigh_put_any : (u w : Object → ℕ) (k : Key) (x : Object) (a b : State) → Change k (Some x) a b → ((p : Object) → In p a → (k ≢ p.key) → u p ≤ w p) → weigh u b ≤ u x + weigh w a
weigh_put_any u w k x a b h less = let p = weigh_put_less u w k x a b h less in let f = weigh-without w k a in omega arith

-- a put while another falls
pub weigh_put_falls : (u w : Object → ℕ) (k : Key) (x s : Object) (d : ℕ) (a b : State) → Change k (Some x) a b → ((p : Object) → In p a → (k ≢ p.key) → u p ≤ w p) → In s a → (k ≢ s.key) → u s + d ≤ w s → weigh u b + d ≤ u x + weigh w (without k a)
weigh_put_falls u w k x s d a b h less m apart fall =
    let put : weigh u b ≤ u x + weigh u (without x.key a) = subst (λ z. weigh u z ≤ u x + weigh u (without x.key a)) (sym h.is) (weigh-put u x a h.ordered) in
    let at : weigh u (without x.key a) ≡ weigh u (without k a) = ap (λ q. weigh u (without q a)) h.puts in
    let rest = weigh_falls_but u w k s d a less m apart fall in
    omega arith

-- a removal
pub weigh_removed : (u w : Object → ℕ) (k : Key) (o : Object) (a b : State) → Change k None a b → find k a ≡ Some o → ((p : Object) → In p a → (k ≢ p.key) → u p ≤ w p) → weigh u b + w o ≤ weigh w a
weigh_removed u w k o a b h e less =
    let is : weigh u b ≡ weigh u (without k a) = ap (weigh u) h.is in
    let rest = weigh_less_but u w k a less in
    let f = weigh-without_found w k o a e in
    omega arith
