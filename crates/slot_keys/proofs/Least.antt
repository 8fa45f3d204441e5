-- The first of names in order that passes a test is the least that passes it.
use Rattle.std.proofs.Common.{◌≡◌, Bool, true, false, cond, List, [], ◌∷◌, Option, Some, None, Ordering, refl, sym, ap, ◌∙◌}
use Rattle.std.specs.Prelude.{map}
use Rattle.std.specs.List.{find, filter}
use Rattle.std.specs.Ordering.{is_lt, ordering_then}
use Rattle.std.specs.declared.cmp.Ordering.TheVariants.{Less, Equal, Greater}
use Rattle.version_store.specs.State as store
use Rattle.version_store.specs.Index.{AreInOrder, AreGreater}
use Rattle.resource_types.specs.declared.names.Kind.{Kind}
use Rattle.resource_types.specs.declared.names.Name.{Name}
use Rattle.resource_types.specs.declared.names.Key.{Key}
use Rattle.resource_types.specs.declared.objects.Object.{Object}
use Rattle.resource_types.specs.contracts.names.KindOrd.TheImpl as kind_order
use Rattle.resource_types.specs.contracts.names.KindOrd.TheImpl.Laws as kind_laws
use Rattle.resource_types.specs.contracts.names.NameOrd.TheImpl as name_order
use Rattle.resource_types.specs.contracts.names.NameOrd.TheImpl.Laws as name_laws
use Rattle.resource_types.specs.contracts.names.KeyOrd.TheImpl as key_order
use Rattle.resource_types.specs.Objects.{same_kind, is_of, kind_of_body}
use Rattle.resource_types.specs.Lookups.{State}
use Rattle.resource_types.proofs.Exact.{left, kind-exact, name-exact}
use Rattle.control_rules.specs.Slots.{names_of, in_order}
use Rattle.slot_table.proofs.Place.{key_self}
use Rattle.slot_keys.specs.Routed.{after_each, put_name}
use Rattle.slot_keys.specs.Nexts.{lesser, with_name}
use Rattle.slot_keys.proofs.Swaps.{put_swaps}

-- ---- names put in order

module _ (p : Name → Bool) (upward : (a b : Name) → name_order.ghosts.cmp a b ≡ Less → p a ≡ true → p b ≡ true) where
  put_by : (n m : Name) (ms rest : List Name) → find p rest ≡ with_name p n (find p ms) → (r : Ordering) → name_order.ghosts.cmp n m ≡ r → (a : Bool) → p n ≡ a → (b : Bool) → p m ≡ b
      → find p (store.placed r n m ms rest) ≡ with_name p n (find p (m ∷ ms))
  put_by n m ms rest ih Less e true f b g = let h : p m ≡ true = upward n m e f in rw (f, h, e) refl
  put_by n m ms rest ih Less e false f b g = rw f refl
  put_by n m ms rest ih Equal e true f b g = let h : p m ≡ true = ap p (sym (name-exact n m e)) ∙ f in rw (f, h, e) (ap Some (name-exact n m e))
  put_by n m ms rest ih Equal e false f b g = let h : p m ≡ false = ap p (sym (name-exact n m e)) ∙ f in rw (f, h) refl
  put_by n m ms rest ih Greater e true f true g = rw (f, g, e) refl
  put_by n m ms rest ih Greater e false f true g = rw (f, g) refl
  put_by n m ms rest ih Greater e a f false g = rw g ih

  find-put : (n : Name) (ms : List Name) → find p (put_name n ms) ≡ with_name p n (find p ms)
  find-put n [] = refl
  find-put n (m ∷ ms) = put_by n m ms (put_name n ms) (find-put n ms) (name_order.ghosts.cmp n m) refl (p n) refl (p m) refl

  -- with a name, all that are greater pass: so the first is the least
  pub find-in_order : (ns : List Name) → find p (in_order ns) ≡ after_each (with_name p) ns None
  unfolding in_order after_each
  find-in_order [] = refl
  find-in_order (n ∷ ns) = find-put n (in_order ns) ∙ ap (with_name p n) (find-in_order ns)

-- ---- one name after another

abbrev any_name : Name → Bool
any_name n = true

lesser_in : (n m : Name) (ms : List Name) → lesser (Some n) (lesser (Some m) (find any_name ms)) ≡ lesser (Some m) (lesser (Some n) (find any_name ms))
lesser_in n m ms =
    let put = find-put any_name (λ a b e f. refl) in
    ap (lesser (Some n)) (sym (put m ms)) ∙ sym (put n (put_name m ms)) ∙ ap (find any_name) (put_swaps n m ms) ∙ put m (put_name n ms) ∙ ap (lesser (Some m)) (put n ms)

lesser_swaps : (n m : Name) (least : Option Name) → lesser (Some n) (lesser (Some m) least) ≡ lesser (Some m) (lesser (Some n) least)
lesser_swaps n m None = lesser_in n m []
lesser_swaps n m (Some k) = lesser_in n m (k ∷ [])

-- names may count one before the other
pub with_swaps : (p : Name → Bool) (n m : Name) (least : Option Name) → with_name p n (with_name p m least) ≡ with_name p m (with_name p n least)
with_swaps p n m least = go (p n) (p m)
  where
    go : (a b : Bool) → cond a (lesser (Some n) (cond b (lesser (Some m) least) least)) (cond b (lesser (Some m) least) least)
        ≡ cond b (lesser (Some m) (cond a (lesser (Some n) least) least)) (cond a (lesser (Some n) least) least)
    go true true = lesser_swaps n m least
    go true false = refl
    go false true = refl
    go false false = refl

-- ---- names that stand in order

-- a name hides the greater ones
hides : (n m : Name) → name_order.ghosts.cmp n m ≡ Less → (least : Option Name) → lesser (Some n) (lesser (Some m) least) ≡ lesser (Some n) least
hides n m e None = rw e refl
hides n m e (Some k) = go (name_order.ghosts.cmp m k) refl
  where
    go : (r : Ordering) → name_order.ghosts.cmp m k ≡ r → lesser (Some n) (cond (is_lt r) (Some m) (Some k)) ≡ lesser (Some n) (Some k)
    go Less f = let g : name_order.ghosts.cmp n k ≡ Less = name_laws.total-law.trans n m k e f in rw (e, g) refl
    go Equal f = refl
    go Greater f = refl

module _ (p : Name → Bool) where
  hides_all : (n : Name) (ns : List Name) → AreGreater (λ (m : Name). m) name_order.ghosts.cmp n ns → (least : Option Name) → lesser (Some n) (lesser (find p ns) least) ≡ lesser (Some n) least
  hides_all n [] g least = refl
  hides_all n (m ∷ ns) g least = go (p m) (hides_all n ns g.1 least)
    where
      go : (b : Bool) → lesser (Some n) (lesser (find p ns) least) ≡ lesser (Some n) least → lesser (Some n) (lesser (cond b (Some m) (find p ns)) least) ≡ lesser (Some n) least
      go true ih = hides n m g.0 least
      go false ih = ih

  -- of names in order, the first that passes is enough
  pub first_enough : (ns : List Name) → AreInOrder (λ (m : Name). m) name_order.ghosts.cmp ns → (least : Option Name) → after_each (with_name p) ns least ≡ lesser (find p ns) least
  unfolding after_each
  first_enough [] h least = refl
  first_enough (n ∷ ns) h least = ap (with_name p n) (first_enough ns h.1 least) ∙ go (p n)
    where
      go : (b : Bool) → cond b (lesser (Some n) (lesser (find p ns) least)) (lesser (find p ns) least) ≡ lesser (cond b (Some n) (find p ns)) least
      go true = hides_all n ns h.0 least
      go false = refl

-- ---- the names of a kind

-- the key of an object
abbrev key_in : Object → Key
key_in o = o.key

kind_at : (k : Kind) (o : Object) → is_of k o ≡ true → o.key.kind ≡ k
kind_at k o is = kind-exact o.key.kind k (left (same_kind o.key.kind k) (same_kind (kind_of_body o.body) k) is)

-- keys of one kind are ordered by name
pub by_name : (k : Kind) (a b : Key) → a.kind ≡ k → b.kind ≡ k → key_order.ghosts.cmp a b ≡ name_order.ghosts.cmp a.name b.name
by_name k a b e f =
    ap (λ r. ordering_then r (name_order.ghosts.cmp a.name b.name))
    (ap (λ x. kind_order.ghosts.cmp x b.kind) e ∙ ap (λ x. kind_order.ghosts.cmp k x) f ∙ key_self kind_order.ghosts.cmp kind_laws.total-law k)

module _ (k : Kind) where
  greater_names : (q : Key) → q.kind ≡ k → (st : State) → AreGreater key_in key_order.ghosts.cmp q st → AreGreater (λ (n : Name). n) name_order.ghosts.cmp q.name (names_of k st)
  greater_names q of [] g = tt
  greater_names q of (o ∷ st) g = go (is_of k o) refl (greater_names q of st g.1)
    where
      go : (b : Bool) → is_of k o ≡ b → AreGreater (λ (n : Name). n) name_order.ghosts.cmp q.name (names_of k st)
          → AreGreater (λ (n : Name). n) name_order.ghosts.cmp q.name (map (λ (x : Object). x.key.name) (cond b (o ∷ filter (is_of k) st) (filter (is_of k) st)))
      go true is rest = (sym (by_name k q o.key of (kind_at k o is)) ∙ g.0, rest)
      go false is rest = rest

  -- they stand in order
  pub names_ordered : (st : State) → AreInOrder key_in key_order.ghosts.cmp st → AreInOrder (λ (n : Name). n) name_order.ghosts.cmp (names_of k st)
  names_ordered [] h = tt
  names_ordered (o ∷ st) h = go (is_of k o) refl (names_ordered st h.1)
    where
      go : (b : Bool) → is_of k o ≡ b → AreInOrder (λ (n : Name). n) name_order.ghosts.cmp (names_of k st)
          → AreInOrder (λ (n : Name). n) name_order.ghosts.cmp (map (λ (x : Object). x.key.name) (cond b (o ∷ filter (is_of k) st) (filter (is_of k) st)))
      go true is rest = (greater_names o.key (kind_at k o is) st h.0, rest)
      go false is rest = rest
