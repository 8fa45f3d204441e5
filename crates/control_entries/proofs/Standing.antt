-- What stands under a key or a name, and where it stands in the state.
use Rattle.std.proofs.Common.{◌≡◌, ◌≢◌, ◌⊎◌, inl, inr, ℕ, suc, Bool, true, false, cond, ◌&&◌, [], ◌∷◌, Option, Some, None, Ordering, refl, sym, ap, ◌∙◌, subst}
use Rattle.std.specs.Prelude.{slice_get}
use Rattle.std.specs.Ordering.{is_eq, ordering_reverse}
use Rattle.std.specs.declared.cmp.Ordering.TheVariants.{Less, Equal, Greater}
use Rattle.version_store.proofs.Keyed.{is_eq-true}
use Rattle.version_store.proofs.Standing.{find_key, find_own}
use Rattle.resource_types.specs.declared.names.Kind.{Kind}
use Rattle.resource_types.specs.declared.names.Name.{Name}
use Rattle.resource_types.specs.declared.names.Key.{Key}
use Rattle.resource_types.specs.declared.objects.Object.{Object}
use Rattle.resource_types.specs.contracts.names.KeyOrd.TheImpl as key_order
use Rattle.resource_types.specs.contracts.names.KeyOrd.TheImpl.Laws as key_laws
use Rattle.resource_types.specs.Objects.{same_kind, is_of, kind_of_body}
use Rattle.resource_types.specs.Lookups.{State, find, of_kind}
use Rattle.resource_types.proofs.Exact.{left, right, kind-exact, kind-own, key-exact}
use Rattle.resource_types.proofs.Latest.{key_of_object}
use Rattle.control_rules.specs.Standing.{key_at, of_its_kind, standing}
use Rattle.control_entries.specs.Ground.{IsOrdered}
use Rattle.control_entries.proofs.Tests.{some_same, none_some, both, not_both, false_from, kind_same}
use Rattle.control_entries.proofs.Lists.{filter_at, at_filter}
use Rattle.control_entries.proofs.Each.{Each, each_from, each_by, each_passing}

-- ---- keys

own_reverse : (r : Ordering) → r ≡ ordering_reverse r → is_eq r ≡ true
own_reverse Less e = absurd cc
own_reverse Equal e = refl
own_reverse Greater e = absurd cc

pub key_self : (k : Key) → is_eq (key_order.ghosts.cmp k k) ≡ true
key_self k = own_reverse (key_order.ghosts.cmp k k) (key_laws.total-law.antisymm k k)

pub key_tied : (a b : Key) → is_eq (key_order.ghosts.cmp a b) ≡ true → a ≡ b
key_tied a b e = key-exact a b (is_eq-true (key_order.ghosts.cmp a b) e)

pub key_or_not : (a b : Key) → (a ≡ b) ⊎ (a ≢ b)
key_or_not a b = go (is_eq (key_order.ghosts.cmp a b)) refl
  where
    go : (t : Bool) → is_eq (key_order.ghosts.cmp a b) ≡ t → (a ≡ b) ⊎ (a ≢ b)
    go true e = inl (key_tied a b e)
    go false e = inr (λ q. not_both (subst (λ z. is_eq (key_order.ghosts.cmp a z) ≡ true) q (key_self a)) e)

pub apart_tied : (a b : Key) → (a ≢ b) → is_eq (key_order.ghosts.cmp a b) ≡ false
apart_tied a b h = false_from (λ e. h (key_tied a b e))

pub kinds_apart : (a b : Key) → (a.kind ≢ b.kind) → a ≢ b
kinds_apart a b h = λ e. h (kind_same e)

pub names_apart : (a b : Key) → (a.name ≢ b.name) → a ≢ b
names_apart a b h = λ e. h (ap (λ (k : Key). k.name) e)

-- ---- what is found

-- what is found under a key has it
pub found_key : (k : Key) (st : State) (o : Object) → find k st ≡ Some o → o.key ≡ k
found_key k st o h = key-exact o.key k (find_key key_of_object key_order.ghosts.cmp key_laws.total-law k st o h)

-- the object is found under its key
abbrev pub IsFound : State → Object → Type 0
IsFound st o = find o.key st ≡ Some o

-- what stands in a state is found under its key
pub found_own : (st : State) (i : ℕ) (o : Object) → IsOrdered st → slice_get st i ≡ Some o → IsFound st o
found_own st i o ordered h = find_own key_of_object key_order.ghosts.cmp key_laws.total-law st i o ordered h

-- what is found stands somewhere
pub found_at : (k : Key) (st : State) (o : Object) → find k st ≡ Some o → (i : ℕ) × (slice_get st i ≡ Some o)
found_at k [] o h = absurd cc
found_at k (x ∷ st) o h = go (is_eq (key_order.ghosts.cmp x.key k)) h (found_at k st o)
  where
    go : (b : Bool) → cond b (Some x) (find k st) ≡ Some o → (find k st ≡ Some o → (i : ℕ) × (slice_get st i ≡ Some o))
        → (i : ℕ) × (slice_get (x ∷ st) i ≡ Some o)
    go true e ih = (0, e)
    go false e ih = let (i, f) = ih e in (suc i, f)

-- what holds of each object that stands holds of one that is found
pub each_found : (P : Object → Type 0) (key : Key) (st : State) (o : Object) → Each P st → find key st ≡ Some o → P o
each_found P key [] o h e = absurd cc
each_found P key (x ∷ st) o h e = go (is_eq (key_order.ghosts.cmp x.key key)) e (each_found P key st o h.1)
  where
    go : (b : Bool) → cond b (Some x) (find key st) ≡ Some o → (find key st ≡ Some o → P o) → P o
    go true t ih = subst P (some_same t) h.0
    go false t ih = ih t

pub all_found : (st : State) → IsOrdered st → Each (IsFound st) st
all_found st h = each_from (IsFound st) st (λ n o e. found_own st n o h e)

-- so is each of a kind
pub kind_found : (k : Kind) (st : State) → IsOrdered st → Each (IsFound st) (of_kind k st)
kind_found k st h = each_by _ (IsFound st) (of_kind k st) (λ o t. t.1)
    (each_passing (IsFound st) (λ (o : Object). same_kind o.key.kind k) st (all_found st h))

-- ---- objects of a kind

pub is_of_parts : (kind : Kind) (o : Object) → is_of kind o ≡ true → (o.key.kind ≡ kind) × (kind_of_body o.body ≡ kind)
is_of_parts kind o h = (kind-exact o.key.kind kind (left _ _ h), kind-exact (kind_of_body o.body) kind (right (same_kind o.key.kind kind) _ h))

pub is_of_both : (kind : Kind) (o : Object) → o.key.kind ≡ kind → kind_of_body o.body ≡ kind → is_of kind o ≡ true
is_of_both kind o p q = both (subst (λ k. same_kind o.key.kind k ≡ true) p (kind-own o.key.kind)) (subst (λ k. same_kind (kind_of_body o.body) k ≡ true) q (kind-own (kind_of_body o.body)))

-- what has a key of another kind is not of the kind
pub is_not : (k l : Kind) (x : Object) → x.key.kind ≡ l → same_kind l k ≡ false → is_of k x ≡ false
is_not k l x e h = ap (λ z. same_kind z k && same_kind (kind_of_body x.body) k) e ∙ ap (λ t. t && same_kind (kind_of_body x.body) k) h

-- an object of the kind stands under the name
pub record Stands (kind : Kind) (n : Name) (st : State) (o : Object) : Type 0 where
  pub found : find (key_at kind n) st ≡ Some o
  pub of : is_of kind o ≡ true
  pub key : o.key ≡ key_at kind n
  pub fits : kind_of_body o.body ≡ kind

pub stands : (kind : Kind) (n : Name) (st : State) (o : Object) → standing kind n st ≡ Some o → Stands kind n st o
unfolding standing
stands kind n st o h = go (find (key_at kind n) st) refl h
  where
    test : (p : Object) (b : Bool) → find (key_at kind n) st ≡ Some p → is_of kind p ≡ b → cond b (Some p) None ≡ Some o → Stands kind n st o
    test p false e t k = absurd cc
    test p true e t k =
        (let found : find (key_at kind n) st ≡ Some o = e ∙ k in
        let of : is_of kind o ≡ true = subst (λ z. is_of kind z ≡ true) (some_same k) t in
        record { found = found; of = of; key = found_key (key_at kind n) st o found; fits = (is_of_parts kind o of).1 })

    go : (w : Option Object) → find (key_at kind n) st ≡ w → of_its_kind kind w ≡ Some o → Stands kind n st o
    go None e k = absurd cc
    go (Some p) e k = test p (is_of kind p) e refl k

pub stands_is : (kind : Kind) (o : Object) → o.key.kind ≡ kind → kind_of_body o.body ≡ kind → of_its_kind kind (Some o) ≡ Some o
stands_is kind o p q = rw (is_of_both kind o p q) refl

-- what is of the kind is what is there
pub of_kind_some : (kind : Kind) (w : Option Object) (o : Object) → of_its_kind kind w ≡ Some o → w ≡ Some o
of_kind_some kind None o h = absurd cc
of_kind_some kind (Some p) o h = go (is_of kind p) h
  where
    go : (b : Bool) → cond b (Some p) None ≡ Some o → Some p ≡ Some o
    go true e = e
    go false e = absurd cc

pub standing_found : (kind : Kind) (n : Name) (st : State) (o : Object) → find (key_at kind n) st ≡ Some o → is_of kind o ≡ true
    → standing kind n st ≡ Some o
unfolding standing
standing_found kind n st o e h = ap (of_its_kind kind) e ∙ ap (λ b. cond b (Some o) None) h

pub standing_from : (kind : Kind) (n : Name) (st : State) (o : Object) → find (key_at kind n) st ≡ Some o → kind_of_body o.body ≡ kind
    → standing kind n st ≡ Some o
standing_from kind n st o h q = standing_found kind n st o h (is_of_both kind o (kind_same (found_key (key_at kind n) st o h)) q)

-- an object that is found under its key stands under its name
pub standing_own : (kind : Kind) (st : State) (o : Object) → IsFound st o → is_of kind o ≡ true → standing kind o.key.name st ≡ Some o
standing_own kind st o e h = standing_found kind o.key.name st o (sym (ap (λ z. find z st) own) ∙ e) h
  where
    own : o.key ≡ key_at kind o.key.name
    own = λ i. record { kind = (is_of_parts kind o h).0 i; name = o.key.name }

-- what stands under a name is found under its key
pub stands_own : (kind : Kind) (n : Name) (st : State) (o : Object) → Stands kind n st o → IsFound st o
stands_own kind n st o s = ap (λ z. find z st) s.key ∙ s.found

-- where all that stands under the key is of the kind, none of the kind means none
pub none_found : (kind : Kind) (n : Name) (st : State) → ((o : Object) → find (key_at kind n) st ≡ Some o → kind_of_body o.body ≡ kind)
    → standing kind n st ≡ None → find (key_at kind n) st ≡ None
none_found kind n st fits h = go (find (key_at kind n) st) refl
  where
    go : (w : Option Object) → find (key_at kind n) st ≡ w → find (key_at kind n) st ≡ None
    go None e = e
    go (Some o) e = absurd (none_some h (standing_from kind n st o e (fits o e)))

pub standing_none : (kind : Kind) (n : Name) (st : State) → find (key_at kind n) st ≡ None → standing kind n st ≡ None
unfolding standing
standing_none kind n st h = ap (of_its_kind kind) h

pub standing_same : (kind : Kind) (n : Name) (a b : State) → find (key_at kind n) a ≡ find (key_at kind n) b → standing kind n a ≡ standing kind n b
unfolding standing
standing_same kind n a b h = ap (of_its_kind kind) h

-- an object among those of the kind is of the kind by its key, and is found
pub kind_at : (kind : Kind) (st : State) (i : ℕ) (o : Object) → IsOrdered st → slice_get (of_kind kind st) i ≡ Some o
    → (o.key.kind ≡ kind) × IsFound st o
kind_at kind st i o ordered h =
    (let (t, k, e) = filter_at (λ (o : Object). same_kind o.key.kind kind) st i o h in (kind-exact o.key.kind kind t, found_own st k o ordered e))

pub at_kind : (kind : Kind) (st : State) (k : Key) (o : Object) → find k st ≡ Some o → k.kind ≡ kind
    → (i : ℕ) × (slice_get (of_kind kind st) i ≡ Some o)
at_kind kind st k o h q =
    (let (i, e) = found_at k st o h in
    let key = found_key k st o h in
    at_filter (λ (o : Object). same_kind o.key.kind kind) st i o e (subst (λ z. same_kind z kind ≡ true) (sym (kind_same key ∙ q)) (kind-own kind)))
