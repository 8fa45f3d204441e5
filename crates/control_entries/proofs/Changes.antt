-- What stands after a change at one key.
use Rattle.std.proofs.Common.{◌≡◌, ◌≢◌, ◌⊎◌, inl, inr, Bool, true, false, cond, Option, Some, None, sym, ap, ◌∙◌}
use Rattle.std.specs.Ordering.{is_eq}
use Rattle.version_store.specs.State as store
use Rattle.version_store.specs.Index.{AreInOrder}
use Rattle.version_store.proofs.Keyed.{Puts, find-changed}
use Rattle.resource_types.specs.declared.names.Kind.{Kind}
use Rattle.resource_types.specs.declared.names.Name.{Name}
use Rattle.resource_types.specs.declared.names.Key.{Key}
use Rattle.resource_types.specs.declared.objects.Object.{Object}
use Rattle.resource_types.specs.contracts.names.KeyOrd.TheImpl as key_order
use Rattle.resource_types.specs.contracts.names.KeyOrd.TheImpl.Laws as key_laws
use Rattle.resource_types.specs.Objects.{is_of}
use Rattle.resource_types.specs.Lookups.{State, find}
use Rattle.control_rules.specs.Standing.{key_at, of_its_kind, standing}
use Rattle.control_entries.proofs.Tests.{some_same, none_some}
use Rattle.control_entries.proofs.Standing.{key_self, key_or_not, apart_tied}

-- ---- a change at one key

pub record Change (k : Key) (x : Option Object) (a b : State) : Type 0 where
  pub is : b ≡ store.changed (λ (o : Object). o.key) key_order.ghosts.cmp k x a
  pub puts : Puts (λ (o : Object). o.key) k x
  pub ordered : AreInOrder (λ (o : Object). o.key) key_order.ghosts.cmp a

pub find_after : (k : Key) (x : Option Object) (a b : State) → Change k x a b → (q : Key) → find q b ≡ cond (is_eq (key_order.ghosts.cmp k q)) x (find q a)
find_after k x a b h q = ap (find q) h.is ∙ find-changed (λ (o : Object). o.key) key_order.ghosts.cmp key_laws.total-law q k x a h.puts

pub find_here : (k : Key) (x : Option Object) (a b : State) → Change k x a b → find k b ≡ x
find_here k x a b h = find_after k x a b h k ∙ ap (λ t. cond t x (find k a)) (key_self k)

pub find_elsewhere : (k : Key) (x : Option Object) (a b : State) → Change k x a b → (q : Key) → (k ≢ q) → find q b ≡ find q a
find_elsewhere k x a b h q apart = find_after k x a b h q ∙ ap (λ t. cond t x (find q a)) (apart_tied k q apart)

-- ---- what stands

-- a change at another key
pub stands_elsewhere : (k : Key) (x : Option Object) (a b : State) → Change k x a b → (kind : Kind) (n : Name) → (k ≢ key_at kind n) → standing kind n b ≡ standing kind n a
unfolding standing
stands_elsewhere k x a b h kind n apart = ap (of_its_kind kind) (find_elsewhere k x a b h (key_at kind n) apart)

-- and at this one
pub stands_here : (k : Key) (x : Option Object) (a b : State) → Change k x a b → (kind : Kind) (n : Name) → k ≡ key_at kind n → standing kind n b ≡ of_its_kind kind x
unfolding standing
stands_here k x a b h kind n e = ap (of_its_kind kind) (ap (λ q. find q b) (sym e) ∙ find_here k x a b h)

pub gone_here : (k : Key) (a b : State) → Change k None a b → (kind : Kind) (n : Name) → k ≡ key_at kind n → standing kind n b ≡ None
gone_here k a b h kind n e = stands_here k None a b h kind n e

pub put_here : (k : Key) (x : Object) (a b : State) → Change k (Some x) a b → (kind : Kind) (n : Name) → k ≡ key_at kind n → is_of kind x ≡ true → standing kind n b ≡ Some x
put_here k x a b h kind n e t = stands_here k (Some x) a b h kind n e ∙ ap (λ z. cond z (Some x) None) t

-- a change at a key of another kind
pub stands_other : (k : Key) (x : Option Object) (a b : State) → Change k x a b → (kind : Kind) → (k.kind ≢ kind) → (n : Name) → standing kind n b ≡ standing kind n a
stands_other k x a b h kind other n = stands_elsewhere k x a b h kind n (λ e. other (ap (λ q. q.kind) e))

-- what is said of what stands after it: of what was put, or of what stood
pub after_put : (k : Key) (x : Object) (a b : State) → Change k (Some x) a b → (kind : Kind) (n : Name) (o : Object) → standing kind n b ≡ Some o → (P : Type 0) → (k ≡ key_at kind n → o ≡ x → P) → (standing kind n a ≡ Some o → P) → P
after_put k x a b h kind n o e P here there = go (key_or_not k (key_at kind n))
  where
    go : (k ≡ key_at kind n) ⊎ (k ≢ key_at kind n) → P
    go (inl q) = here q (by (is_of kind x) (sym (stands_here k (Some x) a b h kind n q) ∙ e))
      where
        by : (t : Bool) → cond t (Some x) None ≡ Some o → o ≡ x
        by true g = sym (some_same g)
        by false g = absurd cc
    go (inr apart) = there (sym (stands_elsewhere k (Some x) a b h kind n apart) ∙ e)

pub after_removal : (k : Key) (a b : State) → Change k None a b → (kind : Kind) (n : Name) (o : Object) → standing kind n b ≡ Some o → (standing kind n a ≡ Some o) × (k ≢ key_at kind n)
after_removal k a b h kind n o e = go (key_or_not k (key_at kind n))
  where
    go : (k ≡ key_at kind n) ⊎ (k ≢ key_at kind n) → (standing kind n a ≡ Some o) × (k ≢ key_at kind n)
    go (inl q) = absurd (none_some (gone_here k a b h kind n q) e)
    go (inr apart) = (sym (stands_elsewhere k None a b h kind n apart) ∙ e, apart)

-- what stands under the key of a put is what was put
pub here_is : (k : Key) (x : Object) (a b : State) → Change k (Some x) a b → (kind : Kind) (n : Name) (o : Object) → standing kind n b ≡ Some o → k ≡ key_at kind n → o ≡ x
here_is k x a b h kind n o e q = by (is_of kind x) (sym (stands_here k (Some x) a b h kind n q) ∙ e)
  where
    by : (t : Bool) → cond t (Some x) None ≡ Some o → o ≡ x
    by true g = sym (some_same g)
    by false g = absurd cc
