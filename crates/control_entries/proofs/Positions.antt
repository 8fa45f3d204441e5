-- What an entry changes of what stands, from one position of a journal to the next.
use Rattle.std.proofs.Common.{◌≡◌, ◌≢◌, ℕ, suc, Bool, true, false, cond, take, Option, Some, refl, sym, ap, ◌∙◌, subst, add-one}
use Rattle.std.specs.Prelude.{slice_get}
use Rattle.std.specs.Ordering.{is_eq}
use Rattle.std.proofs.lemmas.Option.{get_or_from_slice_get}
use Rattle.version_store.proofs.Prefix.{find-next}
use Rattle.resource_types.specs.declared.names.Kind.{Kind}
use Rattle.resource_types.specs.declared.names.Name.{Name}
use Rattle.resource_types.specs.declared.names.Key.{Key}
use Rattle.resource_types.specs.declared.objects.Object.{Object}
use Rattle.resource_types.specs.contracts.names.KeyOrd.TheImpl as key_order
use Rattle.resource_types.specs.contracts.names.KeyOrd.TheImpl.Laws as key_laws
use Rattle.resource_types.specs.contracts.item.ObjectItem.TheImpl as object_item
use Rattle.resource_types.specs.Lookups.{Journal, find}
use Rattle.resource_types.proofs.Ordered.{state-order}
use Rattle.control_rules.specs.Standing.{key_at, of_its_kind, standing}
use Rattle.control_rules.specs.Slots.{ObjectEntry, state_at, AreStamped}
use Rattle.control_entries.specs.Ground.{IsOrdered}
use Rattle.control_entries.proofs.Tests.{not_both}
use Rattle.control_entries.proofs.Lists.{get_below}
use Rattle.control_entries.proofs.Standing.{key_self, key_tied}

pub ordered_at : (j : Journal) (n : ℕ) → IsOrdered (state_at j n)
ordered_at j n = state-order (take n j)

pub find_more : (j : Journal) → AreStamped j → (n : ℕ) (e : ObjectEntry) → slice_get j n ≡ Some e → (k : Key)
    → find k (state_at j (suc n)) ≡ cond (is_eq (key_order.ghosts.cmp e.key k)) e.object (find k (state_at j n))
find_more j s n e g k =
    ap (λ m. find k (state_at j m)) (sym (add-one n))
    ∙ find-next object_item.ghosts key_order.ghosts.cmp key_laws.total-law j n e k s (get_below j n e g) (sym (get_or_from_slice_get j n e e g))

-- what holds of the new object, and of the old one at another key, holds at each key
pub at_more : (j : Journal) → AreStamped j → (n : ℕ) (e : ObjectEntry) → slice_get j n ≡ Some e → (k : Key) (Q : Option Object → Type 0)
    → (e.key ≡ k → Q e.object) → ((e.key ≢ k) → Q (find k (state_at j n))) → Q (find k (state_at j (suc n)))
at_more j s n e g k Q new old = subst Q (sym (find_more j s n e g k)) (go (is_eq (key_order.ghosts.cmp e.key k)) refl)
  where
    go : (b : Bool) → is_eq (key_order.ghosts.cmp e.key k) ≡ b → Q (cond b e.object (find k (state_at j n)))
    go true q = new (key_tied e.key k q)
    go false q = old (λ p. not_both (subst (λ z. is_eq (key_order.ghosts.cmp z k) ≡ true) (sym p) (key_self k)) q)

-- the same of what stands under a name
pub at_standing : (j : Journal) → AreStamped j → (n : ℕ) (e : ObjectEntry) → slice_get j n ≡ Some e
    → (kind : Kind) (v : Name) (Q : Option Object → Type 0)
    → (e.key ≡ key_at kind v → Q (of_its_kind kind e.object)) → ((e.key ≢ key_at kind v) → Q (standing kind v (state_at j n)))
    → Q (standing kind v (state_at j (suc n)))
unfolding standing
at_standing j s n e g kind v Q new old = at_more j s n e g (key_at kind v) (λ w. Q (of_its_kind kind w)) new old

-- an entry on another key leaves what stands
pub untouched : (j : Journal) → AreStamped j → (n : ℕ) (e : ObjectEntry) → slice_get j n ≡ Some e → (kind : Kind) (v : Name) → (e.key ≢ key_at kind v)
    → standing kind v (state_at j (suc n)) ≡ standing kind v (state_at j n)
untouched j s n e g kind v apart = at_standing j s n e g kind v (λ w. w ≡ standing kind v (state_at j n)) (λ k. absurd (apart k)) (λ _. refl)

-- what an entry leaves under its own name
pub touched : (j : Journal) → AreStamped j → (n : ℕ) (e : ObjectEntry) → slice_get j n ≡ Some e → (kind : Kind) (v : Name) → e.key ≡ key_at kind v
    → standing kind v (state_at j (suc n)) ≡ of_its_kind kind e.object
touched j s n e g kind v k = at_standing j s n e g kind v (λ w. w ≡ of_its_kind kind e.object) (λ _. refl) (λ apart. absurd (apart k))
