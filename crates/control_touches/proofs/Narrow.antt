-- Choices among the objects of a kind, of which only some can be chosen; and what entries on other keys leave of these.
use Rattle.std.proofs.Common.{◌≡◌, Bool, true, false, cond, List, [], ◌∷◌, Option, Some, None, Ordering, refl, sym, ap, ◌∙◌}
use Rattle.std.specs.List.{filter}
use Rattle.std.specs.Ordering.{is_eq}
use Rattle.std.specs.declared.cmp.Ordering.TheVariants.{Less, Equal, Greater}
use Rattle.version_store.specs.State as store
use Rattle.version_store.proofs.Keyed.{Puts}
use Rattle.resource_types.specs.declared.names.Key.{Key}
use Rattle.resource_types.specs.declared.objects.Object.{Object}
use Rattle.resource_types.specs.contracts.names.KeyOrd.TheImpl as key_order
use Rattle.resource_types.specs.Lookups.{State, later, latest_from}
use Rattle.resource_types.proofs.Exact.{key-exact}
use Rattle.control_rules.specs.Slots.{ObjectEntry}
use Rattle.control_entries.proofs.Each.{Each}
use Rattle.control_entries.proofs.Standing.{key_tied}
use Rattle.control_touches.specs.Touches.{after_entry}
use Rattle.control_touches.proofs.Paths.{after, Along, ArePuts}

-- ---- narrower lists

-- of two tests the narrower one: what passes it passes the other, and what passes the other and may be chosen passes it
pub record IsNarrow (may wide narrow : Object → Bool) (x : Object) : Type 0 where
  pub within : narrow x ≡ true → wide x ≡ true
  pub enough : wide x ≡ true → may x ≡ true → narrow x ≡ true

skip : (g t f : Bool) → (g ≡ true → f ≡ true → t ≡ true) → g ≡ true → t ≡ false → f ≡ false
skip g t true h p q = absurd (let r = h p refl in cc)
skip g t false h p q = refl

pub filter_narrow : (may wide narrow : Object → Bool) (xs : List Object) → Each (IsNarrow may wide narrow) xs → filter may (filter wide xs) ≡ filter may (filter narrow xs)
filter_narrow may wide narrow [] h = refl
filter_narrow may wide narrow (x ∷ xs) h = go (wide x) refl (narrow x) refl (filter_narrow may wide narrow xs h.1)
  where
    go : (g : Bool) → wide x ≡ g → (t : Bool) → narrow x ≡ t → filter may (filter wide xs) ≡ filter may (filter narrow xs)
        → filter may (cond g (x ∷ filter wide xs) (filter wide xs)) ≡ filter may (cond t (x ∷ filter narrow xs) (filter narrow xs))
    go true p true q ih = ap (λ ys. cond (may x) (x ∷ ys) ys) ih
    go true p false q ih = ap (λ b. cond b (x ∷ filter may (filter wide xs)) (filter may (filter wide xs))) (skip (wide x) (narrow x) (may x) h.0.enough p q) ∙ ih
    go false p true q ih = absurd (let r = h.0.within q in cc)
    go false p false q ih = ih

pub latest_narrow : (may wide narrow : Object → Bool) (best : Option Object) (xs : List Object) → Each (IsNarrow may wide narrow) xs
    → latest_from may best (filter wide xs) ≡ latest_from may best (filter narrow xs)
latest_narrow may wide narrow best [] h = refl
latest_narrow may wide narrow best (x ∷ xs) h = go (wide x) refl (narrow x) refl (λ b. latest_narrow may wide narrow b xs h.1)
  where
    go : (g : Bool) → wide x ≡ g → (t : Bool) → narrow x ≡ t → ((b : Option Object) → latest_from may b (filter wide xs) ≡ latest_from may b (filter narrow xs))
        → latest_from may best (cond g (x ∷ filter wide xs) (filter wide xs)) ≡ latest_from may best (cond t (x ∷ filter narrow xs) (filter narrow xs))
    go true p true q ih = ih (later (may x) best x)
    go true p false q ih = ap (λ b. latest_from may (later b best x) (filter wide xs)) (skip (wide x) (narrow x) (may x) h.0.enough p q) ∙ ih best
    go false p true q ih = absurd (let r = h.0.within q in cc)
    go false p false q ih = ih best

-- tests that agree on each
pub filter_each : (f g : Object → Bool) (xs : List Object) → Each (λ x. f x ≡ g x) xs → filter f xs ≡ filter g xs
filter_each f g [] h = refl
filter_each f g (x ∷ xs) h = λ i. cond (h.0 i) (x ∷ filter_each f g xs h.1 i) (filter_each f g xs h.1 i)

-- ---- entries on other keys

module _ (test : Key → Bool) where
  abbrev pub passing : List Object → List Object
  passing xs = filter (λ (o : Object). test o.key) xs

  off : (o : Object) (xs : List Object) → test o.key ≡ false → passing (o ∷ xs) ≡ passing xs
  off o xs e = ap (λ b. cond b (o ∷ passing xs) (passing xs)) e

  passing-without : (k : Key) (xs : List Object) → test k ≡ false → passing (store.without (λ (o : Object). o.key) key_order.ghosts.cmp k xs) ≡ passing xs
  passing-without k [] e = refl
  passing-without k (x ∷ xs) e = go (is_eq (key_order.ghosts.cmp x.key k)) refl (passing-without k xs e)
    where
      go : (t : Bool) → is_eq (key_order.ghosts.cmp x.key k) ≡ t → passing (store.without (λ (o : Object). o.key) key_order.ghosts.cmp k xs) ≡ passing xs
          → passing (cond t (store.without (λ (o : Object). o.key) key_order.ghosts.cmp k xs) (x ∷ store.without (λ (o : Object). o.key) key_order.ghosts.cmp k xs)) ≡ passing (x ∷ xs)
      go true q ih = ih ∙ sym (off x xs (ap test (key_tied x.key k q) ∙ e))
      go false q ih = ap (λ ys. cond (test x.key) (x ∷ ys) ys) ih

  passing-put : (new : Object) (xs : List Object) → test new.key ≡ false → passing (store.put (λ (o : Object). o.key) key_order.ghosts.cmp new xs) ≡ passing xs
  passing-put new [] e = off new [] e
  passing-put new (x ∷ xs) e = go (key_order.ghosts.cmp new.key x.key) refl (passing-put new xs e)
    where
      go : (r : Ordering) → key_order.ghosts.cmp new.key x.key ≡ r → passing (store.put (λ (o : Object). o.key) key_order.ghosts.cmp new xs) ≡ passing xs
          → passing (store.placed r new x xs (store.put (λ (o : Object). o.key) key_order.ghosts.cmp new xs)) ≡ passing (x ∷ xs)
      go Less q ih = off new (x ∷ xs) e
      go Equal q ih = off new xs e ∙ sym (off x xs (ap test (sym (key-exact new.key x.key q)) ∙ e))
      go Greater q ih = ap (λ ys. cond (test x.key) (x ∷ ys) ys) ih

  passing-entry : (e : ObjectEntry) (st : State) → Puts (λ (o : Object). o.key) e.key e.object → test e.key ≡ false → passing (after_entry e st) ≡ passing st
  passing-entry e st p t = go e.object p
    where
      go : (o : Option Object) → Puts (λ (o : Object). o.key) e.key o → passing (store.changed (λ (o : Object). o.key) key_order.ghosts.cmp e.key o st) ≡ passing st
      go None p = passing-without e.key st t
      go (Some x) p = passing-put x st (ap test p ∙ t)

  pub passing-along : (st : State) (es : List ObjectEntry) → ArePuts es → Along (λ k old new. test k ≡ false) st es → passing (after st es) ≡ passing st
  passing-along st [] p h = refl
  passing-along st (e ∷ es) p h = passing-along (after_entry e st) es p.1 h.1 ∙ passing-entry e st p.0 h.0
