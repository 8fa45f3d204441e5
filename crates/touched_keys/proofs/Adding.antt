-- Marks that are added.
use Rattle.std.proofs.Common.{◌≡◌, ◌⊎◌, inl, inr, Bool, true, false, cond, List, Option, Some, None, Ordering, refl, sym, ap, ◌∙◌, subst}
use Rattle.std.specs.Option.{is_some}
use Rattle.std.specs.Ordering.{is_eq, ordering_reverse}
use Rattle.std.specs.declared.cmp.Ordering.TheVariants.{Less, Equal, Greater}
use Rattle.version_store.proofs.Keyed.{is_eq-true, find-put}
use Rattle.resource_types.specs.declared.names.SlotKey.{SlotKey}
use Rattle.resource_types.specs.contracts.names.SlotKeyOrd.TheImpl as slot_order
use Rattle.resource_types.specs.contracts.names.SlotKeyOrd.TheImpl.Laws as slot_laws
use Rattle.resource_types.proofs.Exact.{slot-exact}
use Rattle.touched_keys.specs.declared.marks.Mark.{Mark}
use Rattle.touched_keys.specs.Marks.{is_marked, marked, Adds}

-- ---- a mark

is_some_cond : (t : Bool) (m : Mark) (o : Option Mark) → is_some (cond t (Some m) o) ≡ cond t true (is_some o)
is_some_cond true m o = refl
is_some_cond false m o = refl

pub marked_is : (pick q : SlotKey) (marks : List Mark) → is_marked q (marked pick marks) ≡ cond (is_eq (slot_order.ghosts.cmp pick q)) true (is_marked q marks)
marked_is pick q marks =
    ap is_some (find-put (λ (m : Mark). m.key) slot_order.ghosts.cmp slot_laws.total-law q (record { key = pick }) marks)
    ∙ is_some_cond (is_eq (slot_order.ghosts.cmp pick q)) _ _

own_reverse : (r : Ordering) → r ≡ ordering_reverse r → is_eq r ≡ true
own_reverse Less e = absurd cc
own_reverse Equal e = refl
own_reverse Greater e = absurd cc

pub slot_self : (k : SlotKey) → is_eq (slot_order.ghosts.cmp k k) ≡ true
slot_self k = own_reverse (slot_order.ghosts.cmp k k) (slot_laws.total-law.antisymm k k)

pub mark_here : (pick : SlotKey) (marks : List Mark) → is_marked pick (marked pick marks) ≡ true
mark_here pick marks = marked_is pick pick marks ∙ ap (λ t. cond t true (is_marked pick marks)) (slot_self pick)

-- ---- marks that are added

module _ (P : SlotKey → Type 0) where
  pub adds_same : (a : List Mark) → Adds P a a
  adds_same a = record { kept = λ q t. t; only = λ q t. inl t }

  pub adds_as : (a b : List Mark) → b ≡ a → Adds P a b
  adds_as a b e = subst (Adds P a) (sym e) (adds_same a)

  pub adds_then : (a b c : List Mark) → Adds P a b → Adds P b c → Adds P a c
  adds_then a b c p q = record { kept = λ k t. q.kept k (p.kept k t); only = λ k t. go k (q.only k t) }
    where
      go : (k : SlotKey) → (is_marked k b ≡ true) ⊎ P k → (is_marked k a ≡ true) ⊎ P k
      go k (inl t) = p.only k t
      go k (inr h) = inr h

  pub adds_mark : (pick : SlotKey) (a b : List Mark) → b ≡ marked pick a → P pick → Adds P a b
  adds_mark pick a b e h = subst (Adds P a) (sym e) (record {
    kept = λ q t. marked_is pick q a ∙ stays (is_eq (slot_order.ghosts.cmp pick q)) (is_marked q a) t;
    only = λ q t. go q (is_eq (slot_order.ghosts.cmp pick q)) refl (sym (marked_is pick q a) ∙ t);
  })
    where
      stays : (t b : Bool) → b ≡ true → cond t true b ≡ true
      stays true b h = refl
      stays false b h = h

      go : (q : SlotKey) (t : Bool) → is_eq (slot_order.ghosts.cmp pick q) ≡ t → cond t true (is_marked q a) ≡ true → (is_marked q a ≡ true) ⊎ P q
      go q true e m = inr (subst P (slot-exact pick q (is_eq-true _ e)) h)
      go q false e m = inl m

pub adds_by : (P Q : SlotKey → Type 0) (a b : List Mark) → ((k : SlotKey) → P k → Q k) → Adds P a b → Adds Q a b
adds_by P Q a b f h = record { kept = h.kept; only = λ k t. go k (h.only k t) }
  where
    go : (k : SlotKey) → (is_marked k a ≡ true) ⊎ P k → (is_marked k a ≡ true) ⊎ Q k
    go k (inl t) = inl t
    go k (inr p) = inr (f k p)
