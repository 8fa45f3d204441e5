-- What it takes that a planned write is done, and that it is never answered that the object is the same.
use Rattle.std.proofs.Common.{◌≡◌, ℕ, ◌+◌, ◌≤◌, Bool, true, false, ◌&&◌, length, take, cond, Option, Some, None, nat_lt, refl, sym, ap, ◌∙◌, subst, arith}
use Rattle.std.specs.Prelude.{◌==◌}
use Rattle.std.proofs.Math.Seq.{take-length}
use Rattle.std.proofs.lemmas.Bool.Decides.{nat_tests}
use borrow.Author.Tests.{eqb-true}
use Rattle.version_store.specs.declared.write.Change.{Change}
use Rattle.version_store.specs.declared.write.Change.TheVariants.{Put, Remove}
use Rattle.version_store.specs.declared.write.Applied.{Applied}
use Rattle.version_store.specs.declared.write.Applied.TheVariants as applied
use Rattle.version_store.specs.declared.write.Expect.{Expect}
use Rattle.version_store.specs.declared.write.Expect.TheVariants as expect
use Rattle.version_store.specs.Journal.{entry_at_version, object_in}
use Rattle.version_store.specs.Apply.{unexpected, guarded_stale, unchanged, first_case}
use Rattle.version_store.proofs.Standing.{version_is_last, last_decides}
use Rattle.resource_types.specs.declared.names.Name.{Name}
use Rattle.resource_types.specs.declared.objects.Object.{Object}
use Rattle.resource_types.specs.contracts.names.KeyOrd.TheImpl as key_order
use Rattle.resource_types.specs.contracts.names.KeyOrd.TheImpl.Laws as key_laws
use Rattle.resource_types.specs.contracts.item.ObjectItem.TheImpl as object_item
use Rattle.resource_types.specs.Spec.{same_but_stamp}
use Rattle.resource_types.specs.Lookups.{Journal, find, state, version_of}
use Rattle.control_rules.specs.Differences.{ObjectPlan}
use Rattle.control_rules.specs.Slots.{ObjectWrite, AreStamped, state_at, answer_in, last_in, newest_in}
use Rattle.control_rules.specs.Steps.{expect_of}
use Rattle.control_entries.specs.Due.{IsDue}

-- ---- the answers of the single tests

-- an answer that refuses: it is neither that the write was done nor that the object is the same
abbrev pub IsRefusal : Applied → Type 0
IsRefusal (applied.Done version) = ⊥
IsRefusal (applied.Same version) = ⊥
IsRefusal (applied.Stale newer) = Unit {0}
IsRefusal (applied.Exists version) = Unit {0}
IsRefusal (applied.Absent last) = Unit {0}

some_answer : (a b : Applied) → Some a ≡ Some b → a ≡ b
some_answer a b e = cc

unexpected-refuses : (e : Expect) (o : Option Object) (last : ℕ) (a : Applied) → unexpected e o last ≡ Some a → IsRefusal a
unexpected-refuses expect.Absent None last a h = absurd cc
unexpected-refuses expect.Absent (Some x) last a h = subst IsRefusal (some_answer (applied.Exists last) a h) tt
unexpected-refuses (expect.At v) None last a h = subst IsRefusal (some_answer (applied.Absent last) a h) tt
unexpected-refuses (expect.At v) (Some x) last a h = go (v == last) h
  where
    go : (b : Bool) → cond b None (Some (applied.Stale last)) ≡ Some a → IsRefusal a
    go true e = absurd cc
    go false e = subst IsRefusal (some_answer (applied.Stale last) a e) tt

stale-refuses : (guarded : Bool) (seen newest : ℕ) (a : Applied) → guarded_stale guarded seen newest ≡ Some a → IsRefusal a
stale-refuses guarded seen newest a h = go (guarded && nat_lt seen newest) h
  where
    go : (b : Bool) → cond b (Some (applied.Stale newest)) None ≡ Some a → IsRefusal a
    go true e = subst IsRefusal (some_answer (applied.Stale newest) a e) tt
    go false e = absurd cc

-- a guarded plan that isn't stale saw the newest change of a guard
pub seen_newest : (seen newest : ℕ) → guarded_stale true seen newest ≡ None → newest ≤ seen
seen_newest seen newest h = go (nat_lt seen newest) refl h
  where
    go : (b : Bool) → nat_lt seen newest ≡ b → cond b (Some (applied.Stale newest)) None ≡ None → newest ≤ seen
    go true e u = absurd cc
    go false e u = grind (arith, nat_tests)

-- what is put is another object than the one that stands
pub unchanged-other : (c : Change Object) (o : Option Object) (last : ℕ) → ((x y : Object) → c ≡ Put x → o ≡ Some y → same_but_stamp x y ≡ false)
    → unchanged same_but_stamp c o last ≡ None
unchanged-other (Put x) None last h = refl
unchanged-other (Put x) (Some y) last h = ap (λ b. cond b (Some (applied.Same last)) None) (h x y refl refl)
unchanged-other Remove o last h = refl

-- ---- what was looked at

module _ (j : Journal) (stamped : AreStamped j) (seen : ℕ) (within : seen ≤ length j) where
  last_of : ObjectPlan → ℕ
  last_of plan = last_in j plan.key

  decided : (n : ℕ) → n ≤ length j → (plan : ObjectPlan) → find plan.key (state_at j n) ≡ object_in (entry_at_version j (last_in (take n j) plan.key))
  decided n le plan = last_decides object_item.ghosts key_order.ghosts.cmp key_laws.total-law j stamped n le plan.key

  present : (plan : ObjectPlan) → find plan.key (state j) ≡ object_in (entry_at_version j (last_in j plan.key))
  present plan = subst (λ es. find plan.key (state es) ≡ object_in (entry_at_version j (last_in es plan.key))) (take-length j)
      (decided (length j) (let le : length j ≤ length j = omega arith in le) plan)

  -- what was expected, and is there, is what was looked at
  pub as_looked : (plan : ObjectPlan) → plan.expect ≡ expect_of (find plan.key (state_at j seen))
      → unexpected plan.expect (find plan.key (state j)) (last_in j plan.key) ≡ None
      → find plan.key (state j) ≡ find plan.key (state_at j seen)
  as_looked plan e h = go (find plan.key (state_at j seen)) (find plan.key (state j)) refl refl
      (subst (λ x. unexpected x (find plan.key (state j)) (last_in j plan.key) ≡ None) e h)
    where
      go : (p o : Option Object) → find plan.key (state_at j seen) ≡ p → find plan.key (state j) ≡ o
          → unexpected (expect_of p) o (last_in j plan.key) ≡ None → find plan.key (state j) ≡ find plan.key (state_at j seen)
      go None None f g u = g ∙ sym f
      go None (Some y) f g u = absurd cc
      go (Some x) None f g u = absurd cc
      go (Some x) (Some y) f g u = by (version_of x == last_in j plan.key) refl u
        where
          by : (b : Bool) → (version_of x == last_in j plan.key) ≡ b → cond b None (Some (applied.Stale (last_in j plan.key))) ≡ None
              → find plan.key (state j) ≡ find plan.key (state_at j seen)
          by false t v = absurd cc
          by true t v = present plan
              ∙ ap (λ n. object_in (entry_at_version j n))
              (sym (eqb-true _ _ t) ∙ sym (version_is_last object_item.ghosts key_order.ghosts.cmp key_laws.total-law j stamped seen within plan.key x f))
              ∙ sym (decided seen within plan)

  -- ---- the answer to a write from that look

  -- the write was refused, or done: then what was looked at stands, and the newest change of a guard was seen where that counts
  pub data IsAnswered (n : Name) (write : ObjectWrite) (answer : Applied) : Type 0 where
    Refused : IsRefusal answer → IsAnswered n write answer
    DoneAt : answer ≡ applied.Done (length j + 1) → find write.plan.key (state j) ≡ find write.plan.key (state_at j seen)
        → (write.plan.guarded ≡ true → newest_in j ≤ seen) → IsAnswered n write answer

  pub answered : (n : Name) (write : ObjectWrite) → write.seen ≡ seen → IsDue (state_at j seen) n write.plan → IsAnswered n write (answer_in j write)
  answered n write at due = go (unexpected write.plan.expect here last) (guarded_stale write.plan.guarded write.seen newest) refl refl
    where
      here : Option Object
      here = find write.plan.key (state j)

      last : ℕ
      last = last_in j write.plan.key

      newest : ℕ
      newest = newest_in j

      go : (a b : Option Applied) → unexpected write.plan.expect here last ≡ a → guarded_stale write.plan.guarded write.seen newest ≡ b
          → IsAnswered n write (first_case a b (unchanged same_but_stamp write.plan.change here last) (applied.Done (length j + 1)))
      go (Some a) b f g = Refused (unexpected-refuses write.plan.expect here last a f)
      go None (Some b) f g = Refused (stale-refuses write.plan.guarded write.seen newest b g)
      go None None f g = DoneAt
          (ap (λ u. first_case None None u (applied.Done (length j + 1))) (unchanged-other write.plan.change here last (λ x y p q. due.changes x y p (sym looked ∙ q))))
          looked
          (λ is. subst (λ m. newest ≤ m) at (seen_newest write.seen newest (sym (ap (λ b. guarded_stale b write.seen newest) is) ∙ g)))
        where
          looked : find write.plan.key (state j) ≡ find write.plan.key (state_at j seen)
          looked = as_looked write.plan due.expects f

  -- what was planned is never answered that it is the same
  pub never_same : (n : Name) (write : ObjectWrite) (version : ℕ) → write.seen ≡ seen → IsDue (state_at j seen) n write.plan
      → answer_in j write ≡ applied.Same version → ⊥
  never_same n write version at due e = go (subst (IsAnswered n write) e (answered n write at due))
    where
      go : IsAnswered n write (applied.Same version) → ⊥
      go (Refused r) = r
      go (DoneAt f l g) = cc
