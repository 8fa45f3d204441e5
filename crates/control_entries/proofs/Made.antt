-- The entry that a write makes changes what stood under its key.
use Rattle.std.proofs.Common.{◌≡◌, ℕ, Bool, true, false, cond, Option, Some, None, refl, sym, ap, ◌∙◌, subst}
use Rattle.std.specs.Prelude.{◌==◌}
use Rattle.version_store.specs.declared.write.Change.{Change}
use Rattle.version_store.specs.declared.write.Change.TheVariants.{Put, Remove}
use Rattle.version_store.specs.declared.write.Applied.{Applied}
use Rattle.version_store.specs.declared.write.Applied.TheVariants as applied
use Rattle.version_store.specs.declared.write.Expect.{Expect}
use Rattle.version_store.specs.declared.write.Expect.TheVariants as expect
use Rattle.version_store.specs.Apply.{IsNoRemovalOfNothing, object_after, unexpected, unchanged, guarded_stale, first_case}
use Rattle.resource_types.specs.declared.objects.Object.{Object}
use Rattle.resource_types.specs.contracts.item.ObjectItem.TheImpl as object_item
use Rattle.resource_types.specs.Spec.{same_but_stamp}
use Rattle.control_rules.specs.Steps.{expect_of}
use Rattle.control_rules.specs.Lawful.{IsChange}

-- ---- what was expected

-- what is removed stands
pub removed_stands : (e : Expect) (o : Option Object) (last : ℕ) → IsNoRemovalOfNothing {O = Object} e Remove → unexpected e o last ≡ None
    → (x : Object) × (o ≡ Some x)
removed_stands expect.Absent o last h u = absurd h
removed_stands (expect.At v) None last h u = absurd cc
removed_stands (expect.At v) (Some x) last h u = (x, refl)

-- the same where the plan expects what stands
expected_stands : (e : Expect) (o : Option Object) → e ≡ expect_of o → IsNoRemovalOfNothing {O = Object} e Remove → (x : Object) × (o ≡ Some x)
expected_stands e None h r = absurd (subst (λ z. IsNoRemovalOfNothing {O = Object} z Remove) h r)
expected_stands e (Some x) h r = (x, refl)

-- an answer of Done found what was expected
pub done_expected : (e : Expect) (o : Option Object) (last version : ℕ) (b c : Option Applied) (d : Applied)
    → first_case (unexpected e o last) b c d ≡ applied.Done version → unexpected e o last ≡ None
done_expected expect.Absent None last version b c d h = refl
done_expected expect.Absent (Some x) last version b c d h = absurd cc
done_expected (expect.At v) None last version b c d h = absurd cc
done_expected (expect.At v) (Some x) last version b c d h = go (v == last) h
  where
    go : (t : Bool) → first_case (cond t None (Some (applied.Stale last))) b c d ≡ applied.Done version
        → cond t None (Some (applied.Stale last)) ≡ None
    go true f = refl
    go false f = absurd cc

-- ---- what is changed

-- a change to another object, or a removal of one that stands
makes_change : (o : Option Object) (version : ℕ) (c : Change Object) (moment : ℕ)
    → ((x y : Object) → c ≡ Put x → o ≡ Some y → same_but_stamp x y ≡ false) → (c ≡ Remove → (y : Object) × (o ≡ Some y))
    → IsChange o (object_after object_item.ghosts o version c moment)
makes_change None version (Put x) moment puts removes = tt
makes_change (Some y) version (Put x) moment puts removes = puts x y refl refl
makes_change None version Remove moment puts removes = absurd (none (removes refl))
  where
    none : (y : Object) × (None ≡ Some y) → ⊥
    none h = let e = h.1 in cc
makes_change (Some y) version Remove moment puts removes = tt

-- what a plan makes that expects what stands, and puts another object
pub due_changes : (o : Option Object) (version : ℕ) (e : Expect) (c : Change Object) (moment : ℕ) → e ≡ expect_of o → IsNoRemovalOfNothing e c
    → ((x y : Object) → c ≡ Put x → o ≡ Some y → same_but_stamp x y ≡ false) → IsChange o (object_after object_item.ghosts o version c moment)
due_changes o version e c moment expects removal puts =
    makes_change o version c moment puts (λ is. expected_stands e o expects (subst (IsNoRemovalOfNothing e) is removal))

-- an object that is the same is not answered to be done
done_other : (x y : Object) (last version : ℕ) (a b : Option Applied) (d : Applied)
    → first_case a b (unchanged same_but_stamp (Put x) (Some y) last) d ≡ applied.Done version → a ≡ None → b ≡ None → same_but_stamp x y ≡ false
done_other x y last version a b d h e f = go (same_but_stamp x y) refl
    (ap (λ t. first_case None t (unchanged same_but_stamp (Put x) (Some y) last) d) (sym f)
    ∙ ap (λ t. first_case t b (unchanged same_but_stamp (Put x) (Some y) last) d) (sym e) ∙ h)
  where
    go : (t : Bool) → same_but_stamp x y ≡ t → first_case None None (cond t (Some (applied.Same last)) None) d ≡ applied.Done version → t ≡ false
    go true g u = absurd cc
    go false g u = refl

-- an answer of Done was of no guarded plan that is stale
done_fresh : (a : Option Applied) (guarded : Bool) (seen newest version : ℕ) (c : Option Applied) (d : Applied)
    → first_case a (guarded_stale guarded seen newest) c d ≡ applied.Done version → a ≡ None → guarded_stale guarded seen newest ≡ None
done_fresh a guarded seen newest version c d h e = go _ (ap (λ t. first_case t (guarded_stale guarded seen newest) c d) (sym e) ∙ h)
  where
    go : (t : Bool) → first_case None (cond t (Some (applied.Stale newest)) None) c d ≡ applied.Done version
        → cond t (Some (applied.Stale newest)) None ≡ None
    go true f = absurd cc
    go false f = refl

-- what a write makes that is answered to be done
pub done_changes : (o : Option Object) (version last newest seen given : ℕ) (guarded : Bool) (e : Expect) (c : Change Object) (moment : ℕ) (d : Applied)
    → IsNoRemovalOfNothing e c
    → first_case (unexpected e o last) (guarded_stale guarded seen newest) (unchanged same_but_stamp c o last) d ≡ applied.Done given
    → IsChange o (object_after object_item.ghosts o version c moment)
done_changes o version last newest seen given guarded e c moment d removal done = makes_change o version c moment
    (λ x y put stands. done_other x y last given _ _ d
    (subst (λ z. first_case (unexpected e o last) (guarded_stale guarded seen newest) (unchanged same_but_stamp z (Some y) last) d ≡ applied.Done given) put
    (subst (λ z. first_case (unexpected e o last) (guarded_stale guarded seen newest) (unchanged same_but_stamp c z last) d ≡ applied.Done given) stands done))
    expected fresh)
    (λ is. removed_stands e o last (subst (IsNoRemovalOfNothing e) is removal) expected)
  where
    expected : unexpected e o last ≡ None
    expected = done_expected e o last given _ _ d done

    fresh : guarded_stale guarded seen newest ≡ None
    fresh = done_fresh _ guarded seen newest given _ d done expected
