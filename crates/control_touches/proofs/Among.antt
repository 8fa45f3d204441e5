-- What is asked of all objects of a kind, by what is found under each key.
use Rattle.std.proofs.Common.{◌≡◌, ℕ, zero, suc, Bool, true, false, ◌||◌, List, [], ◌∷◌, Option, Some, None, refl, sym, ap, ◌∙◌, subst}
use Rattle.std.specs.Prelude.{slice_get}
use Rattle.std.specs.List.{list_any}
use Rattle.resource_types.specs.declared.names.Kind.{Kind}
use Rattle.resource_types.specs.declared.names.Key.{Key}
use Rattle.resource_types.specs.declared.objects.Object.{Object}
use Rattle.resource_types.specs.Objects.{same_kind}
use Rattle.resource_types.specs.Lookups.{State, find, of_kind, is_given}
use Rattle.resource_types.proofs.Exact.{kind-exact, kind-own}
use Rattle.control_entries.specs.Ground.{IsOrdered}
use Rattle.control_entries.proofs.Tests.{some_same}
use Rattle.control_entries.proofs.Lists.{at_filter}
use Rattle.control_entries.proofs.Each.{Passing, any_each, each_passing}
use Rattle.control_entries.proofs.Standing.{IsFound, found_key, found_at, all_found}

-- two tests that imply each other
pub same_tests : (a b : Bool) → (a ≡ true → b ≡ true) → (b ≡ true → a ≡ true) → a ≡ b
same_tests true true f g = refl
same_tests true false f g = absurd (let t = f refl in cc)
same_tests false true f g = absurd (let t = g refl in cc)
same_tests false false f g = refl

-- one that stands and passes
pub any_at : {X : Type 0} (f : X → Bool) (xs : List X) (i : ℕ) (x : X) → slice_get xs i ≡ Some x → f x ≡ true → list_any f xs ≡ true
any_at f [] i x e t = absurd cc
any_at f (y ∷ ys) zero x e t = ap (λ b. b || list_any f ys) (subst (λ z. f z ≡ true) (sym (some_same e)) t)
any_at f (y ∷ ys) (suc i) x e t = go (f y) (any_at f ys i x e t)
  where
    go : (b : Bool) → list_any f ys ≡ true → (b || list_any f ys) ≡ true
    go true ih = refl
    go false ih = ih

-- one of the kind that is found and passes
pub any_found : (f : Object → Bool) (k : Kind) (st : State) (q : Key) (o : Object) → q.kind ≡ k → find q st ≡ Some o → f o ≡ true → list_any f (of_kind k st) ≡ true
any_found f k st q o kind e t = go (found_at q st o e)
  where
    of : same_kind o.key.kind k ≡ true
    of = subst (λ z. same_kind z k ≡ true) (sym (ap (λ (x : Key). x.kind) (found_key q st o e) ∙ kind)) (kind-own k)

    go : ((i : ℕ) × (slice_get st i ≡ Some o)) → list_any f (of_kind k st) ≡ true
    go (i, g) = at (at_filter (λ (x : Object). same_kind x.key.kind k) st i o g of)
      where
        at : ((i : ℕ) × (slice_get (of_kind k st) i ≡ Some o)) → list_any f (of_kind k st) ≡ true
        at (i, g) = any_at f (of_kind k st) i o g t

-- the same test of all of a kind in two states
any_more : (f : Object → Bool) (k : Kind) (a b : State) → IsOrdered a
    → ((q : Key) → q.kind ≡ k → is_given f (find q a) ≡ is_given f (find q b)) → list_any f (of_kind k a) ≡ true → list_any f (of_kind k b) ≡ true
any_more f k a b ordered same h = go (any_each _ f (of_kind k a) h (each_passing (IsFound a) (λ (x : Object). same_kind x.key.kind k) a (all_found a ordered)))
  where
    by : (q : Key) (o : Option Object) → find q b ≡ o → q.kind ≡ k → is_given f o ≡ true → list_any f (of_kind k b) ≡ true
    by q None e kind t = absurd cc
    by q (Some o) e kind t = any_found f k b q o kind e t

    go : Passing (λ x. (same_kind x.key.kind k ≡ true) × IsFound a x) f → list_any f (of_kind k b) ≡ true
    go p =
        let kind = kind-exact p.one.key.kind k p.holds.0 in
        by p.one.key (find p.one.key b) refl kind (sym (same p.one.key kind) ∙ ap (is_given f) p.holds.1 ∙ p.passes)

pub any_same : (f : Object → Bool) (k : Kind) (a b : State) → IsOrdered a → IsOrdered b
    → ((q : Key) → q.kind ≡ k → is_given f (find q a) ≡ is_given f (find q b)) → list_any f (of_kind k a) ≡ list_any f (of_kind k b)
any_same f k a b p q same = same_tests _ _ (any_more f k a b p same) (any_more f k b a q (λ k e. sym (same k e)))
