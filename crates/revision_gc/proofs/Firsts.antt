-- The first of candidates by place, and the first of the objects that they stand for.
use Rattle.std.proofs.Common.{◌≡◌, ℕ, suc, ◌+◌, Bool, true, false, cond, List, [], ◌∷◌, Option, Some, None, refl, ap, subst, arith}
use Rattle.std.specs.Prelude.{◌&&◌, map, is_some, slice_get}
use Rattle.resource_types.specs.declared.objects.Object.{Object}
use Rattle.resource_types.specs.Lookups.{given}
use Rattle.control_rules.specs.declared.collection.Candidate.{Candidate}
use Rattle.control_rules.specs.Collection.{candidate_of, comes_before, earlier, first_from, first_place, is_earlier, place_of}
use Rattle.revision_gc.specs.Sweeps.{earlier_object, first_object, is_earlier_object}

module _ (all : List Object) where
  -- the object stands at the place, and the candidate is it
  abbrev AreOne : Option (ℕ × Candidate) → Option Object → Type 0
  AreOne None None = Unit {0}
  AreOne None (Some o) = ⊥
  AreOne (Some b) None = ⊥
  AreOne (Some b) (Some o) = (slice_get all b.0 ≡ Some o) × (b.1 ≡ candidate_of o)

  either : (best : Option (ℕ × Candidate)) (so_far : Option Object) (k : ℕ) (o : Object) → slice_get all k ≡ Some o → AreOne best so_far
      → (t : Bool) → AreOne (cond t (Some (k, candidate_of o)) best) (cond t (Some o) so_far)
  either best so_far k o e h true = (e, refl)
  either best so_far k o e h false = h

  same_test : (best : Option (ℕ × Candidate)) (so_far : Option Object) (o : Object) → AreOne best so_far → is_earlier (candidate_of o) best ≡ is_earlier_object o so_far
  same_test None None o h = refl
  same_test None (Some p) o h = absurd h
  same_test (Some b) None o h = absurd h
  same_test (Some b) (Some p) o h = ap (comes_before (candidate_of o)) h.1

  step : (best : Option (ℕ × Candidate)) (so_far : Option Object) (k : ℕ) (o : Object) (t : Bool) → slice_get all k ≡ Some o → AreOne best so_far
      → AreOne (earlier t k (candidate_of o) best) (earlier_object t so_far o)
  step best so_far k o t e h =
      let P : Bool → Type 0 = λ u. AreOne (cond (t && is_earlier (candidate_of o) best) (Some (k, candidate_of o)) best) (cond (t && u) (Some o) so_far) in
      subst P (same_test best so_far o h) (either best so_far k o e h (t && is_earlier (candidate_of o) best))

  walk : (counts : Candidate → Bool) (os : List Object) (k : ℕ) → ((j m : ℕ) → m ≡ k + j → slice_get all m ≡ slice_get os j)
      → (best : Option (ℕ × Candidate)) (so_far : Option Object) → AreOne best so_far
      → AreOne (first_from counts k best (map candidate_of os)) (first_object (λ o. counts (candidate_of o)) so_far os)
  unfolding first_from
  walk counts [] k at best so_far h = h
  walk counts (o ∷ os) k at best so_far h =
      walk counts os (k + 1) (λ j m e. at (suc j) m (omega (arith, e)))
      (earlier (counts (candidate_of o)) k (candidate_of o) best) (earlier_object (counts (candidate_of o)) so_far o)
      (step best so_far k o (counts (candidate_of o)) (at 0 k (omega arith)) h)

  found : (best : Option (ℕ × Candidate)) (so_far : Option Object) → AreOne best so_far → given (place_of best) (slice_get all) ≡ so_far
  found None None h = refl
  found None (Some o) h = absurd h
  found (Some b) None h = absurd h
  found (Some b) (Some o) h = h.0

  stands : (best : Option (ℕ × Candidate)) (so_far : Option Object) → AreOne best so_far → is_some (place_of best) ≡ is_some so_far
  stands None None h = refl
  stands None (Some o) h = absurd h
  stands (Some b) None h = absurd h
  stands (Some b) (Some o) h = refl

same_places : (os : List Object) (j m : ℕ) → m ≡ 0 + j → slice_get os m ≡ slice_get os j
same_places os j m e = let same : m ≡ j = omega (arith, e) in ap (slice_get os) same

module _ (counts : Candidate → Bool) (os : List Object) where
  are_one : AreOne os (first_from counts 0 None (map candidate_of os)) (first_object (λ o. counts (candidate_of o)) None os)
  are_one = walk os counts os 0 (same_places os) None None tt

  -- what stands at the place of the first candidate is the first object
  pub first_found : given (first_place counts (map candidate_of os)) (slice_get os) ≡ first_object (λ o. counts (candidate_of o)) None os
  first_found = found os (first_from counts 0 None (map candidate_of os)) (first_object (λ o. counts (candidate_of o)) None os) are_one

  -- the one is there exactly where the other is
  pub first_stands : is_some (first_place counts (map candidate_of os)) ≡ is_some (first_object (λ o. counts (candidate_of o)) None os)
  first_stands = stands os (first_from counts 0 None (map candidate_of os)) (first_object (λ o. counts (candidate_of o)) None os) are_one
