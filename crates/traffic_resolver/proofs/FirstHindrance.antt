-- The first hindrance, place by place.
use Rattle.std.proofs.Common.{◌≡◌, ℕ, ◌+◌, ◌<◌, ◌≤◌, List, ◌∷◌, length, drop, get_or, Some, None, arith, refl, sym, ap, ◌∙◌}
use Rattle.std.specs.Option.{option_or}
use Rattle.std.specs.List.{zip}
use Rattle.std.proofs.lemmas.List.{drop_more, drop_all}
use Rattle.resource_types.specs.declared.specification.Target.{Target}
use Rattle.control_rules.specs.declared.traffic.Found.{Found}
use Rattle.control_rules.specs.declared.traffic.Resolved.{Resolved}
use Rattle.control_rules.specs.Resolution.{hindrance, first_hindrance}
use Rattle.traffic_resolver.proofs.Zips.{zip_long, pair_within, pair_at}

module _ (ts : List Target) (fs : List Found) (long : length fs ≡ length ts) (k : ℕ) (so_far : first_hindrance 0 (zip ts fs) ≡ first_hindrance k (drop k (zip ts fs))) where
  at_pair : (t : Target) (f : Found) → k < length ts → t ≡ get_or ts k t → f ≡ get_or fs k f → first_hindrance 0 (zip ts fs) ≡ option_or (hindrance k t f) (first_hindrance (k + 1) (drop (k + 1) (zip ts fs)))
  unfolding first_hindrance
  at_pair t f lt e g =
      let pairs = zip ts fs in
      let here : (t, f) ≡ get_or pairs k (t, f) = pair_at ts fs long k t f lt e g in
      so_far ∙ ap (first_hindrance k) (drop_more pairs k (t, f) (pair_within ts fs long k t f lt)) ∙ ap (λ (q : Target × Found). first_hindrance k (q ∷ drop (k + 1) pairs)) (sym here)

  pub stops : (t : Target) (f : Found) → k < length ts → t ≡ get_or ts k t → f ≡ get_or fs k f → (h : Resolved) → hindrance k t f ≡ Some h → Some h ≡ first_hindrance 0 (zip ts fs)
  stops t f lt e g h i = sym (at_pair t f lt e g ∙ rw i refl)

  pub goes_on : (t : Target) (f : Found) → k < length ts → t ≡ get_or ts k t → f ≡ get_or fs k f → hindrance k t f ≡ None → first_hindrance 0 (zip ts fs) ≡ first_hindrance (k + 1) (drop (k + 1) (zip ts fs))
  goes_on t f lt e g i = at_pair t f lt e g ∙ rw i refl

  pub ends : length ts ≤ k → None ≡ first_hindrance 0 (zip ts fs)
  unfolding first_hindrance
  ends le = let same = zip_long ts fs long in sym (so_far ∙ ap (first_hindrance k) (drop_all k (zip ts fs) (omega arith)))
