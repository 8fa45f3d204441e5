-- The first Revision that lacks a pin, place by place.
use Rattle.std.proofs.Common.{◌≡◌, ℕ, ◌+◌, ◌<◌, ◌≤◌, List, ◌∷◌, length, drop, get_or, Some, None, refl, sym, ap, ◌∙◌}
use Rattle.std.proofs.lemmas.List.{drop_more, drop_all}
use Rattle.resource_types.specs.declared.names.Name.{Name}
use Rattle.resource_types.specs.declared.objects.Object.{Object}
use Rattle.resource_types.specs.Lookups.{State}
use Rattle.control_rules.specs.declared.traffic.Found.{Found}
use Rattle.std.specs.Option.{option_or}
use Rattle.route_rec.specs.Traffic.{unpinned_by, unpinned_among}

module _ (st : State) (r : Name) (found : List Found) (k : ℕ) (so_far : unpinned_among st r found ≡ unpinned_among st r (drop k found)) where
  at_place : (f : Found) → k < length found → f ≡ get_or found k f → unpinned_among st r found ≡ option_or (unpinned_by st r f) (unpinned_among st r (drop (k + 1) found))
  unfolding unpinned_among
  at_place f lt e = so_far ∙ ap (unpinned_among st r) (drop_more found k f lt) ∙ ap (λ g. unpinned_among st r (g ∷ drop (k + 1) found)) (sym e)

  pub stops : (f : Found) → k < length found → f ≡ get_or found k f → (v : Object) → unpinned_by st r f ≡ Some v → Some v ≡ unpinned_among st r found
  stops f lt e v i = sym (at_place f lt e ∙ rw i refl)

  pub goes_on : (f : Found) → k < length found → f ≡ get_or found k f → unpinned_by st r f ≡ None → unpinned_among st r found ≡ unpinned_among st r (drop (k + 1) found)
  goes_on f lt e i = at_place f lt e ∙ rw i refl

  pub ends : length found ≤ k → None ≡ unpinned_among st r found
  unfolding unpinned_among
  ends le = sym (so_far ∙ ap (unpinned_among st r) (drop_all k found le))
