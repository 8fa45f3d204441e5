-- What a target means depends on the Route's namespace alone.
use Rattle.std.proofs.Common.{◌≡◌, List, [], ◌∷◌, refl, ap, ◌∙◌}
use Rattle.std.specs.Prelude.{map}
use Rattle.std.specs.List.{zip}
use Rattle.resource_types.specs.declared.names.Name.{Name}
use Rattle.resource_types.specs.declared.specification.Target.{Target}
use Rattle.resource_types.specs.Lookups.{State}
use Rattle.control_rules.specs.declared.traffic.Found.{Found}
use Rattle.control_rules.specs.Resolution.{stored, found_of, pairs_of}
use Rattle.traffic_resolver.specs.Pairs.{found_in}

module _ (st : State) (r : Name) where
  pub found_beside : (t : Target) → found_in st r.space t ≡ found_of stored st r t
  unfolding found_of
  found_beside t = refl

  -- the targets beside what was found are those with what they mean
  pub pairs_found : (targets : List Target) → zip targets (map (found_in st r.space) targets) ≡ pairs_of stored st r targets
  pairs_found [] = refl
  pairs_found (t ∷ ts) = ap (λ (f : Found). (t, f) ∷ zip ts (map (found_in st r.space) ts)) (found_beside t) ∙ ap (λ (ps : List (Target × Found)). (t, found_of stored st r t) ∷ ps) (pairs_found ts)
