-- The resolution of what was found for each target.
use Rattle.std.proofs.Common.{◌≡◌, ℕ, ◌<◌, ◌^◌, List, length, sym, ap, subst, ◌∙◌}
use Rattle.std.specs.Prelude.{map, sum_by}
use Rattle.std.specs.List.{zip}
use Rattle.std.proofs.lemmas.List.{length-map}
use Rattle.resource_types.specs.declared.names.Name.{Name}
use Rattle.resource_types.specs.declared.specification.Target.{Target}
use Rattle.resource_types.specs.Lookups.{State}
use Rattle.control_rules.specs.declared.traffic.Found.{Found}
use Rattle.control_rules.specs.Fits.{AreWhole}
use Rattle.control_rules.specs.Resolution.{stored, resolved, resolution}
use Rattle.traffic_resolver.specs.declared.resolution.RouteView.{RouteView}
use Rattle.traffic_resolver.specs.Pairs.{pair_percent, found_in}
use Rattle.traffic_resolver.specs.Views.{IsResolvable}
use Rattle.traffic_resolver.proofs.FoundInSpace.{pairs_found}
use Rattle.traffic_resolver.proofs.Whole.{room_of}

module _ (st : State) (r : Name) where
  pub found_long : (targets : List Target) (found : List Found) → found ≡ map (found_in st r.space) targets → length found ≡ length targets
  found_long targets found e = ap (λ (fs : List Found). length fs) e ∙ length-map targets (found_in st r.space)

  pub found_room : (targets : List Target) (found : List Found) → found ≡ map (found_in st r.space) targets → AreWhole targets → sum_by pair_percent (zip targets found) < 2 ^ 64
  found_room targets found e h = room_of targets found (found_long targets found e) h

  pub resolution_as : (domain : List ℕ) (targets : List Target) (found : List Found) → found ≡ map (found_in st r.space) targets → resolved r domain (zip targets found) ≡ resolution stored domain st r targets
  unfolding resolution
  resolution_as domain targets found e = ap (λ (fs : List Found). resolved r domain (zip targets fs)) e ∙ ap (resolved r domain) (pairs_found st r targets)

-- ---- the same of a view, of whose lists slices are taken

module _ (v : RouteView) (targets : List Target) (found : List Found) (at_targets : targets ≡ v.targets) (at_found : found ≡ v.found) (h : IsResolvable v) where
  pub view_long : length found ≡ length targets
  view_long = ap (λ (fs : List Found). length fs) at_found ∙ h.long ∙ ap (λ (ts : List Target). length ts) (sym at_targets)

  pub view_room : sum_by pair_percent (zip targets found) < 2 ^ 64
  view_room = room_of targets found view_long (subst AreWhole (sym at_targets) h.whole)
