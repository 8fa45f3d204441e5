-- A Route, and what its targets were found to mean.
use Rattle.std.specs.Prelude.{◌≡◌, List, length}
use Rattle.std.specs.List.{zip}
use Rattle.resource_types.specs.declared.specification.Target.{Target}
use Rattle.control_rules.specs.declared.traffic.Found.{Found}
use Rattle.control_rules.specs.Fits.{AreWhole}
use Rattle.traffic_resolver.specs.declared.resolution.RouteView.{RouteView}

-- its targets, each with what it means
abbrev pub view_pairs : RouteView → List (Target × Found)
view_pairs v = zip v.targets v.found

-- what is asked of a view: something was found for each target, and the targets are whole
pub record IsResolvable (v : RouteView) : Type 0 where
  pub long : length v.found ≡ length v.targets
  pub whole : AreWhole v.targets
