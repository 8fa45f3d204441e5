-- What a look sees of a Route's traffic.
use Rattle.std.specs.Prelude.{◌≡◌, ℕ, List, [], ◌∷◌, map, Option, Some, None}
use Rattle.std.specs.Option.{option_or}
use Rattle.resource_types.specs.declared.names.Kind.TheVariants as kind
use Rattle.resource_types.specs.declared.names.Name.{Name}
use Rattle.resource_types.specs.declared.objects.Object.{Object}
use Rattle.resource_types.specs.Objects.{targets_of}
use Rattle.resource_types.specs.Lookups.{State}
use Rattle.control_rules.specs.declared.traffic.Found.{Found}
use Rattle.control_rules.specs.declared.traffic.Found.TheVariants as found
use Rattle.control_rules.specs.Standing.{beside, standing}
use Rattle.control_rules.specs.Resolution.{found_of, resolution, stored}
use Rattle.control_rules.specs.Differences.{ObjectPlan, first_plan}
use Rattle.control_rules.specs.NextRoute.{pin_lacking, route_status_differs, table_differs, unpinned}
use Rattle.route_rec.specs.declared.traffic.Traffic.{Traffic}

-- what a look saw is so in the state: the Route stands, its targets mean this, and they come to that
pub record IsSeen (st : State) (t : Traffic) : Type 0 where
  pub stands : standing kind.Route t.route.now st ≡ Some t.object.now
  pub meant : t.found.now ≡ map (found_of stored st t.route.now) (targets_of t.object.now.body)
  pub outcome : t.resolved.now ≡ resolution stored t.domain.now st t.route.now (targets_of t.object.now.body)

-- what is due to a Route that stands by its targets: the pins, then the Table, then the status
abbrev pub next_by_targets : List ℕ → State → Name → ℕ → Option ObjectPlan
next_by_targets domain st r now = first_plan (pin_lacking st r now) (first_plan (table_differs domain st r) (route_status_differs domain st r now))

-- the Revision that a target means, where it lacks the Route's pin
abbrev pub unpinned_by : State → Name → Found → Option Object
unpinned_by st r found.ConfigurationAbsent = None
unpinned_by st r found.ConfigurationUnready = None
unpinned_by st r found.RevisionAbsent = None
unpinned_by st r found.RevisionUnready = None
unpinned_by st r (found.Ready name uid) = unpinned r.name (standing kind.Revision (beside r name) st)

-- the first Revision that one of these is and that lacks the Route's pin
unfoldable pub unpinned_among : State → Name → List Found → Option Object
unpinned_among st r [] = None
unpinned_among st r (f ∷ fs) = option_or (unpinned_by st r f) (unpinned_among st r fs)
