-- Statuses of Routes and Services, each of exactly what it reads. Their times are 0 until they are written.
use Rattle.std.specs.Prelude.{ℕ, ◌==◌, ◌++◌, Bool, List, [], ◌∷◌, codes, Option, Some, None, cond}
use Rattle.resource_types.specs.declared.conditions.CondName.{CondName}
use Rattle.resource_types.specs.declared.conditions.CondName.TheVariants as condition
use Rattle.resource_types.specs.declared.conditions.Truth.TheVariants as truth
use Rattle.resource_types.specs.declared.conditions.Condition.{Condition}
use Rattle.resource_types.specs.declared.specification.Target.{Target}
use Rattle.resource_types.specs.declared.status.ObjectStatus.{ObjectStatus}
use Rattle.resource_types.specs.Objects.{no_status}
use Rattle.conditions.specs.Fold.{fold_of}
use Rattle.control_rules.specs.declared.traffic.Named.TheVariants as named
use Rattle.control_rules.specs.declared.traffic.Resolved.{Resolved}
use Rattle.control_rules.specs.declared.traffic.Resolved.TheVariants.{Assigned, Missing, Unready}
use Rattle.control_rules.specs.Resolution.{address_of}
use Rattle.control_rules.specs.Statuses.{stated, holding, about, condition_in, told_or}

-- ---- Routes

-- whether all traffic of a Route is assigned
abbrev pub traffic_condition : Resolved → Condition
traffic_condition (Assigned rows targets) = holding condition.AllTrafficAssigned
traffic_condition (Missing place named.Configuration name) = stated condition.AllTrafficAssigned truth.False (codes "ConfigurationMissing") (about (codes "configuration ") name (codes " does not exist"))
traffic_condition (Missing place named.Revision name) = stated condition.AllTrafficAssigned truth.False (codes "RevisionMissing") (about (codes "the revision of ") name (codes " does not exist"))
traffic_condition (Unready place named.Configuration name) = stated condition.AllTrafficAssigned truth.Unknown (codes "ConfigurationUnready") (about (codes "configuration ") name (codes " has no ready revision"))
traffic_condition (Unready place named.Revision name) = stated condition.AllTrafficAssigned truth.Unknown (codes "RevisionUnready") (about (codes "the revision of ") name (codes " is not ready"))

-- whether a Table of the Route is published
abbrev pub ingress_condition : Option (List Target) → Condition
ingress_condition None = stated condition.IngressReady truth.Unknown (codes "NotPublished") (codes "no table is published")
ingress_condition (Some targets) = holding condition.IngressReady

-- the targets that are published
abbrev pub published_or_none : Option (List Target) → List Target
published_or_none None = []
published_or_none (Some targets) = targets

-- the status of a Route of the generation and the host, by what its targets come to and by the targets of its Table
unfoldable pub route_status : ℕ → List ℕ → Resolved → Option (List Target) → ObjectStatus
route_status generation host resolved published = record {
  observed = generation;
  created = [];
  ready = [];
  url = address_of host;
  traffic = published_or_none published;
  conditions = traffic_condition resolved ∷ ingress_condition published ∷ fold_of (traffic_condition resolved ∷ ingress_condition published ∷ []) ∷ [];
}

-- ---- Services

-- what a Service sees of its Configuration or its Route
pub record Sight : Type 0 where
  pub owned : Bool
  pub generation : ℕ
  pub status : ObjectStatus

-- the status, where the Service owns it
abbrev pub owned_status : Option Sight → ObjectStatus
owned_status None = no_status
owned_status (Some s) = cond s.owned s.status no_status

-- the condition of one that the Service owns, which its status says once it is observed
abbrev pub observed_condition : CondName → List ℕ → Sight → Condition
observed_condition name out_of_date s =
    cond (s.status.observed == s.generation) (told_or name (stated name truth.Unknown [] []) (condition_in condition.Ready s.status)) (stated name truth.Unknown (codes "OutOfDate") out_of_date)

-- the condition of a Configuration or a Route that the Service asks for: the reason where it is missing, and what it is
abbrev pub sight_condition : CondName → List ℕ → List ℕ → Option Sight → Condition
sight_condition name reason what None = stated name truth.Unknown reason (what ++ codes " does not exist")
sight_condition name reason what (Some s) = cond s.owned (observed_condition name (what ++ codes " is not observed yet") s) (stated name truth.False (codes "NotOwned") (what ++ codes " is not owned by this service"))

-- whether the Configuration of the name is ready
abbrev pub configurations_condition : List ℕ → Option Sight → Condition
configurations_condition name c = sight_condition condition.ConfigurationsReady (codes "ConfigurationMissing") (codes "configuration " ++ name) c

-- whether the Route of the name is ready
abbrev pub routes_condition : List ℕ → Option Sight → Condition
routes_condition name r = sight_condition condition.RoutesReady (codes "RouteMissing") (codes "route " ++ name) r

-- the status of a Service of the generation and the name, by its Configuration and its Route
unfoldable pub service_status : ℕ → List ℕ → Option Sight → Option Sight → ObjectStatus
service_status generation name c r = record {
  observed = generation;
  created = (owned_status c).created;
  ready = (owned_status c).ready;
  url = (owned_status r).url;
  traffic = (owned_status r).traffic;
  conditions = configurations_condition name c ∷ fold_of (configurations_condition name c ∷ routes_condition name r ∷ []) ∷ routes_condition name r ∷ [];
}
