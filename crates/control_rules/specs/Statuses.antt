-- Statuses of Revisions and Configurations, each of exactly what it reads. Their times are 0 until they are written.
use Rattle.std.specs.Prelude.{ℕ, ◌==◌, ◌++◌, ◌&&◌, Bool, true, false, List, [], ◌∷◌, codes, Option, Some, None, cond}
use Rattle.std.specs.List.{find}
use Rattle.resource_types.specs.declared.names.Kind.TheVariants as kind
use Rattle.resource_types.specs.declared.conditions.CondName.{CondName}
use Rattle.resource_types.specs.declared.conditions.CondName.TheVariants as condition
use Rattle.resource_types.specs.declared.conditions.Truth.{Truth}
use Rattle.resource_types.specs.declared.conditions.Truth.TheVariants as truth
use Rattle.resource_types.specs.declared.conditions.Condition.{Condition}
use Rattle.resource_types.specs.declared.conditions.Part.{Part}
use Rattle.resource_types.specs.declared.status.ObjectStatus.{ObjectStatus}
use Rattle.resource_types.specs.declared.objects.Body.{Body}
use Rattle.resource_types.specs.declared.objects.Body.TheVariants.{Service, Configuration, Revision, Route, Health, Table}
use Rattle.resource_types.specs.declared.objects.Object.{Object}
use Rattle.resource_types.specs.contracts.conditions.CondNamePartialEq.TheImpl as condition_eq
use Rattle.resource_types.specs.Objects.{generation_of}
use Rattle.resource_types.specs.Lookups.{State, is_owned_by}
use Rattle.conditions.specs.Fold.{fold_of}
use Rattle.control_rules.specs.Standing.{standing}

-- ---- conditions

-- a condition without a time
abbrev pub stated : CondName → Truth → List ℕ → List ℕ → Condition
stated name t reason message = record { name = name; truth = t; reason = reason; message = message; info = false; since = 0 }

-- a condition that holds
abbrev pub holding : CondName → Condition
holding name = stated name truth.True [] []

-- a name between two texts
abbrev pub about : List ℕ → List ℕ → List ℕ → List ℕ
about before name behind = before ++ (name ++ behind)

-- the first condition of the name
abbrev pub condition_in : CondName → ObjectStatus → Option Condition
condition_in name s = find (λ (c : Condition). condition_eq.ghosts.eq c.name name) s.conditions

-- a condition as another one says it, or else as it is
abbrev pub told_or : CondName → Condition → Option Condition → Condition
told_or name otherwise None = otherwise
told_or name otherwise (Some c) = stated name c.truth c.reason c.message

-- ---- Revisions

-- what a Health says
pub record Reported : Type 0 where
  pub resources : Part
  pub container : Part
  pub ever : Bool

-- what a Health says of the uid
abbrev pub reported_by : ℕ → Body → Option Reported
reported_by uid (Health of_uid resources container ever) = cond (of_uid == uid) (Some (record { resources = resources; container = container; ever = ever })) None
reported_by uid (Service template traffic status) = None
reported_by uid (Configuration template status) = None
reported_by uid (Revision spec generation pins active status) = None
reported_by uid (Route traffic status) = None
reported_by uid (Table route rows targets) = None

-- the same, where there is one
abbrev pub reported_in : ℕ → Option Object → Option Reported
reported_in uid None = None
reported_in uid (Some h) = reported_by uid h.body

-- what the Health of the Revision's name says of its uid
unfoldable pub reported_of : State → Object → Option Reported
reported_of st v = reported_in v.meta.stamp.uid (standing kind.Health v.key.name st)

-- a part as a condition
abbrev pub part_condition : CondName → Part → Condition
part_condition name p = stated name p.truth p.reason p.message

-- a part of which nothing was reported
abbrev pub unreported : CondName → Condition
unreported name = stated name truth.Unknown (codes "NotReported") (codes "the revision was not reported yet")

-- whether what the Revision runs on is there
abbrev pub resources_condition : Option Reported → Condition
resources_condition None = unreported condition.ResourcesAvailable
resources_condition (Some h) = part_condition condition.ResourcesAvailable h.resources

-- whether the Revision's container answers
abbrev pub container_condition : Option Reported → Condition
container_condition None = unreported condition.ContainerHealthy
container_condition (Some h) = part_condition condition.ContainerHealthy h.container

-- whether it was reported ready once
abbrev pub ever_of : Option Reported → Bool
ever_of None = false
ever_of (Some h) = h.ever

-- the condition that it was ready once, of severity `Info`
abbrev pub been_condition : Bool → Condition
been_condition ever = record { name = condition.HasBeenReady; truth = cond ever truth.True truth.False; reason = []; message = []; info = true; since = 0 }

-- the status of a Revision of the generation, by what is reported of it
unfoldable pub revision_status : ℕ → Option Reported → ObjectStatus
revision_status generation h = record {
  observed = generation;
  created = [];
  ready = [];
  url = [];
  traffic = [];
  conditions = container_condition h ∷ been_condition (ever_of h) ∷ fold_of (resources_condition h ∷ container_condition h ∷ []) ∷ resources_condition h ∷ [];
}

-- ---- Configurations

-- what stands under the name of a Configuration's Revision: the current one with its status, or another one, or none
pub data Child : Type 0 where
  Current : ObjectStatus → Child
  Taken : Child
  NoChild : Child

-- whether the Configuration owns the Revision, and it has the Configuration's generation
abbrev pub is_current : Object → Object → Bool
is_current c v = is_owned_by c v && (generation_of v.body == c.meta.stamp.generation)

-- what stands, where the statuses of Revisions are read so
abbrev pub child_of : (Object → ObjectStatus) → Object → Option Object → Child
child_of status c None = NoChild
child_of status c (Some v) = cond (is_current c v) (Current (status v)) Taken

-- the condition of a Configuration whose Revision has the name
abbrev pub child_condition : List ℕ → Child → Condition
child_condition name (Current s) = told_or condition.Ready (stated condition.Ready truth.Unknown (codes "NotObserved") (codes "the revision has no status yet")) (condition_in condition.Ready s)
child_condition name Taken = stated condition.Ready truth.False (codes "RevisionNameTaken") (about (codes "revision ") name (codes " is taken"))
child_condition name NoChild = stated condition.Ready truth.Unknown (codes "RevisionMissing") (about (codes "revision ") name (codes " does not exist"))

-- the status of a Configuration of the generation, by its latest created and latest ready Revisions, and by what stands
-- under the name of its Revision
unfoldable pub configuration_status : ℕ → List ℕ → List ℕ → List ℕ → Child → ObjectStatus
configuration_status generation created ready name child =
    record { observed = generation; created = created; ready = ready; url = []; traffic = []; conditions = child_condition name child ∷ [] }
