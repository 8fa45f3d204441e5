-- In a quiet state the statuses are those that follow: of Revisions, then of Configurations, of Routes and of Services.
use Rattle.std.proofs.Common.{◌≡◌, ℕ, Bool, true, false, List, [], ◌∷◌, ◌++◌, cond, codes, Option, Some, None, refl, sym, ap, ◌∙◌}
use Rattle.std.specs.Prelude.{◌==◌, map}
use Rattle.resource_types.specs.declared.names.Kind.TheVariants as kind
use Rattle.resource_types.specs.declared.names.Name.{Name}
use Rattle.resource_types.specs.declared.conditions.CondName.{CondName}
use Rattle.resource_types.specs.declared.conditions.CondName.TheVariants as condition
use Rattle.resource_types.specs.declared.conditions.Truth.TheVariants as truth
use Rattle.resource_types.specs.declared.conditions.Condition.{Condition}
use Rattle.resource_types.specs.declared.specification.Target.{Target}
use Rattle.resource_types.specs.declared.status.ObjectStatus.{ObjectStatus}
use Rattle.resource_types.specs.declared.objects.Object.{Object}
use Rattle.resource_types.specs.Objects.{targets_of, has_been_ready, has_condition, no_status, status_of}
use Rattle.resource_types.specs.Lookups.{State, is_empty, latest_created}
use Rattle.conditions.specs.Fold.{fold_of}
use Rattle.control_rules.specs.Standing.{beside, standing, is_owned_by_uid}
use Rattle.control_rules.specs.declared.traffic.Found.TheVariants as found
use Rattle.control_rules.specs.Resolution.{stored, found_revision, found_latest, found_configuration, found_of, resolved, resolution, host_of}
use Rattle.control_rules.specs.Statuses.{Child, Current, Taken, NoChild, is_current, child_of, child_condition, configuration_status}
use Rattle.control_rules.specs.TrafficStatuses.{route_status, Sight, owned_status, sight_condition, configurations_condition, routes_condition, service_status}
use Rattle.control_rules.specs.Readings.{stored_status, revision_name, simple_name_of, configuration_status_in, own_targets, route_status_in, sight_of, service_status_in}
use Rattle.control_rules.specs.Differences.{untimed}
use Rattle.control_rules.specs.Final.{was_ready, is_ready, ready_name, by_reports, final_revision_status, final_configuration_status, final_route_status}
use Rattle.control_entries.specs.Ground.{IsOrdered}
use Rattle.control_quiet.proofs.Conditions.{told-untimed}
use Rattle.control_quiet.proofs.Revisions.{AreRevisionsRight, been-is, good-is, latest-is}

-- ---- a Configuration reads its Revision's status without times

abbrev cleared_child : Child → Child
cleared_child (Current s) = Current (untimed s)
cleared_child Taken = Taken
cleared_child NoChild = NoChild

child-cleared : (name : List ℕ) (child : Child) → child_condition name child ≡ child_condition name (cleared_child child)
child-cleared name (Current s) = sym (told-untimed condition.Ready _ condition.Ready s)
child-cleared name Taken = refl
child-cleared name NoChild = refl

-- ---- a Service reads the statuses of its Configuration and its Route without times

abbrev cleared : Option Sight → Option Sight
cleared None = None
cleared (Some s) = Some (record { owned = s.owned; generation = s.generation; status = untimed s.status })

owned-cleared : {A : Type 0} (get : ObjectStatus → A) → ((s : ObjectStatus) → get (untimed s) ≡ get s) → (s : Option Sight)
    → get (owned_status s) ≡ get (owned_status (cleared s))
owned-cleared get law None = refl
owned-cleared get law (Some s) = go s.owned
  where
    go : (b : Bool) → get (cond b s.status no_status) ≡ get (cond b (untimed s.status) no_status)
    go true = sym (law s.status)
    go false = refl

sight-cleared : (name : CondName) (reason what : List ℕ) (s : Option Sight)
    → sight_condition name reason what s ≡ sight_condition name reason what (cleared s)
sight-cleared name reason what None = refl
sight-cleared name reason what (Some s) = ap (λ c. cond s.owned (cond (s.status.observed == s.generation) c (late)) (other))
    (sym (told-untimed name _ condition.Ready s.status))
  where
    late : Condition
    late = record { name = name; truth = truth.Unknown; reason = codes "OutOfDate"; message = what ++ codes " is not observed yet"; info = false; since = 0 }

    other : Condition
    other = record { name = name; truth = truth.False; reason = codes "NotOwned"; message = what ++ codes " is not owned by this service"; info = false; since = 0 }

service-cleared : (generation : ℕ) (name : List ℕ) (c r : Option Sight)
    → service_status generation name c r ≡ service_status generation name (cleared c) (cleared r)
unfolding service_status
service-cleared generation name c r = λ i. record {
  observed = generation;
  created = owned-cleared (λ s. s.created) (λ s. refl) c i;
  ready = owned-cleared (λ s. s.ready) (λ s. refl) c i;
  url = owned-cleared (λ s. s.url) (λ s. refl) r i;
  traffic = owned-cleared (λ s. s.traffic) (λ s. refl) r i;
  conditions = first i ∷ fold_of (first i ∷ second i ∷ []) ∷ second i ∷ [];
}
  where
    first : configurations_condition name c ≡ configurations_condition name (cleared c)
    first = sight-cleared condition.ConfigurationsReady (codes "ConfigurationMissing") (codes "configuration " ++ name) c

    second : routes_condition name r ≡ routes_condition name (cleared r)
    second = sight-cleared condition.RoutesReady (codes "RouteMissing") (codes "route " ++ name) r

sight-is : (final : Object → ObjectStatus) (uid : ℕ) (o : Option Object) → ((x : Object) → o ≡ Some x → untimed (status_of x.body) ≡ final x)
    → cleared (sight_of stored_status uid o) ≡ sight_of final uid o
sight-is final uid None h = refl
sight-is final uid (Some o) h = ap (λ s. Some (record { owned = is_owned_by_uid uid o; generation = o.meta.stamp.generation; status = s })) (h o refl)

-- ---- the statuses that follow

module _ (st : State) (right : AreRevisionsRight st) (ordered : IsOrdered st) where
  child-is : (c : Object) (v : Option Object) → ((o : Object) → v ≡ Some o → untimed (status_of o.body) ≡ final_revision_status st o)
      → cleared_child (child_of stored_status c v) ≡ child_of (final_revision_status st) c v
  child-is c None h = refl
  child-is c (Some v) h = go (is_current c v)
    where
      go : (b : Bool) → cleared_child (cond b (Current (stored_status v)) Taken) ≡ cond b (Current (final_revision_status st v)) Taken
      go true = ap Current (h v refl)
      go false = refl

  pub configuration-is : (c : Object) → configuration_status_in has_been_ready stored_status st c ≡ final_configuration_status st c
  unfolding configuration_status
  configuration-is c = λ i. record {
    observed = c.meta.stamp.generation;
    created = simple_name_of (latest_created st c);
    ready = simple_name_of (latest-is st right ordered c i);
    url = [];
    traffic = [];
    conditions = said i ∷ [];
  }
    where
      said : child_condition (revision_name c).name (child_of stored_status c (standing kind.Revision (revision_name c) st))
          ≡ child_condition (revision_name c).name (child_of (final_revision_status st) c (standing kind.Revision (revision_name c) st))
      said = child-cleared (revision_name c).name (child_of stored_status c (standing kind.Revision (revision_name c) st))
          ∙ ap (child_condition (revision_name c).name) (child-is c (standing kind.Revision (revision_name c) st) (right (revision_name c)))

  -- the status of each Configuration is right
  abbrev pub AreConfigurationsRight : Type 0
  AreConfigurationsRight = (n : Name) (c : Object) → standing kind.Configuration n st ≡ Some c → untimed (status_of c.body) ≡ final_configuration_status st c

  module _ (configurations : AreConfigurationsRight) where
    stored_ready : (n : Name) (c : Object) → standing kind.Configuration n st ≡ Some c → (status_of c.body).ready ≡ ready_name st c
    unfolding configuration_status
    stored_ready n c e = ap (λ s. s.ready) (configurations n c e)

    revision-found : (stored_test test : Object → Bool) (x : List ℕ) (v : Option Object) → ((o : Object) → v ≡ Some o → stored_test o ≡ test o)
        → found_revision stored_test x v ≡ found_revision test x v
    revision-found stored_test test x None h = refl
    revision-found stored_test test x (Some v) h = ap (λ b. cond b (found.Ready x v.meta.stamp.uid) found.RevisionUnready) (h v refl)

    latest-found : (r : Name) (x : List ℕ) → found_latest stored st r x ≡ found_latest (by_reports st) st r x
    latest-found r [] = refl
    latest-found r (b ∷ bs) = revision-found has_been_ready (was_ready st) (b ∷ bs) (standing kind.Revision (beside r (b ∷ bs)) st)
        (been-is st right (beside r (b ∷ bs)))

    configuration-found : (r n : Name) (c : Option Object) → standing kind.Configuration n st ≡ c
        → found_configuration stored st r c ≡ found_configuration (by_reports st) st r c
    configuration-found r n None e = refl
    configuration-found r n (Some c) e = latest-found r (status_of c.body).ready ∙ ap (found_latest (by_reports st) st r) (stored_ready n c e)

    found-is : (r : Name) (t : Target) → found_of stored st r t ≡ found_of (by_reports st) st r t
    unfolding found_of
    found-is r t = λ i. cond (is_empty t.revision) (one i) (two i)
      where
        one : found_configuration stored st r (standing kind.Configuration (beside r t.configuration) st)
            ≡ found_configuration (by_reports st) st r (standing kind.Configuration (beside r t.configuration) st)
        one = configuration-found r (beside r t.configuration) (standing kind.Configuration (beside r t.configuration) st) refl

        two : found_revision stored.good t.revision (standing kind.Revision (beside r t.revision) st)
            ≡ found_revision (by_reports st).good t.revision (standing kind.Revision (beside r t.revision) st)
        two = revision-found (has_condition condition.Ready truth.True) (is_ready st) t.revision (standing kind.Revision (beside r t.revision) st)
            (good-is st right (beside r t.revision))

    -- what targets come to by the statuses is what they come to by the reports
    pub resolution-is : (domain : List ℕ) (r : Name) (targets : List Target)
        → resolution stored domain st r targets ≡ resolution (by_reports st) domain st r targets
    unfolding resolution
    resolution-is domain r targets = λ i. resolved r domain (map (λ (t : Target). (t, found-is r t i)) targets)

    pub route-is : (domain : List ℕ) (r : Name) (o : Object) → route_status_in stored domain st r o ≡ route_status_in (by_reports st) domain st r o
    route-is domain r o = ap
        (λ x. route_status o.meta.stamp.generation (host_of [] r domain) x (own_targets o.meta.stamp.uid (standing kind.Table r st)))
        (resolution-is domain r (targets_of o.body))

  pub service-is : (domain : List ℕ) → AreConfigurationsRight
      → ((n : Name) (r : Object) → standing kind.Route n st ≡ Some r → untimed (status_of r.body) ≡ final_route_status domain st r)
      → (n : Name) (s : Object)
      → service_status_in stored_status stored_status st n s ≡ service_status_in (final_configuration_status st) (final_route_status domain st) st n s
  service-is domain configurations routes n s =
      service-cleared s.meta.stamp.generation n.name
      (sight_of stored_status s.meta.stamp.uid (standing kind.Configuration n st)) (sight_of stored_status s.meta.stamp.uid (standing kind.Route n st))
      ∙ (λ i. service_status s.meta.stamp.generation n.name
      (sight-is (final_configuration_status st) s.meta.stamp.uid (standing kind.Configuration n st) (configurations n) i)
      (sight-is (final_route_status domain st) s.meta.stamp.uid (standing kind.Route n st) (routes n) i))
