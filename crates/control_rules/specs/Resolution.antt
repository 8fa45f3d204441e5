-- What the targets of a Route come to: rows and targets to be published, or the first target that is not ready.
use Rattle.std.specs.Prelude.{ℕ, ◌==◌, ◌+◌, Bool, not, List, [], ◌∷◌, ◌++◌, map, filter, codes, Option, Some, None, unwrap_or, bytes_eq, cond}
use Rattle.std.specs.Option.{option_or}
use Rattle.resource_types.specs.declared.names.Kind.TheVariants as kind
use Rattle.resource_types.specs.declared.names.Name.{Name}
use Rattle.resource_types.specs.declared.conditions.CondName.TheVariants as condition
use Rattle.resource_types.specs.declared.conditions.Truth.TheVariants as truth
use Rattle.resource_types.specs.declared.specification.Row.{Row}
use Rattle.resource_types.specs.declared.specification.Target.{Target}
use Rattle.resource_types.specs.declared.objects.Object.{Object}
use Rattle.resource_types.specs.Objects.{has_been_ready, has_condition, status_of}
use Rattle.resource_types.specs.Lookups.{State, is_empty}
use Rattle.control_rules.specs.declared.traffic.Found.{Found}
use Rattle.control_rules.specs.declared.traffic.Found.TheVariants as found
use Rattle.control_rules.specs.declared.traffic.Named.TheVariants as named
use Rattle.control_rules.specs.declared.traffic.Resolved.{Resolved}
use Rattle.control_rules.specs.declared.traffic.Resolved.TheVariants.{Assigned, Missing, Unready}
use Rattle.control_rules.specs.Standing.{beside, standing}

-- ---- what counts as ready

-- what is read of the objects: the latest ready Revision of a Configuration, by its simple name or empty; whether a
-- Revision counts as ready once; and whether it counts as ready now
pub record Reading : Type 0 where
  pub ready : Object → List ℕ
  pub been : Object → Bool
  pub good : Object → Bool

-- what the stored statuses say
abbrev pub stored : Reading
stored = record {
  ready = λ c. (status_of c.body).ready;
  been = has_been_ready;
  good = has_condition condition.Ready truth.True;
}

-- ---- what a target means

-- a Revision under the name, which is ready where it counts
abbrev pub found_revision : (Object → Bool) → List ℕ → Option Object → Found
found_revision counts name None = found.RevisionAbsent
found_revision counts name (Some v) = cond (counts v) (found.Ready name v.meta.stamp.uid) found.RevisionUnready

-- the latest ready Revision of a Configuration, by its simple name
abbrev pub found_latest : Reading → State → Name → List ℕ → Found
found_latest reading st r [] = found.ConfigurationUnready
found_latest reading st r (b ∷ bs) = found_revision reading.been (b ∷ bs) (standing kind.Revision (beside r (b ∷ bs)) st)

-- a Configuration, by its latest ready Revision
abbrev pub found_configuration : Reading → State → Name → Option Object → Found
found_configuration reading st r None = found.ConfigurationAbsent
found_configuration reading st r (Some c) = found_latest reading st r (reading.ready c)

-- what a target of the Route means: the Revision that it names, or else the latest ready one of its Configuration
unfoldable pub found_of : Reading → State → Name → Target → Found
found_of reading st r t =
    cond (is_empty t.revision)
    (found_configuration reading st r (standing kind.Configuration (beside r t.configuration) st))
    (found_revision reading.good t.revision (standing kind.Revision (beside r t.revision) st))

-- ---- the first target that is not ready

-- the name that a target gives: the Revision's, or else the Configuration's
abbrev pub given_name : Target → List ℕ
given_name t = cond (is_empty t.revision) t.configuration t.revision

-- what hinders the target at the place, unless it is ready
abbrev pub hindrance : ℕ → Target → Found → Option Resolved
hindrance place t found.ConfigurationAbsent = Some (Missing place named.Configuration t.configuration)
hindrance place t found.ConfigurationUnready = Some (Unready place named.Configuration t.configuration)
hindrance place t found.RevisionAbsent = Some (Missing place named.Revision (given_name t))
hindrance place t found.RevisionUnready = Some (Unready place named.Revision (given_name t))
hindrance place t (found.Ready name uid) = None

-- what hinders the first target that is not ready, where the first one has the place
unfoldable pub first_hindrance : ℕ → List (Target × Found) → Option Resolved
first_hindrance place [] = None
first_hindrance place (p ∷ ps) = option_or (hindrance place p.0 p.1) (first_hindrance (place + 1) ps)

-- ---- rows and targets

-- a target with the Revision that it means
pub record Meant : Type 0 where
  pub target : Target
  pub name : List ℕ
  pub uid : ℕ

-- the target that means the Revision
abbrev pub meaning : Target → List ℕ → ℕ → Meant
meaning t name uid = record { target = t; name = name; uid = uid }

-- the target before the others, where it is ready
abbrev pub with_meant : Target → Found → List Meant → List Meant
with_meant t found.ConfigurationAbsent ms = ms
with_meant t found.ConfigurationUnready ms = ms
with_meant t found.RevisionAbsent ms = ms
with_meant t found.RevisionUnready ms = ms
with_meant t (found.Ready name uid) ms = meaning t name uid ∷ ms

-- the targets that are ready
unfoldable pub meant_of : List (Target × Found) → List Meant
meant_of [] = []
meant_of (p ∷ ps) = with_meant p.0 p.1 (meant_of ps)

-- the percent of a target
abbrev pub percent_of : Target → ℕ
percent_of t = unwrap_or t.percent 0

-- the host of a tag of the Route in the domain: the Route's own where the tag is empty
abbrev pub host_of : List ℕ → Name → List ℕ → List ℕ
host_of tag r domain = cond (is_empty tag) [] (tag ++ codes "-") ++ (r.name ++ (codes "." ++ (r.space ++ (codes "." ++ domain))))

-- a row
abbrev pub row_of : List ℕ → List ℕ → ℕ → Meant → Row
row_of tag host percent m = record { tag = tag; host = host; revision = m.name; uid = m.uid; percent = percent }

-- the row with so many percents more
abbrev pub raised : ℕ → Row → Row
raised percent row = record { tag = row.tag; host = row.host; revision = row.revision; uid = row.uid; percent = row.percent + percent }

-- the rows with the target's percent in the row of its Revision, which comes last where there was none
unfoldable pub add_share : List ℕ → Meant → List Row → List Row
add_share host m [] = row_of [] host (percent_of m.target) m ∷ []
add_share host m (row ∷ rows) = cond (bytes_eq row.revision m.name) (raised (percent_of m.target) row ∷ rows) (row ∷ add_share host m rows)

-- the rows with the percents of these targets, in their order
unfoldable pub shares_from : List ℕ → List Row → List Meant → List Row
shares_from host rows [] = rows
shares_from host rows (m ∷ ms) = shares_from host (add_share host m rows) ms

-- one row per Revision in order of first appearance, with the sum of its percents, without sums of 0
abbrev pub default_rows : List ℕ → List Meant → List Row
default_rows host ms = filter (λ (row : Row). not (row.percent == 0)) (shares_from host [] ms)

-- one row of 100 per target with a tag, in their order
abbrev pub tagged_rows : Name → List ℕ → List Meant → List Row
tagged_rows r domain ms = map (λ (m : Meant). row_of m.target.tag (host_of m.target.tag r domain) 100 m) (filter (λ (m : Meant). not (is_empty m.target.tag)) ms)

-- the rows that are published
unfoldable pub assigned_rows : Name → List ℕ → List Meant → List Row
assigned_rows r domain ms = default_rows (host_of [] r domain) ms ++ tagged_rows r domain ms

-- the address of a host
abbrev pub address_of : List ℕ → List ℕ
address_of host = codes "http://" ++ host

-- the address of a tag, of which an empty one has none
abbrev pub tag_address : List ℕ → Name → List ℕ → List ℕ
tag_address tag r domain = cond (is_empty tag) [] (address_of (host_of tag r domain))

-- the target that is published: with the name of its Revision and no Configuration
abbrev pub published_target : Name → List ℕ → Meant → Target
published_target r domain m =
    record { configuration = []; revision = m.name; latest = m.target.latest; percent = m.target.percent; tag = m.target.tag; url = tag_address m.target.tag r domain }

-- the targets that are published
abbrev pub assigned_targets : Name → List ℕ → List Meant → List Target
assigned_targets r domain ms = map (published_target r domain) ms

-- ---- the resolution

-- what is found, or else the rows and the targets
abbrev pub hindered_or : Option Resolved → Resolved → Resolved
hindered_or None assigned = assigned
hindered_or (Some hindered) assigned = hindered

-- what the targets come to, each with what it was found to mean
unfoldable pub resolved : Name → List ℕ → List (Target × Found) → Resolved
resolved r domain pairs = hindered_or (first_hindrance 0 pairs) (Assigned (assigned_rows r domain (meant_of pairs)) (assigned_targets r domain (meant_of pairs)))

-- each target with what it means
abbrev pub pairs_of : Reading → State → Name → List Target → List (Target × Found)
pairs_of reading st r targets = map (λ (t : Target). (t, found_of reading st r t)) targets

-- what the targets of the Route come to in the state
unfoldable pub resolution : Reading → List ℕ → State → Name → List Target → Resolved
resolution reading domain st r targets = resolved r domain (pairs_of reading st r targets)

-- the targets with the Revisions that they mean, where all are ready
abbrev pub meant_unless : Option Resolved → List Meant → Option (List Meant)
meant_unless None ms = Some ms
meant_unless (Some hindered) ms = None

-- the same of the Route's targets in the state
unfoldable pub assigned : Reading → State → Name → List Target → Option (List Meant)
assigned reading st r targets = meant_unless (first_hindrance 0 (pairs_of reading st r targets)) (meant_of (pairs_of reading st r targets))
