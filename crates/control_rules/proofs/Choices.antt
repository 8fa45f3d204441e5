-- Worked rows by computation: what is collected, what goes with its owner, and what targets come to.
use Rattle.std.proofs.Common.{◌≡◌, ℕ, true, List, [], ◌∷◌, codes, Option, Some, None, refl}
use Rattle.resource_types.specs.declared.names.Kind.TheVariants as kind
use Rattle.resource_types.specs.declared.names.Controller.TheVariants as controller
use Rattle.resource_types.specs.declared.conditions.CondName.TheVariants as condition
use Rattle.resource_types.specs.declared.conditions.Truth.TheVariants as truth
use Rattle.resource_types.specs.declared.specification.Target.{Target}
use Rattle.resource_types.specs.declared.status.ObjectStatus.{ObjectStatus}
use Rattle.resource_types.specs.declared.objects.Body.TheVariants.{Configuration, Revision, Route}
use Rattle.resource_types.specs.declared.objects.Object.{Object}
use Rattle.resource_types.specs.Objects.{no_status}
use Rattle.json_tree.specs.Equal.{is_equal}
use Rattle.control_rules.specs.declared.settings.GcSettings.{GcSettings}
use Rattle.control_rules.specs.declared.settings.Settings.{Settings}
use Rattle.control_rules.specs.declared.collection.Candidate.{Candidate}
use Rattle.control_rules.specs.declared.traffic.Found.TheVariants as found
use Rattle.control_rules.specs.declared.traffic.Resolved.TheVariants.{Assigned}
use Rattle.control_rules.specs.Standing.{key_at, standing, is_orphan}
use Rattle.control_rules.specs.Resolution.{found_of, first_hindrance, meant_of, add_share, shares_from, assigned_rows, resolved, resolution, assigned}
use Rattle.control_rules.specs.Collection.{is_candidate, candidates, first_from, collected_place, collection_choice}
use Rattle.control_rules.specs.TrafficStatuses.{route_status}
use Rattle.control_rules.specs.Differences.{first_plan, when, given, guarded_removal, replacement, same_untimed}
use Rattle.control_rules.specs.NextCollector.{collector_next}
use Rattle.control_rules.specs.NextRevision.{revision_next}
use Rattle.control_rules.specs.NextRoute.{assigned_at, route_next}
use Rattle.control_rules.specs.Next.{next_write}
use Rattle.control_rules.proofs.Rows.{named, hello, hello-1, pod, template, object, stamp, condition_of, revision, next, ready_revision, health, r}

-- ---- collection of one candidate that was made and active at 0

abbrev gc_of : Option ℕ → ℕ → Option ℕ → GcSettings
gc_of create least most = record { create = create; active = None; least = least; most = most }

abbrev old : List Candidate
old = record { created = 0; active = 0; generation = 1; name = codes "a" } ∷ []

pub not_yet : collected_place (gc_of (Some 172800) 0 None) 172800 old ≡ None
unfolding collected_place first_from
not_yet = refl

pub passed : collected_place (gc_of (Some 172800) 0 None) 172801 old ≡ Some 0
unfolding collected_place first_from
passed = refl

pub least_stays : collected_place (gc_of (Some 172800) 1 None) 172801 old ≡ None
unfolding collected_place first_from
least_stays = refl

pub too_many : collected_place (gc_of None 0 (Some 0)) 0 old ≡ Some 0
unfolding collected_place first_from
too_many = refl

pub disabled : collected_place (gc_of None 0 None) 253402300799 old ≡ None
unfolding collected_place first_from
disabled = refl

-- ---- two Revisions of one Configuration, of which the older one is collected at once

abbrev at_once : Settings
at_once = record { domain = codes "example.com"; gc = gc_of None 0 (Some 0) }

abbrev twice : Object
twice = record { key = key_at kind.Configuration hello; meta = record { stamp = record { version = 3; generation = 2; uid = 1; created = 0 }; owner = None; labels = record { entries = [] }; annotations = record { entries = [] } }; body = Configuration template no_status }

abbrev first_one : Object
first_one = revision (stamp 2 2) [] None no_status

abbrev second_one : Object
second_one = record { key = key_at kind.Revision (named (codes "hello-00002")); meta = record { stamp = stamp 4 4; owner = first_one.meta.owner; labels = record { entries = [] }; annotations = record { entries = [] } }; body = Revision pod 2 [] None no_status }

pub collects : next_write at_once (record { controller = controller.Collector; name = hello }) (twice ∷ first_one ∷ second_one ∷ []) 0 ≡ Some (guarded_removal first_one)
unfolding next_write collector_next given standing collection_choice candidates is_candidate collected_place first_from
collects = refl

-- ---- a Revision whose Configuration is gone, with and without a Route on it

abbrev on_revision : Target
on_revision = record { configuration = []; revision = codes "hello-00001"; latest = None; percent = Some 100; tag = []; url = [] }

abbrev q : Object
q = object kind.Route (named (codes "q")) (stamp 8 8) None (Route (on_revision ∷ []) no_status)

pub goes : next controller.Revision hello-1 (revision (stamp 5 2) [] None ready_revision ∷ health ∷ []) ≡ Some (guarded_removal (revision (stamp 5 2) [] None ready_revision))
unfolding next_write revision_next first_plan when given standing is_orphan
goes = refl

-- ---- two targets, of which one has no percent of its own

abbrev share : List ℕ → ℕ → Target
share name percent = record { configuration = []; revision = name; latest = None; percent = Some percent; tag = []; url = [] }

pub one_row : resolved r (codes "example.com") ((share (codes "a") 0, found.Ready (codes "a") 1) ∷ (share (codes "b") 100, found.Ready (codes "b") 2) ∷ [])
    ≡ Assigned (record { tag = []; host = codes "r.default.example.com"; revision = codes "b"; uid = 2; percent = 100 } ∷ []) (share (codes "a") 0 ∷ share (codes "b") 100 ∷ [])
unfolding resolved first_hindrance meant_of assigned_rows shares_from add_share
one_row = refl

-- ---- a target on a Revision that is not ready now

abbrev crashed : ObjectStatus
crashed = record {
  observed = 1;
  created = [];
  ready = [];
  url = [];
  traffic = [];
  conditions =
      record { name = condition.HasBeenReady; truth = truth.True; reason = []; message = []; info = true; since = 0 } ∷
      condition_of condition.Ready truth.False (codes "Crash") [] ∷ [];
}

abbrev unready : ObjectStatus
unready = record {
  observed = 1;
  created = [];
  ready = [];
  url = codes "http://q.default.example.com";
  traffic = [];
  conditions =
      condition_of condition.AllTrafficAssigned truth.Unknown (codes "RevisionUnready") (codes "the revision of hello-00001 is not ready") ∷
      condition_of condition.IngressReady truth.Unknown (codes "NotPublished") (codes "no table is published") ∷
      condition_of condition.Ready truth.Unknown (codes "RevisionUnready") (codes "the revision of hello-00001 is not ready") ∷ [];
}

pub waits : next controller.Route (named (codes "q")) (revision (stamp 5 2) [] None crashed ∷ q ∷ []) ≡ Some (replacement q (Route (on_revision ∷ []) unready))
unfolding next_write route_next first_plan when given standing is_orphan assigned_at assigned found_of first_hindrance same_untimed is_equal resolution resolved route_status
waits = refl
