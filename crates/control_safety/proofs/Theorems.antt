-- All that holds of a lawful journal, and of a plane that is kept.
use Rattle.resource_types.specs.declared.names.Kind.TheVariants as kind
use Rattle.std.proofs.Common.{◌≡◌, inl, inr, refl, ℕ, Bool, Some}
use Rattle.std.specs.Prelude.{slice_get}
use Rattle.resource_types.specs.declared.manifests.Manifest.{Manifest}
use Rattle.resource_types.specs.Lookups.{Journal}
use Rattle.control_rules.specs.declared.settings.Settings.{Settings}
use Rattle.control_rules.specs.Slots.{ObjectEntry, Plane}
use Rattle.control_rules.specs.Lawful.{IsLawful}
use Rattle.control_rules.specs.Facts.{IsKept, PlaneFacts}
use Rattle.control_rules.specs.FurtherFacts.{IsAsLooked, FurtherFacts}
use Rattle.control_safety.specs.Goods.{IsGoodLaws}
use Rattle.control_entries.proofs.Stamps.{stood}
use Rattle.control_entries.proofs.Entries.{acts_of}
use Rattle.control_entries.proofs.Sound.{sound, health_reported}
use Rattle.control_safety.proofs.Owners.{served, revision_keeps, revision_made}
use Rattle.control_safety.proofs.Kin.{distinct, distinct_generations}
use Rattle.control_safety.proofs.Good.{are_good}
use Rattle.control_safety.proofs.Own.{are_own}
use Rattle.control_safety.proofs.Reports.{well_reported}
use Rattle.control_safety.proofs.Since.{controls}
use Rattle.control_safety.proofs.Safety.{safe}
use Rattle.control_safety.proofs.Unused.{removes_unused, latest_stays}
use Rattle.control_safety.proofs.Times.{transition_times}
use Rattle.control_safety.proofs.Looking.{collector_fits, route_fits}

module _ {is_good : Manifest → Bool} {settings : Settings} {j : Journal} (laws : IsGoodLaws is_good) (lawful : IsLawful is_good settings j) where
  -- what a controller writes was, when it looked, what stands when it writes
  pub as_looked : (n : ℕ) (e : ObjectEntry) → slice_get j n ≡ Some e → IsAsLooked j n e
  as_looked n e g slot q = (acts_of lawful n e g slot (controls lawful n e g slot q)).same

  -- what else holds of a lawful journal
  pub further_facts : FurtherFacts j
  further_facts = record {
    sound = sound lawful;
    stood = λ m n key o len at up le. stood lawful n len key o at m up le;
    serve = served lawful kind.Configuration (inl refl);
    serve_route = served lawful kind.Route (inr refl);
    made = revision_made lawful;
    looked = as_looked;
    keeps = revision_keeps lawful;
    health = health_reported lawful;
    route_fits = route_fits lawful laws;
    collector_fits = collector_fits lawful;
  }

-- the facts of a plane that is kept
pub plane_facts : {is_good : Manifest → Bool} → IsGoodLaws is_good → (w : Plane) → IsKept is_good w → PlaneFacts is_good w
plane_facts laws w kept = record {
  kept = kept;
  good = are_good laws kept.lawful;
  uids = distinct kept.lawful;
  reported = well_reported kept.lawful;
  generations = distinct_generations kept.lawful;
  latest = latest_stays kept.lawful;
  own = λ n e r g. are_own kept.lawful n e r g;
  safe = safe laws kept.lawful;
  removes = removes_unused kept.lawful;
  times = transition_times kept.lawful;
}
