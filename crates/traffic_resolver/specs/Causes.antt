-- Why targets come to what they come to.
use Rattle.std.specs.Prelude.{◌≡◌, ℕ, ◌<◌, List, All, take, length, Option, Some, None, IfSome, slice_get, ⊤}
use Rattle.resource_types.specs.declared.specification.Target.{Target}
use Rattle.control_rules.specs.declared.traffic.Found.{Found}
use Rattle.control_rules.specs.declared.traffic.Found.TheVariants as found
use Rattle.control_rules.specs.declared.traffic.Named.{Named}
use Rattle.control_rules.specs.declared.traffic.Named.TheVariants as named
use Rattle.control_rules.specs.declared.traffic.Resolved.{Resolved}
use Rattle.control_rules.specs.declared.traffic.Resolved.TheVariants.{Assigned, Missing, Unready}
use Rattle.control_rules.specs.Resolution.{given_name}

-- what the target names, or means, and doesn't stand
abbrev pub lacking : Target → Found → Option (Named × List ℕ)
lacking t found.ConfigurationAbsent = Some (named.Configuration, t.configuration)
lacking t found.ConfigurationUnready = None
lacking t found.RevisionAbsent = Some (named.Revision, given_name t)
lacking t found.RevisionUnready = None
lacking t (found.Ready name uid) = None

-- what the target names, or means, and doesn't count as ready
abbrev pub unready : Target → Found → Option (Named × List ℕ)
unready t found.ConfigurationAbsent = None
unready t found.ConfigurationUnready = Some (named.Configuration, t.configuration)
unready t found.RevisionAbsent = None
unready t found.RevisionUnready = Some (named.Revision, given_name t)
unready t (found.Ready name uid) = None

-- the target means a Revision that counts as ready
abbrev pub IsReady : Found → Type 0
IsReady found.ConfigurationAbsent = ⊥
IsReady found.ConfigurationUnready = ⊥
IsReady found.RevisionAbsent = ⊥
IsReady found.RevisionUnready = ⊥
IsReady (found.Ready name uid) = ⊤

-- all of them do
abbrev pub AreReady : List (Target × Found) → Type 0
AreReady pairs = All (λ (p : Target × Found). IsReady p.1) pairs

-- those before the place are ready, and the one at the place is hindered so
pub record IsFirst (cause : Target → Found → Option (Named × List ℕ)) (pairs : List (Target × Found)) (place : ℕ) (kind : Named) (name : List ℕ) : Type 0 where
  pub earlier : AreReady (take place pairs)
  pub within : place < length pairs
  pub here : IfSome (slice_get pairs place) (λ p. cause p.0 p.1 ≡ Some (kind, name))

-- the cause of each answer: all are ready, or it names the first that isn't
abbrev pub HasCause : List (Target × Found) → Resolved → Type 0
HasCause pairs (Assigned rows targets) = AreReady pairs
HasCause pairs (Missing place kind name) = IsFirst lacking pairs place kind name
HasCause pairs (Unready place kind name) = IsFirst unready pairs place kind name
