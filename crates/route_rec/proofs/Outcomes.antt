-- What targets come to is Assigned exactly where each means a Revision that counts as ready.
use Rattle.std.proofs.Common.{◌≡◌, ℕ, suc, ◌+◌, arith, List, [], ◌∷◌, Option, Some, None, refl, sym, ap, ◌∙◌}
use Rattle.std.specs.Prelude.{map}
use Rattle.std.specs.Option.{option_or}
use Rattle.resource_types.specs.declared.names.Name.{Name}
use Rattle.resource_types.specs.declared.specification.Row.{Row}
use Rattle.resource_types.specs.declared.specification.Target.{Target}
use Rattle.resource_types.specs.Objects.{targets_of}
use Rattle.resource_types.specs.Lookups.{State}
use Rattle.control_rules.specs.declared.traffic.Found.{Found}
use Rattle.control_rules.specs.declared.traffic.Found.TheVariants as found
use Rattle.control_rules.specs.declared.traffic.Resolved.{Resolved}
use Rattle.control_rules.specs.declared.traffic.Resolved.TheVariants.{Assigned}
use Rattle.control_rules.specs.Resolution.{Meant, stored, hindrance, first_hindrance, found_of, with_meant, meant_of, assigned_rows, assigned_targets, hindered_or, resolved, pairs_of, resolution, meant_unless, assigned}
use Rattle.control_rules.specs.NextRoute.{assigned_of, assigned_at, first_unpinned}
use Rattle.route_rec.specs.declared.traffic.Traffic.{Traffic}
use Rattle.route_rec.specs.Traffic.{IsSeen, unpinned_by, unpinned_among}

-- ---- hindrances

-- a target is never hindered by rows
not_assigned : (place : ℕ) (t : Target) (f : Found) (rows : List Row) (targets : List Target) → hindrance place t f ≡ Some (Assigned rows targets) → ⊥
not_assigned place t found.ConfigurationAbsent rows targets e = cc
not_assigned place t found.ConfigurationUnready rows targets e = cc
not_assigned place t found.RevisionAbsent rows targets e = cc
not_assigned place t found.RevisionUnready rows targets e = cc
not_assigned place t (found.Ready name uid) rows targets e = cc

never_assigned : (place : ℕ) (pairs : List (Target × Found)) (rows : List Row) (targets : List Target)
    → first_hindrance place pairs ≡ Some (Assigned rows targets) → ⊥
unfolding first_hindrance
never_assigned place [] rows targets e = cc
never_assigned place (p ∷ ps) rows targets e = go (hindrance place p.0 p.1) refl e (never_assigned (suc place) ps rows targets)
  where
    go : (h : Option Resolved) → hindrance place p.0 p.1 ≡ h → option_or h (first_hindrance (place + 1) ps) ≡ Some (Assigned rows targets)
        → (first_hindrance (suc place) ps ≡ Some (Assigned rows targets) → ⊥) → ⊥
    go None f g ih = ih (ap (λ k. first_hindrance k ps) (let one : suc place ≡ place + 1 = omega arith in one) ∙ g)
    go (Some r) f g ih = not_assigned place p.0 p.1 rows targets (f ∙ g)

-- ---- the targets of a Route in a state

module _ (domain : List ℕ) (st : State) (r : Name) (asked : List Target) where
  abbrev all_meant : List Meant
  all_meant = meant_of (pairs_of stored st r asked)

  -- what is published, and for which targets
  pub record Means (rows : List Row) (targets : List Target) : Type 0 where
    pub all : assigned stored st r asked ≡ Some (meant_of (pairs_of stored st r asked))
    pub are_rows : rows ≡ assigned_rows r domain (meant_of (pairs_of stored st r asked))
    pub are_targets : targets ≡ assigned_targets r domain (meant_of (pairs_of stored st r asked))

  -- where they are Assigned, each is ready
  pub means : (rows : List Row) (targets : List Target) → resolution stored domain st r asked ≡ Assigned rows targets → Means rows targets
  unfolding resolution resolved assigned
  means rows targets e = go (first_hindrance 0 (pairs_of stored st r asked)) refl e
    where
      go : (h : Option Resolved) → first_hindrance 0 (pairs_of stored st r asked) ≡ h
          → hindered_or h (Assigned (assigned_rows r domain all_meant) (assigned_targets r domain all_meant)) ≡ Assigned rows targets
          → Means rows targets
      go None f g = record { all = ap (λ x. meant_unless x all_meant) f; are_rows = cc; are_targets = cc }
      go (Some x) f g = absurd (never_assigned 0 (pairs_of stored st r asked) rows targets (f ∙ ap Some g))

  -- where they are not, one isn't
  pub means_none : ((rows : List Row) (targets : List Target) → resolution stored domain st r asked ≡ Assigned rows targets → ⊥) → assigned stored st r asked ≡ None
  unfolding resolution resolved assigned
  means_none h = go (first_hindrance 0 (pairs_of stored st r asked)) refl h
    where
      go : (x : Option Resolved) → first_hindrance 0 (pairs_of stored st r asked) ≡ x
          → ((rows : List Row) (targets : List Target) → hindered_or (first_hindrance 0 (pairs_of stored st r asked)) (Assigned (assigned_rows r domain all_meant) (assigned_targets r domain all_meant)) ≡ Assigned rows targets → ⊥)
          → meant_unless (first_hindrance 0 (pairs_of stored st r asked)) all_meant ≡ None
      go None f g = absurd (g _ _ (ap (λ x. hindered_or x (Assigned (assigned_rows r domain all_meant) (assigned_targets r domain all_meant))) f))
      go (Some x) f g = ap (λ x. meant_unless x all_meant) f

-- ---- what a look saw

module _ (st : State) (t : Traffic) (seen : IsSeen st t) where
  pub seen_meant : (rows : List Row) (targets : List Target) → t.resolved.now ≡ Assigned rows targets
      → Means t.domain.now st t.route.now (targets_of t.object.now.body) rows targets
  seen_meant rows targets e = means t.domain.now st t.route.now (targets_of t.object.now.body) rows targets (sym seen.outcome ∙ e)

  pub seen_assigned : (rows : List Row) (targets : List Target) → t.resolved.now ≡ Assigned rows targets
      → assigned_at stored st t.route.now ≡ Some (meant_of (pairs_of stored st t.route.now (targets_of t.object.now.body)))
  unfolding assigned_at
  seen_assigned rows targets e = ap (assigned_of stored st t.route.now) seen.stands ∙ (seen_meant rows targets e).all

  pub seen_hindered : ((rows : List Row) (targets : List Target) → t.resolved.now ≡ Assigned rows targets → ⊥) → assigned_at stored st t.route.now ≡ None
  unfolding assigned_at
  seen_hindered h = ap (assigned_of stored st t.route.now) seen.stands ∙ means_none t.domain.now st t.route.now (targets_of t.object.now.body) (λ rows targets e. h rows targets (seen.outcome ∙ e))

-- ---- the Revisions that lack a pin

first_by : (st : State) (r : Name) (t : Target) (f : Found) (ms : List Meant) → first_unpinned st r (with_meant t f ms) ≡ option_or (unpinned_by st r f) (first_unpinned st r ms)
unfolding first_unpinned
first_by st r t found.ConfigurationAbsent ms = refl
first_by st r t found.ConfigurationUnready ms = refl
first_by st r t found.RevisionAbsent ms = refl
first_by st r t found.RevisionUnready ms = refl
first_by st r t (found.Ready name uid) ms = refl

-- among what the targets mean
pub among_meant : (st : State) (r : Name) (targets : List Target) → first_unpinned st r (meant_of (pairs_of stored st r targets)) ≡ unpinned_among st r (map (found_of stored st r) targets)
unfolding first_unpinned meant_of unpinned_among
among_meant st r [] = refl
among_meant st r (t ∷ ts) = first_by st r t (found_of stored st r t) (meant_of (pairs_of stored st r ts)) ∙ ap (option_or (unpinned_by st r (found_of stored st r t))) (among_meant st r ts)
