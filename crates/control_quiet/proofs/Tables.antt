-- In a quiet state each Table is its Route's, and a Route whose targets are all ready has the Table of what they come to.
use Rattle.std.proofs.Common.{◌≡◌, ℕ, suc, ◌+◌, arith, true, List, [], ◌∷◌, Option, Some, None, refl, ap, ◌∙◌}
use Rattle.resource_types.specs.declared.names.Kind.TheVariants as kind
use Rattle.resource_types.specs.declared.names.Name.{Name}
use Rattle.resource_types.specs.declared.specification.Row.{Row}
use Rattle.resource_types.specs.declared.specification.Target.{Target}
use Rattle.resource_types.specs.declared.objects.Body.{Body}
use Rattle.resource_types.specs.declared.objects.Body.TheVariants.{Table}
use Rattle.resource_types.specs.declared.objects.Object.{Object}
use Rattle.resource_types.specs.Objects.{targets_of}
use Rattle.resource_types.specs.Lookups.{State}
use Rattle.control_rules.specs.declared.traffic.Found.{Found}
use Rattle.control_rules.specs.declared.traffic.Found.TheVariants as found
use Rattle.control_rules.specs.declared.traffic.Resolved.{Resolved}
use Rattle.control_rules.specs.declared.traffic.Resolved.TheVariants.{Assigned}
use Rattle.control_rules.specs.Standing.{standing}
use Rattle.control_rules.specs.Resolution.{Meant, Reading, stored, hindrance, first_hindrance, meant_of, assigned_rows, assigned_targets, hindered_or, resolved, pairs_of, resolution, meant_unless, assigned}
use Rattle.std.specs.Option.{option_or}
use Rattle.control_rules.specs.NextRoute.{assigned_of, assigned_at, is_own_table, table_of, published, table_foreign, table_differs}
use Rattle.control_rules.specs.Final.{HasRoute, HasTable}
use Rattle.control_rules.proofs.Same.{same_body-exact}
use Rattle.control_quiet.proofs.Differences.{none_when, none_given}
use Rattle.control_entries.proofs.Tests.{not_false}

-- ---- the Table's Route

pub table_route : (st : State) (n : Name) (t : Object) → table_foreign st n ≡ None → standing kind.Table n st ≡ Some t → HasRoute st n t
table_route st n t h e = go (standing kind.Route n st) refl (not_false (none_when _ _ (none_given (standing kind.Table n st) t _ e h)))
  where
    go : (o : Option Object) → standing kind.Route n st ≡ o → is_own_table o t ≡ true → HasRoute st n t
    go None f own = absurd cc
    go (Some o) f own = record { route = o; stands = f; own = own }

-- ---- what the targets come to

-- a target is never hindered by rows
not_assigned : (place : ℕ) (t : Target) (f : Found) (rows : List Row) (targets : List Target) → hindrance place t f ≡ Some (Assigned rows targets) → ⊥
not_assigned place t found.ConfigurationAbsent rows targets e = cc
not_assigned place t found.ConfigurationUnready rows targets e = cc
not_assigned place t found.RevisionAbsent rows targets e = cc
not_assigned place t found.RevisionUnready rows targets e = cc
not_assigned place t (found.Ready name uid) rows targets e = cc

never_assigned : (place : ℕ) (pairs : List (Target × Found)) (rows : List Row) (targets : List Target)
    → first_hindrance place pairs ≡ Some (Assigned rows targets) → ⊥
unfolding first_hindrance
never_assigned place [] rows targets e = cc
never_assigned place (p ∷ ps) rows targets e = go (hindrance place p.0 p.1) refl e (never_assigned (suc place) ps rows targets)
  where
    go : (h : Option Resolved) → hindrance place p.0 p.1 ≡ h → option_or h (first_hindrance (place + 1) ps) ≡ Some (Assigned rows targets)
        → (first_hindrance (suc place) ps ≡ Some (Assigned rows targets) → ⊥) → ⊥
    go None f g ih = ih (ap (λ k. first_hindrance k ps) (let one : suc place ≡ place + 1 = omega arith in one) ∙ g)
    go (Some r) f g ih = not_assigned place p.0 p.1 rows targets (f ∙ g)

-- the targets with their Revisions, where they come to these rows and targets
pub record Means (reading : Reading) (domain : List ℕ) (st : State) (r : Name) (asked : List Target) (rows : List Row) (targets : List Target) : Type 0 where
  pub meant : List Meant
  pub all : assigned reading st r asked ≡ Some meant
  pub are_rows : assigned_rows r domain meant ≡ rows
  pub are_targets : assigned_targets r domain meant ≡ targets

pub means : (reading : Reading) (domain : List ℕ) (st : State) (r : Name) (asked : List Target) (rows : List Row) (targets : List Target)
    → resolution reading domain st r asked ≡ Assigned rows targets → Means reading domain st r asked rows targets
unfolding resolution resolved assigned
means reading domain st r asked rows targets e = go (first_hindrance 0 (pairs_of reading st r asked)) refl e
  where
    all_meant : List Meant
    all_meant = meant_of (pairs_of reading st r asked)

    go : (h : Option Resolved) → first_hindrance 0 (pairs_of reading st r asked) ≡ h
        → hindered_or h (Assigned (assigned_rows r domain all_meant) (assigned_targets r domain all_meant)) ≡ Assigned rows targets
        → Means reading domain st r asked rows targets
    go None f g = record { meant = all_meant; all = ap (λ x. meant_unless x all_meant) f; are_rows = cc; are_targets = cc }
    go (Some x) f g = absurd (never_assigned 0 (pairs_of reading st r asked) rows targets (f ∙ ap Some g))

-- ---- the Route's Table

published_none : (r : Name) (t : Option Object) (b : Body) → published r t b ≡ None → (o : Object) × (t ≡ Some o) × (o.body ≡ b)
unfolding published
published_none r None b h = absurd cc
published_none r (Some o) b h = (o, refl, same_body-exact o.body b (not_false (none_when _ _ h)))

pub route_table : (domain : List ℕ) (st : State) (n : Name) (r : Object) (rows : List Row) (targets : List Target)
    → table_differs domain st n ≡ None → standing kind.Route n st ≡ Some r
    → resolution stored domain st n (targets_of r.body) ≡ Assigned rows targets → HasTable st n r rows targets
unfolding assigned_at
route_table domain st n r rows targets h e a = go (means stored domain st n (targets_of r.body) rows targets a)
  where
    go : Means stored domain st n (targets_of r.body) rows targets → HasTable st n r rows targets
    go m = at (published_none n (standing kind.Table n st) (table_of n domain r m.meant)
        (none_given (assigned_at stored st n) m.meant _ (ap (assigned_of stored st n) e ∙ m.all) (none_given (standing kind.Route n st) r _ e h)))
      where
        at : (o : Object) × (standing kind.Table n st ≡ Some o) × (o.body ≡ table_of n domain r m.meant) → HasTable st n r rows targets
        at t = record { table = t.0; stands = t.1; body = t.2 ∙ (λ i. Table r.meta.stamp.uid (m.are_rows i) (m.are_targets i)) }
