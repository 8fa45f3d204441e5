-- What the Table of a Route names, where it is the one that is to be published.
use Rattle.std.proofs.Common.{◌≡◌, ℕ, Bool, true, false, cond, not, List, [], ◌∷◌, ◌++◌, map, Option, Some, None, bytes_eq, refl, ap, ◌∙◌}
use Rattle.resource_types.specs.declared.names.Kind.TheVariants as kind
use Rattle.resource_types.specs.declared.names.Name.{Name}
use Rattle.resource_types.specs.declared.specification.Row.{Row}
use Rattle.resource_types.specs.declared.objects.Object.{Object}
use Rattle.resource_types.specs.Lookups.{State}
use Rattle.control_rules.specs.Standing.{listed, standing, read, target_names, published_of, published_at}
use Rattle.control_rules.specs.Resolution.{Meant, stored, assigned_rows, assigned_targets, published_target}
use Rattle.control_rules.specs.Differences.{replacement}
use Rattle.control_rules.specs.NextRoute.{assigned_at, table_of, same_body, published, table_differs}
use Rattle.control_rules.proofs.Same.{same_body-exact}
use Rattle.control_settle.proofs.Machine.{In, First, Later}
use Rattle.control_entries.proofs.Tests.{not_false, bytes_self}
use Rattle.control_settle.proofs.Deeds.{when_none}
use Rattle.control_settle.proofs.Rests.{given_none}
use Rattle.control_settle.proofs.Grounded.{Assigned, assigned_is}

pub listed_behind : (x : List ℕ) (xs ys : List (List ℕ)) → listed x ys ≡ true → listed x (xs ++ ys) ≡ true
unfolding listed
listed_behind x [] ys h = h
listed_behind x (z ∷ xs) ys h = go (bytes_eq x z) (listed_behind x xs ys h)
  where
    go : (t : Bool) → listed x (xs ++ ys) ≡ true → cond t true (listed x (xs ++ ys)) ≡ true
    go true ih = refl
    go false ih = ih

listed_meant : (r : Name) (domain : List ℕ) (ms : List Meant) (m : Meant) → In m ms → listed m.name (target_names (map (published_target r domain) ms)) ≡ true
unfolding listed
listed_meant r domain (n ∷ ms) m (Later i) = go (bytes_eq m.name n.name) (listed_meant r domain ms m i)
  where
    go : (t : Bool) → listed m.name (target_names (map (published_target r domain) ms)) ≡ true → cond t true (listed m.name (target_names (map (published_target r domain) ms))) ≡ true
    go true ih = refl
    go false ih = ih
listed_meant r domain (_ ∷ ms) m First = ap (λ t. cond t true (listed m.name (target_names (map (published_target r domain) ms)))) (bytes_self m.name)
listed_meant r domain [] m i = elim i [ ]

-- the Table that stands is the one that is to be published
pub record IsPublished (domain : List ℕ) (st : State) (r : Name) (ms : List Meant) : Type 0 where
  pub route : Object
  pub stands : standing kind.Route r st ≡ Some route
  pub table : Object
  pub at : standing kind.Table r st ≡ Some table
  pub body : table.body ≡ table_of r domain route ms

pub is_published : (domain : List ℕ) (st : State) (r : Name) (ms : List Meant) → assigned_at stored st r ≡ Some ms → table_differs domain st r ≡ None → IsPublished domain st r ms
unfolding published
is_published domain st r ms all level = go (standing kind.Table r st) refl (given_none (assigned_at stored st r) _ ms all (given_none (standing kind.Route r st) _ a.route a.stands level))
  where
    a : Assigned st r ms
    a = assigned_is st r ms all

    go : (w : Option Object) → standing kind.Table r st ≡ w → published r w (table_of r domain a.route ms) ≡ None → IsPublished domain st r ms
    go None s e = absurd cc
    go (Some t) s e = record { route = a.route; stands = a.stands; table = t; at = s; body = same_body-exact t.body (table_of r domain a.route ms) (not_false (when_none (not (same_body t.body (table_of r domain a.route ms))) (replacement t (table_of r domain a.route ms)) e)) }

-- each Revision that a target means is named
pub meant_published : (domain : List ℕ) (st : State) (r : Name) (ms : List Meant) → IsPublished domain st r ms → (m : Meant) → In m ms → listed m.name (published_at st r) ≡ true
meant_published domain st r ms p m i =
    ap (λ w. listed m.name (read [] published_of w)) p.at ∙ ap (λ b. listed m.name (published_of b)) p.body
    ∙ listed_behind m.name (map (λ (row : Row). row.revision) (assigned_rows r domain ms)) (target_names (assigned_targets r domain ms)) (listed_meant r domain ms m i)
