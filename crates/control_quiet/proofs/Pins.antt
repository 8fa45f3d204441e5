-- In a quiet state a Revision carries the pin of a Route only where the Table of that name names it.
use Rattle.std.proofs.Common.{◌≡◌, ℕ, Bool, true, false, not, ◌||◌, List, [], cond, bytes_eq, Option, Some, None, refl, ap, ◌∙◌, subst}
use Rattle.std.specs.Prelude.{map}
use Rattle.resource_types.specs.declared.names.Kind.TheVariants as kind
use Rattle.resource_types.specs.declared.names.Name.{Name}
use Rattle.resource_types.specs.declared.specification.Row.{Row}
use Rattle.resource_types.specs.declared.objects.Body.{Body}
use Rattle.resource_types.specs.declared.objects.Body.TheVariants.{Service, Configuration, Revision, Route, Health, Table}
use Rattle.resource_types.specs.declared.objects.Object.{Object}
use Rattle.resource_types.specs.Objects.{same_kind, no_status, pins_of, status_of}
use Rattle.resource_types.specs.Lookups.{State, of_kind}
use Rattle.resource_types.proofs.Exact.{left}
use Rattle.control_rules.specs.Standing.{beside, key_at, listed, read, standing, is_table_of, target_names, published_targets, published_of, pins_at, published_at, traffic_at}
use Rattle.control_rules.specs.Resolution.{stored}
use Rattle.control_rules.specs.TrafficStatuses.{published_or_none, route_status}
use Rattle.control_rules.specs.Readings.{own_targets, route_status_in}
use Rattle.control_rules.specs.Differences.{ObjectPlan, given, untimed}
use Rattle.control_rules.specs.NextRoute.{is_spare, first_spare, pin_spare, route_status_differs}
use Rattle.control_entries.proofs.Tests.{both, not_both, false_from, bytes_self, listed_none, listed_right}
use Rattle.control_quiet.proofs.Differences.{none_given}
use Rattle.control_entries.proofs.Each.{Each, each_unless, none_found}
use Rattle.control_entries.proofs.Standing.{Stands, stands, each_found}
use Rattle.control_quiet.proofs.Quiet.{none_status}

-- ---- what the status of the Route names, its Table names

published-targets : (b : Body) (x : List ℕ) → listed x (target_names (published_targets b)) ≡ true → listed x (published_of b) ≡ true
published-targets (Service template traffic status) x h = h
published-targets (Configuration template status) x h = h
published-targets (Revision spec generation pins active status) x h = h
published-targets (Route traffic status) x h = h
published-targets (Health uid resources container ever) x h = h
published-targets (Table route rows targets) x h = listed_right x (map (λ (r : Row). r.revision) rows) (target_names targets) h

own-published : (uid : ℕ) (t : Option Object) (x : List ℕ) → listed x (target_names (published_or_none (own_targets uid t))) ≡ true
    → listed x (read [] published_of t) ≡ true
own-published uid None x h = h
own-published uid (Some t) x h = go (is_table_of uid t.body) h
  where
    go : (b : Bool) → listed x (target_names (published_or_none (cond b (Some (published_targets t.body)) None))) ≡ true
        → listed x (published_of t.body) ≡ true
    go true l = published-targets t.body x l
    go false l = absurd (listed_none x l)

-- what a status of a Route names
status-traffic : (domain : List ℕ) (st : State) (r : Name) (o : Object)
    → (untimed (route_status_in stored domain st r o)).traffic ≡ published_or_none (own_targets o.meta.stamp.uid (standing kind.Table r st))
unfolding route_status
status-traffic domain st r o = refl

pub served-published : (domain : List ℕ) (st : State) (r : Name) (now : ℕ) → route_status_differs domain st r now ≡ None → (x : List ℕ)
    → listed x (traffic_at st r) ≡ true → listed x (published_at st r) ≡ true
served-published domain st r now h x l = go (standing kind.Route r st) refl l
  where
    go : (o : Option Object) → standing kind.Route r st ≡ o → listed x (target_names (read no_status status_of o).traffic) ≡ true
        → listed x (published_at st r) ≡ true
    go None e t = absurd (listed_none x t)
    go (Some o) e t = own-published o.meta.stamp.uid (standing kind.Table r st) x
        (subst (λ ts. listed x (target_names ts) ≡ true) (ap (λ s. s.traffic) (none_status o _ now (none_given (standing kind.Route r st) o _ e h)) ∙ status-traffic domain st r o) t)

-- ---- no pin is spare

none_spare : (v : Option Object) (f : Object → ObjectPlan) → given v (λ o. Some (f o)) ≡ None → v ≡ None
unfolding given
none_spare None f h = refl
none_spare (Some v) f h = absurd cc

-- each Revision that stands is not spare
pub not_spare : (st : State) (r : Name) (now : ℕ) → pin_spare st r now ≡ None
    → Each (λ o. same_kind o.key.kind kind.Revision ≡ true → is_spare st r o ≡ false) st
unfolding first_spare
not_spare st r now h = each_unless (λ o. is_spare st r o ≡ false) (λ (o : Object). same_kind o.key.kind kind.Revision) st
    (none_found (is_spare st r) (of_kind kind.Revision st) (none_spare (first_spare st r) _ h))

-- a Revision with a pin that neither the Table nor the status names is spare
spare_by : (st : State) (r : Name) (x : List ℕ) (v : Object) → standing kind.Revision (beside r x) st ≡ Some v
    → listed r.name (pins_of v.body) ≡ true → listed x (published_at st r) ≡ false → listed x (traffic_at st r) ≡ false → is_spare st r v ≡ true
unfolding is_spare
spare_by st r x v e pinned p t = both (both s.of space) (both pinned unnamed)
  where
    s : Stands kind.Revision (beside r x) st v
    s = stands kind.Revision (beside r x) st v e

    space : bytes_eq v.key.name.space r.space ≡ true
    space = ap (λ k. bytes_eq k.name.space r.space) s.key ∙ bytes_self r.space

    unnamed : not (listed v.key.name.name (published_at st r) || listed v.key.name.name (traffic_at st r)) ≡ true
    unnamed = ap (λ k. not (listed k.name.name (published_at st r) || listed k.name.name (traffic_at st r))) s.key ∙ rw (p, t) refl

pub pinned-published : (domain : List ℕ) (st : State) (r : Name) (now : ℕ) → route_status_differs domain st r now ≡ None
    → pin_spare st r now ≡ None → (x : List ℕ) → listed r.name (pins_at st (beside r x)) ≡ true → listed x (published_at st r) ≡ true
pinned-published domain st r now level spare x pinned = go (listed x (published_at st r)) refl
  where
    at : (v : Option Object) → standing kind.Revision (beside r x) st ≡ v → listed r.name (read [] pins_of v) ≡ true
        → listed x (published_at st r) ≡ false → ⊥
    at None e l f = listed_none r.name l
    at (Some v) e l f = not_both
        (spare_by st r x v e l f (false_from (λ t. not_both (served-published domain st r now level x t) f)))
        (each_found _ (key_at kind.Revision (beside r x)) st v (not_spare st r now spare) (stands kind.Revision (beside r x) st v e).found (left _ _ (stands kind.Revision (beside r x) st v e).of))

    go : (b : Bool) → listed x (published_at st r) ≡ b → listed x (published_at st r) ≡ true
    go true e = e
    go false e = absurd (at (standing kind.Revision (beside r x) st) refl pinned e)
