-- What is due to the name of a Route, difference by difference.
use Rattle.std.proofs.Common.{◌≡◌, ℕ, List, [], Option, Some, None, refl, sym, ap, ◌∙◌}
use Rattle.resource_types.specs.declared.names.Kind.TheVariants as kind
use Rattle.resource_types.specs.declared.names.Name.{Name}
use Rattle.resource_types.specs.declared.specification.Row.{Row}
use Rattle.resource_types.specs.declared.specification.Target.{Target}
use Rattle.resource_types.specs.declared.objects.Body.TheVariants.{Table}
use Rattle.resource_types.specs.declared.objects.Object.{Object}
use Rattle.resource_types.specs.declared.status.ObjectStatus.{ObjectStatus}
use Rattle.resource_types.specs.Objects.{pins_of, targets_of}
use Rattle.resource_types.specs.Lookups.{State}
use Rattle.control_rules.specs.declared.traffic.Resolved.TheVariants.{Assigned}
use Rattle.control_rules.specs.Standing.{standing}
use Rattle.control_rules.specs.Resolution.{stored, host_of}
use Rattle.control_rules.specs.Readings.{own_targets, route_status_in}
use Rattle.control_rules.specs.TrafficStatuses.{route_status}
use Rattle.control_rules.specs.Differences.{ObjectPlan, first_plan, status_change}
use Rattle.control_rules.specs.NextRoute.{add_pin, assigned_at, assigned_of, pin_lacking, pin_spare, published, repinned, route_next, route_orphaned, route_status_differs, table_differs, table_foreign}
use Rattle.controller_parts.proofs.Firsts.{given-none, given-some, first-some, first-none}
use Rattle.route_rec.specs.declared.traffic.Traffic.{Traffic}
use Rattle.route_rec.specs.Traffic.{IsSeen, next_by_targets, unpinned_among}
use Rattle.route_rec.proofs.Outcomes.{seen_assigned, seen_hindered, seen_meant, among_meant}

-- the first of the first two or the third is the first of all
pub first-first : (a b c : Option ObjectPlan) → first_plan (first_plan a b) c ≡ first_plan a (first_plan b c)
unfolding first_plan
first-first None b c = refl
first-first (Some plan) b c = refl

module _ (st : State) (t : Traffic) (seen : IsSeen st t) where
  -- ---- the pins

  pub lacks_none : ((rows : List Row) (targets : List Target) → t.resolved.now ≡ Assigned rows targets → ⊥) → (now : ℕ) → pin_lacking st t.route.now now ≡ None
  lacks_none h now = given-none _ (seen_hindered st t seen h)

  pub lacks_nothing : (rows : List Row) (targets : List Target) → t.resolved.now ≡ Assigned rows targets → unpinned_among st t.route.now t.found.now ≡ None → (now : ℕ)
      → pin_lacking st t.route.now now ≡ None
  lacks_nothing rows targets e none now =
      given-some _ (seen_assigned st t seen rows targets e)
      ∙ given-none _ (among_meant st t.route.now (targets_of t.object.now.body) ∙ ap (unpinned_among st t.route.now) (sym seen.meant) ∙ none)

  pub lacks : (rows : List Row) (targets : List Target) → t.resolved.now ≡ Assigned rows targets → (v : Object) → unpinned_among st t.route.now t.found.now ≡ Some v → (now : ℕ)
      → pin_lacking st t.route.now now ≡ Some (repinned v (add_pin t.route.now.name (pins_of v.body)) now)
  lacks rows targets e v some now =
      given-some _ (seen_assigned st t seen rows targets e)
      ∙ given-some _ (among_meant st t.route.now (targets_of t.object.now.body) ∙ ap (unpinned_among st t.route.now) (sym seen.meant) ∙ some)

  -- ---- the Table

  pub publishes_none : ((rows : List Row) (targets : List Target) → t.resolved.now ≡ Assigned rows targets → ⊥) → table_differs t.domain.now st t.route.now ≡ None
  publishes_none h = given-some _ seen.stands ∙ given-none _ (seen_hindered st t seen h)

  pub publishes : (rows : List Row) (targets : List Target) → t.resolved.now ≡ Assigned rows targets
      → table_differs t.domain.now st t.route.now ≡ published t.route.now (standing kind.Table t.route.now st) (Table t.object.now.meta.stamp.uid rows targets)
  publishes rows targets e =
      let meant = seen_meant st t seen rows targets e in
      given-some _ seen.stands ∙ given-some _ (seen_assigned st t seen rows targets e) ∙ rw (meant.are_rows, meant.are_targets) refl

  -- ---- the status

  pub status_as : (host : List ℕ) (shown : Option (List Target)) (s : ObjectStatus) → host ≡ host_of [] t.route.now t.domain.now
      → shown ≡ own_targets t.object.now.meta.stamp.uid (standing kind.Table t.route.now st) → s ≡ route_status t.object.now.meta.stamp.generation host t.resolved.now shown
      → s ≡ route_status_in stored t.domain.now st t.route.now t.object.now
  status_as host shown s h o e = e ∙ rw (h, o, seen.outcome) refl

  pub status_differs_by : (now : ℕ) → route_status_differs t.domain.now st t.route.now now ≡ status_change t.object.now (route_status_in stored t.domain.now st t.route.now t.object.now) now
  status_differs_by now = given-some _ seen.stands

-- ---- a Route that doesn't stand

module _ (domain : List ℕ) (st : State) (r : Name) (now : ℕ) (e : standing kind.Route r st ≡ None) where
  pub absent_nothing : next_by_targets domain st r now ≡ None
  unfolding assigned_at
  absent_nothing = first-none _ (given-none _ (ap (assigned_of stored st r) e)) ∙ first-none _ (given-none _ e) ∙ given-none _ e

-- ---- the chain

module _ (domain : List ℕ) (st : State) (r : Name) (now : ℕ) where
  pub next_orphaned : (p : ObjectPlan) → route_orphaned st r ≡ Some p → route_next domain st r now ≡ Some p
  unfolding route_next
  next_orphaned p e = first-some _ e

  pub next_foreign : (p : ObjectPlan) → route_orphaned st r ≡ None → table_foreign st r ≡ Some p → route_next domain st r now ≡ Some p
  unfolding route_next
  next_foreign p e f = first-none _ e ∙ first-some _ f

  rest : route_orphaned st r ≡ None → table_foreign st r ≡ None → route_next domain st r now ≡ first_plan (next_by_targets domain st r now) (pin_spare st r now)
  unfolding route_next
  rest e f =
      first-none _ e ∙ first-none _ f
      ∙ sym (first-first (pin_lacking st r now) (first_plan (table_differs domain st r) (route_status_differs domain st r now)) (pin_spare st r now)
      ∙ ap (first_plan (pin_lacking st r now)) (first-first (table_differs domain st r) (route_status_differs domain st r now) (pin_spare st r now)))

  pub next_by_route : (p : ObjectPlan) → route_orphaned st r ≡ None → table_foreign st r ≡ None → next_by_targets domain st r now ≡ Some p → route_next domain st r now ≡ Some p
  next_by_route p e f g = rest e f ∙ first-some _ g

  pub next_spare : route_orphaned st r ≡ None → table_foreign st r ≡ None → next_by_targets domain st r now ≡ None → route_next domain st r now ≡ pin_spare st r now
  next_spare e f g = rest e f ∙ first-none _ g

-- the plan of a copy of the Revision and of these pins is that of the Revision
pub repinned_as : (v copy : Object) (pins due : List (List ℕ)) (now : ℕ) (plan : ObjectPlan) → plan ≡ repinned copy pins now → copy ≡ v → pins ≡ due → plan ≡ repinned v due now
repinned_as v copy pins due now plan e f g = e ∙ rw (f, g) refl
