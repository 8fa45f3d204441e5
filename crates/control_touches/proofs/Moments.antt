-- To all but the Collector nothing becomes due as the moment moves.
use Rattle.std.proofs.Common.{◌≡◌, ◌≢◌, ℕ, List, Option, Some, None, refl}
use Rattle.resource_types.specs.declared.names.Kind.TheVariants as kind
use Rattle.resource_types.specs.declared.names.Controller.{Controller}
use Rattle.resource_types.specs.declared.names.Controller.TheVariants as controller
use Rattle.resource_types.specs.declared.names.Name.{Name}
use Rattle.resource_types.specs.declared.names.SlotKey.{SlotKey}
use Rattle.resource_types.specs.declared.status.ObjectStatus.{ObjectStatus}
use Rattle.resource_types.specs.declared.objects.Object.{Object}
use Rattle.resource_types.specs.Lookups.{State}
use Rattle.control_rules.specs.declared.settings.Settings.{Settings}
use Rattle.control_rules.specs.Standing.{standing}
use Rattle.control_rules.specs.Differences.{ObjectPlan, first_plan, given, status_change}
use Rattle.control_rules.specs.NextService.{configuration_missing, template_differs, route_missing, targets_differ, service_next}
use Rattle.control_rules.specs.NextConfiguration.{configuration_orphaned, revision_missing, configuration_next}
use Rattle.control_rules.specs.NextRevision.{revision_orphaned, revision_next}
use Rattle.control_rules.specs.NextRoute.{first_spare, assigned_at, first_unpinned, route_orphaned, table_foreign, pin_lacking, table_differs, route_status_differs, pin_spare, route_next}
use Rattle.control_rules.specs.Next.{next_of, next_write}
use Rattle.control_touches.proofs.Revisions.{when_none, none_when, first_none, none_first}

-- whether a status is written doesn't depend on the moment
status_later : (o : Object) (s : ObjectStatus) (m n : ℕ) → status_change o s m ≡ None → status_change o s n ≡ None
status_later o s m n h = none_when _ _ (when_none _ _ h)

-- nor whether a plan is there
given_later : {A : Type 0} (o : Option A) (f g : A → Option ObjectPlan) → ((a : A) → f a ≡ None → g a ≡ None) → given o f ≡ None → given o g ≡ None
unfolding given
given_later None f g h e = refl
given_later (Some a) f g h e = h a e

first_later : (x y z : Option ObjectPlan) → (y ≡ None → z ≡ None) → first_plan x y ≡ None → first_plan x z ≡ None
first_later x y z f e = let t = first_none x y e in none_first x z t.0 (f t.1)

pub service_later : (st : State) (n : Name) (a b : ℕ) → service_next st n a ≡ None → service_next st n b ≡ None
unfolding service_next
service_later st n a b =
    given_later (standing kind.Service n st) _ _ (λ s.
    first_later (configuration_missing st n s) _ _
    (first_later (template_differs st n s) _ _
    (first_later (route_missing st n s) _ _
    (first_later (targets_differ st n s) _ _
    (status_later s _ a b)))))

pub configuration_later : (st : State) (n : Name) (a b : ℕ) → configuration_next st n a ≡ None → configuration_next st n b ≡ None
unfolding configuration_next
configuration_later st n a b =
    given_later (standing kind.Configuration n st) _ _ (λ c.
    first_later (configuration_orphaned st c) _ _
    (first_later (revision_missing st c) _ _
    (status_later c _ a b)))

pub revision_later : (st : State) (n : Name) (a b : ℕ) → revision_next st n a ≡ None → revision_next st n b ≡ None
unfolding revision_next
revision_later st n a b =
    given_later (standing kind.Revision n st) _ _ (λ v.
    first_later (revision_orphaned st n v) _ _
    (status_later v _ a b))

pub route_later : (domain : List ℕ) (st : State) (r : Name) (a b : ℕ) → route_next domain st r a ≡ None → route_next domain st r b ≡ None
unfolding route_next
route_later domain st r a b h =
    let one = first_none (route_orphaned st r) _ h in
    let two = first_none (table_foreign st r) _ one.1 in
    let three = first_none (pin_lacking st r a) _ two.1 in
    let four = first_none (table_differs domain st r) _ three.1 in
    let five = first_none (route_status_differs domain st r a) (pin_spare st r a) four.1 in
    none_first (route_orphaned st r) _ one.0
    (none_first (table_foreign st r) _ two.0
    (none_first (pin_lacking st r b) _ (given_later (assigned_at _ st r) _ _ (λ ms. given_later (first_unpinned st r ms) _ _ (λ v e. absurd cc)) three.0)
    (none_first (table_differs domain st r) _ four.0
    (none_first (route_status_differs domain st r b) (pin_spare st r b) (given_later (standing kind.Route r st) _ _ (λ o. status_later o _ a b) five.0)
    (given_later (first_spare st r) _ _ (λ v e. absurd cc) five.1)))))

pub next_later : (settings : Settings) (pick : SlotKey) (st : State) (a b : ℕ) → (pick.controller ≢ controller.Collector) → next_write settings pick st a ≡ None → next_write settings pick st b ≡ None
unfolding next_write
next_later settings pick st a b other = go pick.controller refl
  where
    go : (c : Controller) → pick.controller ≡ c → next_of settings c pick.name st a ≡ None → next_of settings c pick.name st b ≡ None
    go controller.Service e = service_later st pick.name a b
    go controller.Configuration e = configuration_later st pick.name a b
    go controller.Revision e = revision_later st pick.name a b
    go controller.Collector e = absurd (other e)
    go controller.Route e = route_later settings.domain st pick.name a b
