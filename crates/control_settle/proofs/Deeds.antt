-- Each plan of a controller is one of these deeds.
use Rattle.std.proofs.Common.{◌≡◌, ℕ, Bool, true, false, List, Some, None, refl}
use Rattle.resource_types.specs.declared.names.Kind.TheVariants as kind
use Rattle.resource_types.specs.declared.names.Controller.{Controller}
use Rattle.resource_types.specs.declared.names.Controller.TheVariants as controller
use Rattle.resource_types.specs.declared.names.Name.{Name}
use Rattle.resource_types.specs.declared.objects.Body.TheVariants.{Configuration, Route}
use Rattle.resource_types.specs.declared.objects.Object.{Object}
use Rattle.resource_types.specs.Objects.{no_status, has_been_ready, pins_of, status_of, targets_of}
use Rattle.resource_types.specs.Lookups.{State, is_free}
use Rattle.control_rules.specs.declared.settings.Settings.{Settings}
use Rattle.control_rules.specs.Standing.{standing, is_owned_by_uid, is_orphan, template_of, with_template, with_targets, with_status}
use Rattle.control_rules.specs.Resolution.{Meant, stored}
use Rattle.control_rules.specs.Collection.{collection_choice}
use Rattle.control_rules.specs.Readings.{stored_status, revision_name, revision_status_in, configuration_status_in, route_status_in, service_status_in}
use Rattle.control_rules.specs.Differences.{ObjectPlan, when, creation, replacement, removal, guarded_removal, same_untimed, timed}
use Rattle.control_rules.specs.NextService.{made_child, same_template, same_targets, converted, configuration_missing, template_differs, route_missing, targets_differ, service_next}
use Rattle.control_rules.specs.NextConfiguration.{made_revision, revision_missing, configuration_next}
use Rattle.control_rules.specs.NextRevision.{revision_next}
use Rattle.control_rules.specs.NextCollector.{collector_next}
use Rattle.control_rules.specs.NextRoute.{add_pin, drop_pin, repinned, first_unpinned, first_spare, assigned_at, is_own_table, table_of, published, table_foreign, pin_lacking, table_differs, route_status_differs, route_next}
use Rattle.control_rules.specs.Next.{next_of}
use Rattle.control_rules.proofs.Plans.{IfPlanned, if_some, if_first, if_when, if_given, if_missing}
use Rattle.resource_types.proofs.Exact.{left, right}
use Rattle.control_entries.proofs.Tests.{not_true}

pub when_none : (b : Bool) (p : ObjectPlan) → when b p ≡ None → b ≡ false
unfolding when
when_none true p e = absurd cc
when_none false p e = refl

-- of the Service controller
pub data ServiceDeed (settings : Settings) (now : ℕ) (st : State) (n : Name) (p : ObjectPlan) : Type 0 where
  MakesConfiguration : (s : Object) → standing kind.Service n st ≡ Some s → standing kind.Configuration n st ≡ None
      → p ≡ made_child n s kind.Configuration (Configuration (template_of s.body) no_status) → ServiceDeed settings now st n p
  Respecifies : (s o : Object) → standing kind.Service n st ≡ Some s → standing kind.Configuration n st ≡ Some o → is_owned_by_uid s.meta.stamp.uid o ≡ true
      → same_template (template_of o.body) (template_of s.body) ≡ false → p ≡ replacement o (with_template (template_of s.body) o.body) → ServiceDeed settings now st n p
  MakesRoute : (s : Object) → standing kind.Service n st ≡ Some s → configuration_missing st n s ≡ None → template_differs st n s ≡ None → standing kind.Route n st ≡ None
      → p ≡ made_child n s kind.Route (Route (converted n s) no_status) → ServiceDeed settings now st n p
  Retargets : (s o : Object) → standing kind.Service n st ≡ Some s → configuration_missing st n s ≡ None → template_differs st n s ≡ None → standing kind.Route n st ≡ Some o
      → is_owned_by_uid s.meta.stamp.uid o ≡ true → same_targets (targets_of o.body) (converted n s) ≡ false → p ≡ replacement o (with_targets (converted n s) o.body) → ServiceDeed settings now st n p
  StatesService : (s : Object) → standing kind.Service n st ≡ Some s → configuration_missing st n s ≡ None → template_differs st n s ≡ None → route_missing st n s ≡ None → targets_differ st n s ≡ None
      → same_untimed (status_of s.body) (service_status_in stored_status stored_status st n s) ≡ false
      → p ≡ replacement s (with_status (timed (status_of s.body) (service_status_in stored_status stored_status st n s) now) s.body) → ServiceDeed settings now st n p

-- of the Configuration controller
pub data ConfigurationDeed (settings : Settings) (now : ℕ) (st : State) (n : Name) (p : ObjectPlan) : Type 0 where
  RemovesConfiguration : (o : Object) → standing kind.Configuration n st ≡ Some o → is_orphan st o ≡ true → p ≡ removal o → ConfigurationDeed settings now st n p
  MakesRevision : (o : Object) → standing kind.Configuration n st ≡ Some o → is_orphan st o ≡ false → standing kind.Revision (revision_name o) st ≡ None → p ≡ creation (made_revision o) → ConfigurationDeed settings now st n p
  StatesConfiguration : (o : Object) → standing kind.Configuration n st ≡ Some o → is_orphan st o ≡ false → revision_missing st o ≡ None
      → same_untimed (status_of o.body) (configuration_status_in has_been_ready stored_status st o) ≡ false
      → p ≡ replacement o (with_status (timed (status_of o.body) (configuration_status_in has_been_ready stored_status st o) now) o.body) → ConfigurationDeed settings now st n p

-- of the Revision controller
pub data RevisionDeed (settings : Settings) (now : ℕ) (st : State) (n : Name) (p : ObjectPlan) : Type 0 where
  RemovesRevision : (v : Object) → standing kind.Revision n st ≡ Some v → is_orphan st v ≡ true → is_free st n ≡ true → p ≡ guarded_removal v → RevisionDeed settings now st n p
  StatesRevision : (v : Object) → standing kind.Revision n st ≡ Some v → same_untimed (status_of v.body) (revision_status_in st v) ≡ false
      → p ≡ replacement v (with_status (timed (status_of v.body) (revision_status_in st v) now) v.body) → RevisionDeed settings now st n p

-- of the Collector
pub data CollectorDeed (settings : Settings) (now : ℕ) (st : State) (n : Name) (p : ObjectPlan) : Type 0 where
  Collects : (o v : Object) → standing kind.Configuration n st ≡ Some o → collection_choice has_been_ready settings.gc st o now ≡ Some v → p ≡ guarded_removal v → CollectorDeed settings now st n p

-- of the Route controller
pub data RouteDeed (settings : Settings) (now : ℕ) (st : State) (n : Name) (p : ObjectPlan) : Type 0 where
  RemovesRoute : (o : Object) → standing kind.Route n st ≡ Some o → is_orphan st o ≡ true → p ≡ removal o → RouteDeed settings now st n p
  Unpublishes : (t : Object) → standing kind.Table n st ≡ Some t → is_own_table (standing kind.Route n st) t ≡ false → p ≡ removal t → RouteDeed settings now st n p
  Pins : (ms : List Meant) (v : Object) → table_foreign st n ≡ None → assigned_at stored st n ≡ Some ms → first_unpinned st n ms ≡ Some v → p ≡ repinned v (add_pin n.name (pins_of v.body)) now → RouteDeed settings now st n p
  Publishes : (o : Object) (ms : List Meant) → table_foreign st n ≡ None → pin_lacking st n now ≡ None → standing kind.Route n st ≡ Some o → assigned_at stored st n ≡ Some ms
      → published n (standing kind.Table n st) (table_of n settings.domain o ms) ≡ Some p → RouteDeed settings now st n p
  StatesRoute : (o : Object) → table_foreign st n ≡ None → pin_lacking st n now ≡ None → table_differs settings.domain st n ≡ None → standing kind.Route n st ≡ Some o
      → same_untimed (status_of o.body) (route_status_in stored settings.domain st n o) ≡ false
      → p ≡ replacement o (with_status (timed (status_of o.body) (route_status_in stored settings.domain st n o) now) o.body) → RouteDeed settings now st n p
  Unpins : (v : Object) → table_foreign st n ≡ None → pin_lacking st n now ≡ None → table_differs settings.domain st n ≡ None → route_status_differs settings.domain st n now ≡ None
      → first_spare st n ≡ Some v → p ≡ repinned v (drop_pin n.name (pins_of v.body)) now → RouteDeed settings now st n p

-- by the controller
abbrev pub Deed : Settings → ℕ → State → Controller → Name → ObjectPlan → Type 0
Deed settings now st controller.Service n p = ServiceDeed settings now st n p
Deed settings now st controller.Configuration n p = ConfigurationDeed settings now st n p
Deed settings now st controller.Revision n p = RevisionDeed settings now st n p
Deed settings now st controller.Collector n p = CollectorDeed settings now st n p
Deed settings now st controller.Route n p = RouteDeed settings now st n p

module _ (settings : Settings) (now : ℕ) (st : State) (n : Name) where
  service_deed : IfPlanned (ServiceDeed settings now st n) (service_next st n now)
  unfolding service_next
  service_deed =
      if_given (λ s stands.
      if_first (if_missing _ (λ none. MakesConfiguration s stands none refl)) (λ made.
      if_first (if_given (λ o at. if_when _ (λ d. Respecifies s o stands at (left _ _ d) (not_true (right _ _ d)) refl))) (λ specified.
      if_first (if_missing _ (λ none. MakesRoute s stands made specified none refl)) (λ routed.
      if_first (if_given (λ o at. if_when _ (λ d. Retargets s o stands made specified at (left _ _ d) (not_true (right _ _ d)) refl))) (λ targeted.
      if_when _ (λ d. StatesService s stands made specified routed targeted (not_true d) refl))))))

  configuration_deed : IfPlanned (ConfigurationDeed settings now st n) (configuration_next st n now)
  unfolding configuration_next
  configuration_deed =
      if_given (λ o stands.
      if_first (if_when _ (λ d. RemovesConfiguration o stands d refl)) (λ kept.
      if_first (if_missing _ (λ none. MakesRevision o stands (unorphaned o kept) none refl)) (λ made.
      if_when _ (λ d. StatesConfiguration o stands (unorphaned o kept) made (not_true d) refl))))
    where
      unorphaned : (o : Object) → when (is_orphan st o) (removal o) ≡ None → is_orphan st o ≡ false
      unorphaned o e = when_none (is_orphan st o) (removal o) e

  revision_deed : IfPlanned (RevisionDeed settings now st n) (revision_next st n now)
  unfolding revision_next
  revision_deed =
      if_given (λ v stands.
      if_first (if_when _ (λ d. RemovesRevision v stands (left _ _ d) (right _ _ d) refl)) (λ _.
      if_when _ (λ d. StatesRevision v stands (not_true d) refl)))

  collector_deed : IfPlanned (CollectorDeed settings now st n) (collector_next settings.gc st n now)
  unfolding collector_next
  collector_deed = if_given (λ o stands. if_given (λ v chosen. if_some _ (Collects o v stands chosen refl)))

  route_deed : IfPlanned (RouteDeed settings now st n) (route_next settings.domain st n now)
  unfolding route_next
  route_deed =
      if_first (if_given (λ o stands. if_when _ (λ d. RemovesRoute o stands d refl))) (λ _.
      if_first (if_given (λ t stands. if_when _ (λ d. Unpublishes t stands (not_true d) refl))) (λ own.
      if_first (if_given (λ ms all. if_given (λ v lacks. if_some _ (Pins ms v own all lacks refl)))) (λ pinned.
      if_first (if_given (λ o stands. if_given (λ ms all. record { says = λ p e. Publishes o ms own pinned stands all e }))) (λ level.
      if_first (if_given (λ o stands. if_when _ (λ d. StatesRoute o own pinned level stands (not_true d) refl))) (λ said.
      if_given (λ v spare. if_some _ (Unpins v own pinned level said spare refl)))))))

pub deed : (settings : Settings) (now : ℕ) (st : State) (c : Controller) (n : Name) → IfPlanned (Deed settings now st c n) (next_of settings c n st now)
deed settings now st controller.Service n = service_deed settings now st n
deed settings now st controller.Configuration n = configuration_deed settings now st n
deed settings now st controller.Revision n = revision_deed settings now st n
deed settings now st controller.Collector n = collector_deed settings now st n
deed settings now st controller.Route n = route_deed settings now st n
