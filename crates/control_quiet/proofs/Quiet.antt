-- What there is not in a quiet state, difference by difference.
use Rattle.std.proofs.Common.{◌≡◌, ℕ, List, Option, Some, None, refl}
use Rattle.resource_types.specs.declared.names.Kind.TheVariants as kind
use Rattle.resource_types.specs.declared.names.Controller.TheVariants as controller
use Rattle.resource_types.specs.declared.names.Name.{Name}
use Rattle.resource_types.specs.declared.status.ObjectStatus.{ObjectStatus}
use Rattle.resource_types.specs.declared.objects.Object.{Object}
use Rattle.resource_types.specs.Objects.{has_been_ready, status_of}
use Rattle.resource_types.specs.Lookups.{State}
use Rattle.control_rules.specs.declared.settings.Settings.{Settings}
use Rattle.control_rules.specs.Standing.{standing}
use Rattle.control_rules.specs.Collection.{collection_choice}
use Rattle.control_rules.specs.Differences.{given, guarded_removal, untimed, status_change}
use Rattle.control_rules.specs.NextService.{configuration_missing, template_differs, route_missing, targets_differ, service_status_differs, service_next}
use Rattle.control_rules.specs.NextConfiguration.{configuration_orphaned, revision_missing, configuration_status_differs, configuration_next}
use Rattle.control_rules.specs.NextRevision.{revision_orphaned, revision_status_differs, revision_next}
use Rattle.control_rules.specs.NextCollector.{collector_next}
use Rattle.control_rules.specs.NextRoute.{route_orphaned, table_foreign, pin_lacking, table_differs, route_status_differs, pin_spare, route_next}
use Rattle.control_rules.specs.Next.{next_write}
use Rattle.control_rules.specs.Slots.{slot_key}
use Rattle.control_rules.specs.Quiet.{IsQuiet}
use Rattle.control_rules.proofs.Same.{same_untimed-exact}
use Rattle.control_quiet.proofs.Differences.{none_first, none_when, none_given}
use Rattle.control_entries.proofs.Tests.{not_false}

-- a status that is not to change is the new one, apart from times
pub none_status : (o : Object) (new : ObjectStatus) (now : ℕ) → status_change o new now ≡ None → untimed (status_of o.body) ≡ untimed new
none_status o new now h = same_untimed-exact (status_of o.body) new (not_false (none_when _ _ h))

-- the Revision that is chosen is removed, so none is chosen
none_chosen : (v : Option Object) → given v (λ o. Some (guarded_removal o)) ≡ None → v ≡ None
unfolding given
none_chosen None h = refl
none_chosen (Some v) h = absurd cc

pub record NoService (st : State) (n : Name) (s : Object) (now : ℕ) : Type 0 where
  pub configuration : configuration_missing st n s ≡ None
  pub template : template_differs st n s ≡ None
  pub route : route_missing st n s ≡ None
  pub targets : targets_differ st n s ≡ None
  pub status : service_status_differs st n s now ≡ None

pub record NoConfiguration (st : State) (c : Object) (now : ℕ) : Type 0 where
  pub orphaned : configuration_orphaned st c ≡ None
  pub revision : revision_missing st c ≡ None
  pub status : configuration_status_differs st c now ≡ None

pub record NoRevision (st : State) (n : Name) (v : Object) (now : ℕ) : Type 0 where
  pub orphaned : revision_orphaned st n v ≡ None
  pub status : revision_status_differs st v now ≡ None

pub record NoRoute (domain : List ℕ) (st : State) (r : Name) (now : ℕ) : Type 0 where
  pub orphaned : route_orphaned st r ≡ None
  pub foreign : table_foreign st r ≡ None
  pub lacking : pin_lacking st r now ≡ None
  pub table : table_differs domain st r ≡ None
  pub status : route_status_differs domain st r now ≡ None
  pub spare : pin_spare st r now ≡ None

module _ (settings : Settings) (st : State) (now : ℕ) (quiet : IsQuiet settings st now) where
  pub no_service : (n : Name) (s : Object) → standing kind.Service n st ≡ Some s → NoService st n s now
  unfolding next_write service_next
  no_service n s e =
      let a = none_first _ _ (none_given (standing kind.Service n st) s _ e (quiet (slot_key controller.Service n))) in
      let b = none_first _ _ a.1 in
      let c = none_first _ _ b.1 in
      let d = none_first _ _ c.1 in
      record { configuration = a.0; template = b.0; route = c.0; targets = d.0; status = d.1 }

  pub no_configuration : (n : Name) (c : Object) → standing kind.Configuration n st ≡ Some c → NoConfiguration st c now
  unfolding next_write configuration_next
  no_configuration n c e =
      let a = none_first _ _ (none_given (standing kind.Configuration n st) c _ e (quiet (slot_key controller.Configuration n))) in
      let b = none_first _ _ a.1 in
      record { orphaned = a.0; revision = b.0; status = b.1 }

  pub no_revision : (n : Name) (v : Object) → standing kind.Revision n st ≡ Some v → NoRevision st n v now
  unfolding next_write revision_next
  no_revision n v e =
      let a = none_first _ _ (none_given (standing kind.Revision n st) v _ e (quiet (slot_key controller.Revision n))) in
      record { orphaned = a.0; status = a.1 }

  pub no_collection : (n : Name) (c : Object) → standing kind.Configuration n st ≡ Some c
      → collection_choice has_been_ready settings.gc st c now ≡ None
  unfolding next_write collector_next
  no_collection n c e = none_chosen _ (none_given (standing kind.Configuration n st) c _ e (quiet (slot_key controller.Collector n)))

  pub no_route : (r : Name) → NoRoute settings.domain st r now
  unfolding next_write route_next
  no_route r =
      let a = none_first _ _ (quiet (slot_key controller.Route r)) in
      let b = none_first _ _ a.1 in
      let c = none_first _ _ b.1 in
      let d = none_first _ _ c.1 in
      let e = none_first _ _ d.1 in
      record { orphaned = a.0; foreign = b.0; lacking = c.0; table = d.0; status = e.0; spare = e.1 }
