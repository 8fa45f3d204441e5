-- A quiet state is final.
use Rattle.std.proofs.Common.{◌≡◌, ℕ, Bool, true, false, ◌&&◌, Some, refl, sym, ap, ◌∙◌}
use Rattle.std.specs.Cmp.{both_ways}
use Rattle.resource_types.specs.declared.names.Kind.TheVariants as kind
use Rattle.resource_types.specs.declared.names.Name.{Name}
use Rattle.resource_types.specs.declared.objects.Object.{Object}
use Rattle.resource_types.specs.Objects.{targets_of, has_been_ready, status_of}
use Rattle.resource_types.specs.Lookups.{State, is_free}
use Rattle.control_rules.specs.declared.settings.Settings.{Settings}
use Rattle.control_rules.specs.Standing.{standing, is_orphan, template_of}
use Rattle.control_rules.specs.Resolution.{stored}
use Rattle.control_rules.specs.Readings.{stored_status, revision_name, route_status_in, service_status_in}
use Rattle.control_rules.specs.Differences.{untimed}
use Rattle.control_rules.specs.NextService.{converted}
use Rattle.control_rules.specs.Quiet.{IsQuiet}
use Rattle.control_rules.specs.Final.{by_reports, final_configuration_status, final_route_status, final_service_status, HasChildren, HasNoOrphans, HasStatuses, HasTables, IsFinal}
use Rattle.control_rules.proofs.Same.{same_template-exact, same_targets-exact}
use Rattle.control_quiet.specs.Ground.{IsGround}
use Rattle.control_quiet.proofs.Differences.{none_when, none_given, none_missing}
use Rattle.control_entries.proofs.Tests.{not_false, and_false}
use Rattle.control_entries.proofs.Standing.{stands}
use Rattle.control_quiet.proofs.Conditions.{untimed-revision_in, untimed-configuration_in, untimed-route_in, untimed-service_in}
use Rattle.control_quiet.proofs.Revisions.{AreRevisionsRight, choice-is}
use Rattle.control_quiet.proofs.Statuses.{AreConfigurationsRight, configuration-is, resolution-is, route-is, service-is}
use Rattle.control_quiet.proofs.Quiet.{none_status, NoService, no_service, no_configuration, no_revision, no_collection, no_route}
use Rattle.control_quiet.proofs.Tables.{table_route, route_table}
use Rattle.control_quiet.proofs.Pins.{pinned-published}

module _ (settings : Settings) (st : State) (now : ℕ) (ground : IsGround st) (quiet : IsQuiet settings st now) where
  -- ---- statuses

  revisions_right : AreRevisionsRight st
  revisions_right n v e = none_status v _ now (no_revision settings st now quiet n v e).status
      ∙ untimed-revision_in st v

  configurations_right : AreConfigurationsRight st revisions_right ground.ordered
  configurations_right n c e =
      none_status c _ now (no_configuration settings st now quiet n c e).status
      ∙ untimed-configuration_in has_been_ready stored_status st c
      ∙ configuration-is st revisions_right ground.ordered c

  routes_right : (n : Name) (r : Object) → standing kind.Route n st ≡ Some r → untimed (status_of r.body) ≡ final_route_status settings.domain st r
  routes_right n r e =
      none_status r _ now (none_given (standing kind.Route n st) r _ e (no_route settings st now quiet n).status)
      ∙ untimed-route_in stored settings.domain st n r
      ∙ route-is st revisions_right ground.ordered configurations_right settings.domain n r
      ∙ ap (λ k. route_status_in (by_reports st) settings.domain st k.name r) (sym (stands kind.Route n st r e).key)

  services_right : (n : Name) (s : Object) → standing kind.Service n st ≡ Some s
      → untimed (status_of s.body) ≡ final_service_status settings.domain st s
  services_right n s e =
      none_status s _ now (no_service settings st now quiet n s e).status
      ∙ untimed-service_in stored_status stored_status st n s
      ∙ service-is st revisions_right ground.ordered settings.domain configurations_right routes_right n s
      ∙ ap (λ k. service_status_in (final_configuration_status st) (final_route_status settings.domain st) st k.name s) (sym (stands kind.Service n st s e).key)

  statuses : HasStatuses settings st
  statuses = record { revisions = revisions_right; configurations = configurations_right; routes = routes_right; services = services_right }

  -- ---- children and orphans

  children : (n : Name) (s : Object) → standing kind.Service n st ≡ Some s → HasChildren st n s
  children n s e = go (no_service settings st now quiet n s e)
    where
      go : NoService st n s now → HasChildren st n s
      go none = with (none_missing (standing kind.Configuration n st) _ none.configuration) (none_missing (standing kind.Route n st) _ none.route)
        where
          with : (c : Object) × (standing kind.Configuration n st ≡ Some c) → (r : Object) × (standing kind.Route n st ≡ Some r) → HasChildren st n s
          with c r = record {
            configuration = c.0;
            route = r.0;
            configuration_stands = c.1;
            route_stands = r.1;
            template = λ own. same_template-exact (template_of c.0.body) (template_of s.body)
                (not_false (and_false _ _ (none_when _ _ (none_given (standing kind.Configuration n st) c.0 _ c.1 none.template)) own));
            targets = λ own. same_targets-exact (targets_of r.0.body) (converted n s)
                (not_false (and_false _ _ (none_when _ _ (none_given (standing kind.Route n st) r.0 _ r.1 none.targets)) own));
          }

  and_first : (a b : Bool) → (a && b) ≡ false → b ≡ true → a ≡ false
  and_first true b h e = absurd cc
  and_first false b h e = refl

  orphans : HasNoOrphans settings st now
  orphans = record {
    configurations = λ n c e. none_when _ _ (no_configuration settings st now quiet n c e).orphaned;
    routes = λ n r e. none_when _ _ (none_given (standing kind.Route n st) r _ e (no_route settings st now quiet n).orphaned);
    revisions = λ n v e free. and_first (is_orphan st v) (is_free st n) (none_when _ _ (no_revision settings st now quiet n v e).orphaned) free;
    collected = λ n c e. sym (choice-is st revisions_right ground.ordered settings.gc c now) ∙ no_collection settings st now quiet n c e;
  }

  -- ---- Tables and pins

  tables : HasTables settings st
  tables = record {
    owned = λ n t e. table_route st n t (no_route settings st now quiet n).foreign e;
    published = λ n r rows targets e all. route_table settings.domain st n r rows targets (no_route settings st now quiet n).table e
        (resolution-is st revisions_right ground.ordered configurations_right settings.domain n (targets_of r.body) ∙ all);
  }

  pub quiet_is_final : IsFinal settings st now
  quiet_is_final = record {
    children = children;
    orphans = orphans;
    revisions = λ n c e. none_missing (standing kind.Revision (revision_name c) st) _ (no_configuration settings st now quiet n c e).revision;
    statuses = statuses;
    tables = tables;
    pins = λ r x. let none = no_route settings st now quiet r in
        both_ways _ _ (λ h. pinned-published settings.domain st r now none.status none.spare x h) (λ h. ground.pinned r x h);
  }
