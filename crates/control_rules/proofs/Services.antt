-- Worked rows by computation: what a Service's controller plans, from the Service alone to its first status.
use Rattle.std.proofs.Common.{◌≡◌, true, [], ◌∷◌, codes, Some, None, refl}
use Rattle.resource_types.specs.declared.names.Kind.TheVariants as kind
use Rattle.resource_types.specs.declared.names.Controller.TheVariants as controller
use Rattle.resource_types.specs.declared.conditions.CondName.TheVariants as condition
use Rattle.resource_types.specs.declared.conditions.Truth.TheVariants as truth
use Rattle.resource_types.specs.declared.specification.Target.{Target}
use Rattle.resource_types.specs.declared.status.ObjectStatus.{ObjectStatus}
use Rattle.version_store.specs.declared.item.Stamp.{Stamp}
use Rattle.resource_types.specs.declared.objects.Body.{Body}
use Rattle.resource_types.specs.declared.objects.Body.TheVariants.{Service, Configuration, Route}
use Rattle.resource_types.specs.declared.names.Kind.{Kind}
use Rattle.resource_types.specs.declared.objects.Object.{Object}
use Rattle.resource_types.specs.Objects.{no_status}
use Rattle.json_tree.specs.Equal.{is_equal}
use Rattle.control_rules.specs.Standing.{key_at, standing}
use Rattle.control_rules.specs.TrafficStatuses.{service_status}
use Rattle.control_rules.specs.Differences.{first_plan, when, given, missing, creation, replacement, same_untimed}
use Rattle.control_rules.specs.NextService.{converted, service_next}
use Rattle.control_rules.specs.Next.{next_write}
use Rattle.control_rules.proofs.Same.{same_template-own, same_targets-own}
use Rattle.control_rules.proofs.Rows.{hello, template, object, stamp, no_stamp, condition_of, next}

abbrev all : Target
all = record { configuration = []; revision = []; latest = Some true; percent = Some 100; tag = []; url = [] }

abbrev on_configuration : Target
on_configuration = record { configuration = codes "hello"; revision = []; latest = Some true; percent = Some 100; tag = []; url = [] }

abbrev service : Object
service = object kind.Service hello (stamp 1 1) None (Service template (all ∷ []) no_status)

-- what the Service makes, of a kind and with a body
abbrev child : Kind → Stamp → Body → Object
child made s body = record {
  key = key_at made hello;
  meta = record { stamp = s; owner = Some (record { kind = kind.Service; name = codes "hello"; uid = 1 }); labels = record { entries = (codes "serving.knative.dev/service", codes "hello") ∷ [] }; annotations = record { entries = [] } };
  body = body;
}

pub makes_configuration : next controller.Service hello (service ∷ []) ≡ Some (creation (child kind.Configuration no_stamp (Configuration template no_status)))
unfolding next_write service_next first_plan when given missing standing
makes_configuration = refl

abbrev its_configuration : Object
its_configuration = child kind.Configuration (stamp 2 2) (Configuration template no_status)

pub makes_route : next controller.Service hello (service ∷ its_configuration ∷ []) ≡ Some (creation (child kind.Route no_stamp (Route (on_configuration ∷ []) no_status)))
unfolding next_write service_next first_plan when given missing standing converted
makes_route = rw (same_template-own template) refl

abbrev its_route : Object
its_route = child kind.Route (stamp 3 3) (Route (on_configuration ∷ []) no_status)

abbrev not_observed : ObjectStatus
not_observed = record {
  observed = 1;
  created = [];
  ready = [];
  url = [];
  traffic = [];
  conditions =
      condition_of condition.ConfigurationsReady truth.Unknown (codes "OutOfDate") (codes "configuration hello is not observed yet") ∷
      condition_of condition.Ready truth.Unknown (codes "OutOfDate") (codes "configuration hello is not observed yet") ∷
      condition_of condition.RoutesReady truth.Unknown (codes "OutOfDate") (codes "route hello is not observed yet") ∷ [];
}

pub tells : next controller.Service hello (service ∷ its_configuration ∷ its_route ∷ []) ≡ Some (replacement service (Service template (all ∷ []) not_observed))
unfolding next_write service_next first_plan when given missing standing converted service_status same_untimed is_equal
tells = rw (same_template-own template, same_targets-own (on_configuration ∷ [])) refl
