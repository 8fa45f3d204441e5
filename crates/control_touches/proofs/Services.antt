-- What is due to a Service stays, where no entry touches it.
use Rattle.std.proofs.Common.{◌≡◌, ℕ, false, ◌&&◌, not, List, Option, refl, sym, ◌∙◌}
use Rattle.resource_types.specs.declared.names.Kind.TheVariants as kind
use Rattle.resource_types.specs.declared.names.Controller.TheVariants as controller
use Rattle.resource_types.specs.declared.names.Name.{Name}
use Rattle.resource_types.specs.declared.objects.Body.TheVariants.{Configuration, Route}
use Rattle.resource_types.specs.declared.objects.Object.{Object}
use Rattle.resource_types.specs.Objects.{no_status}
use Rattle.resource_types.specs.Lookups.{State}
use Rattle.control_rules.specs.Standing.{standing, template_of, is_owned_by_uid, with_template, with_targets}
use Rattle.resource_types.specs.Objects.{targets_of}
use Rattle.control_rules.specs.Readings.{stored_status, sight_of}
use Rattle.control_rules.specs.TrafficStatuses.{service_status}
use Rattle.control_rules.specs.Differences.{ObjectPlan, first_plan, when, given, missing, replacement, status_change}
use Rattle.control_rules.specs.NextService.{made_child, same_template, same_targets, converted, service_next}
use Rattle.control_rules.specs.Slots.{ObjectEntry, slot_key}
use Rattle.control_touches.specs.Touches.{touches, touches_service, is_touched_by}
use Rattle.control_touches.proofs.Paths.{after, ArePuts}
use Rattle.control_touches.proofs.Own.{one_is, stands_kept}

-- what is due, by what stands
abbrev due : Name → ℕ → Option Object → Option Object → Option Object → Option ObjectPlan
due n now service configuration route =
    given service (λ s.
    first_plan (missing configuration (made_child n s kind.Configuration (Configuration (template_of s.body) no_status)))
    (first_plan (given configuration (λ c. when (is_owned_by_uid s.meta.stamp.uid c && not (same_template (template_of c.body) (template_of s.body))) (replacement c (with_template (template_of s.body) c.body))))
    (first_plan (missing route (made_child n s kind.Route (Route (converted n s) no_status)))
    (first_plan (given route (λ r. when (is_owned_by_uid s.meta.stamp.uid r && not (same_targets (targets_of r.body) (converted n s))) (replacement r (with_targets (converted n s) r.body))))
    (status_change s (service_status s.meta.stamp.generation n.name (sight_of stored_status s.meta.stamp.uid configuration) (sight_of stored_status s.meta.stamp.uid route)) now)))))

due_is : (st : State) (n : Name) (now : ℕ) → service_next st n now ≡ due n now (standing kind.Service n st) (standing kind.Configuration n st) (standing kind.Route n st)
unfolding service_next
due_is st n now = refl

pub service_kept : (b st : State) (es : List ObjectEntry) → ArePuts es → (n : Name) (now : ℕ) → is_touched_by b st es (slot_key controller.Service n) ≡ false
    → service_next (after st es) n now ≡ service_next st n now
unfolding touches touches_service
service_kept b st es puts n now calm =
    due_is (after st es) n now
    ∙ (λ i. due n now (s i) (c i) (r i))
    ∙ sym (due_is st n now)
  where
    s : standing kind.Service n (after st es) ≡ standing kind.Service n st
    s = stands_kept b st es puts _ calm kind.Service n (λ old new. one_is _ kind.Service n refl)

    c : standing kind.Configuration n (after st es) ≡ standing kind.Configuration n st
    c = stands_kept b st es puts _ calm kind.Configuration n (λ old new. one_is _ kind.Configuration n refl)

    r : standing kind.Route n (after st es) ≡ standing kind.Route n st
    r = stands_kept b st es puts _ calm kind.Route n (λ old new. one_is _ kind.Route n refl)
