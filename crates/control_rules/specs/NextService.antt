-- The next write of the Service controller: the Service's Configuration, its Route, its status.
use Rattle.std.specs.Prelude.{ℕ, ◌&&◌, Bool, not, List, map, Option, Some, cond}
use Rattle.json_tree.specs.Equal.{is_equal}
use Rattle.resource_types.specs.declared.names.Kind.{Kind}
use Rattle.resource_types.specs.declared.names.Kind.TheVariants as kind
use Rattle.resource_types.specs.declared.names.Name.{Name}
use Rattle.resource_types.specs.declared.specification.Target.{Target}
use Rattle.resource_types.specs.declared.specification.Template.{Template}
use Rattle.resource_types.specs.declared.objects.Body.{Body}
use Rattle.resource_types.specs.declared.objects.Body.TheVariants.{Configuration, Route}
use Rattle.resource_types.specs.declared.objects.Object.{Object}
use Rattle.resource_types.specs.contracts.specification.Template as template_row
use Rattle.resource_types.specs.contracts.objects.Body as body_row
use Rattle.resource_types.specs.Objects.{no_status, targets_of}
use Rattle.resource_types.specs.Lookups.{State, is_empty}
use Rattle.control_rules.specs.Standing.{key_at, standing, is_owned_by_uid, template_of, with_template, with_targets}
use Rattle.control_rules.specs.Readings.{stored_status, service_status_in}
use Rattle.control_rules.specs.Differences.{ObjectPlan, first_plan, when, given, missing, new_object, owner_by, creation, replacement, no_labels, one_label, service_label, status_change}

-- the object of the kind that a Service of the name makes
abbrev pub service_child : Name → Object → Kind → Body → Object
service_child n s made body = new_object (key_at made n) (Some (owner_by kind.Service s)) (one_label service_label n.name) no_labels body

-- the Service makes it
abbrev pub made_child : Name → Object → Kind → Body → ObjectPlan
made_child n s made body = creation (service_child n s made body)

-- whether two templates are equal
unfoldable pub same_template : Template → Template → Bool
same_template old new = is_equal template_row.the_row.coded old new

-- whether the targets of two bodies are equal
unfoldable pub same_targets : List Target → List Target → Bool
same_targets old new = is_equal body_row.the_row.coded (Route old no_status) (Route new no_status)

-- a Service's target as one of its Route: on the Configuration of the name, where it names no Revision
abbrev pub converted_target : Name → Target → Target
converted_target n t =
    cond (is_empty t.revision) (record { configuration = n.name; revision = t.revision; latest = t.latest; percent = t.percent; tag = t.tag; url = t.url }) t

-- the targets of the Service's Route
unfoldable pub converted : Name → Object → List Target
converted n s = map (converted_target n) (targets_of s.body)

-- the Configuration is made
abbrev pub configuration_missing : State → Name → Object → Option ObjectPlan
configuration_missing st n s = missing (standing kind.Configuration n st) (made_child n s kind.Configuration (Configuration (template_of s.body) no_status))

-- the Configuration that the Service owns gets its template
abbrev pub template_differs : State → Name → Object → Option ObjectPlan
template_differs st n s =
    given (standing kind.Configuration n st)
    (λ c. when (is_owned_by_uid s.meta.stamp.uid c && not (same_template (template_of c.body) (template_of s.body))) (replacement c (with_template (template_of s.body) c.body)))

-- the Route is made
abbrev pub route_missing : State → Name → Object → Option ObjectPlan
route_missing st n s = missing (standing kind.Route n st) (made_child n s kind.Route (Route (converted n s) no_status))

-- the Route that the Service owns gets its targets
abbrev pub targets_differ : State → Name → Object → Option ObjectPlan
targets_differ st n s =
    given (standing kind.Route n st)
    (λ r. when (is_owned_by_uid s.meta.stamp.uid r && not (same_targets (targets_of r.body) (converted n s))) (replacement r (with_targets (converted n s) r.body)))

-- the Service gets its status
abbrev pub service_status_differs : State → Name → Object → ℕ → Option ObjectPlan
service_status_differs st n s now = status_change s (service_status_in stored_status stored_status st n s) now

-- the first difference of the Service of the name
unfoldable pub service_next : State → Name → ℕ → Option ObjectPlan
service_next st n now =
    given (standing kind.Service n st) (λ s.
    first_plan (configuration_missing st n s)
    (first_plan (template_differs st n s)
    (first_plan (route_missing st n s)
    (first_plan (targets_differ st n s)
    (service_status_differs st n s now)))))
