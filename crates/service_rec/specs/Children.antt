-- What a Service makes, and what an object becomes with another body.
use Rattle.std.specs.Prelude.{Some}
use Rattle.resource_types.specs.declared.names.Kind.TheVariants as kind
use Rattle.resource_types.specs.declared.names.Name.{Name}
use Rattle.resource_types.specs.declared.metadata.Meta.{Meta}
use Rattle.resource_types.specs.declared.objects.Body.{Body}
use Rattle.resource_types.specs.declared.objects.Body.TheVariants.{Configuration, Route}
use Rattle.resource_types.specs.declared.objects.Object.{Object}
use Rattle.resource_types.specs.Objects.{no_status}
use Rattle.resource_types.specs.Spec.{no_stamp}
use Rattle.control_rules.specs.Standing.{key_at, template_of}
use Rattle.control_rules.specs.Differences.{no_labels, one_label, owner_by, service_label}
use Rattle.control_rules.specs.NextService.{converted}

-- what a child has beside its key and its body: the Service as owner, and one label
abbrev pub child_meta : Name → Object → Meta
child_meta n s = record { stamp = no_stamp; owner = Some (owner_by kind.Service s); labels = one_label service_label n.name; annotations = no_labels }

-- the Configuration that the Service makes
abbrev pub made_configuration : Name → Object → Object
made_configuration n s = record { key = key_at kind.Configuration n; meta = child_meta n s; body = Configuration (template_of s.body) no_status }

-- the Route that the Service makes
abbrev pub made_route : Name → Object → Object
made_route n s = record { key = key_at kind.Route n; meta = child_meta n s; body = Route (converted n s) no_status }

-- the object with the body, and all else as it stands
abbrev pub with_body : Object → Body → Object
with_body o body = record { key = o.key; meta = o.meta; body = body }
