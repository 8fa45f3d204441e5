-- Which Revisions the Route of a name holds.
use Rattle.std.specs.Prelude.{Bool, ◌&&◌, bytes_eq}
use Rattle.std.specs.List.{list_any}
use Rattle.resource_types.specs.declared.names.Kind.TheVariants as kind
use Rattle.resource_types.specs.declared.names.Name.{Name}
use Rattle.resource_types.specs.declared.objects.Object.{Object}
use Rattle.resource_types.specs.Objects.{is_of, pins_of}

-- whether it is a Revision that the Route of the name holds
abbrev pub is_pinned_by : Name → Object → Bool
is_pinned_by n o = (is_of kind.Revision o && bytes_eq n.space o.key.name.space) && list_any (bytes_eq n.name) (pins_of o.body)
