-- The spec of an object, its stamp, and which objects guard.
use Rattle.std.specs.Prelude.{Bool, true, false, [], None}
use Rattle.version_store.specs.declared.item.Stamp.{Stamp}
use Rattle.json_tree.specs.Equal.{is_equal}
use Rattle.resource_types.specs.declared.names.Kind.{Kind}
use Rattle.resource_types.specs.declared.names.Kind.TheVariants as kind
use Rattle.resource_types.specs.declared.objects.Body.{Body}
use Rattle.resource_types.specs.declared.objects.Body.TheVariants.{Service, Configuration, Revision, Route, Health, Table}
use Rattle.resource_types.specs.declared.objects.Object.{Object}
use Rattle.resource_types.specs.contracts.objects.Body as body
use Rattle.resource_types.specs.contracts.objects.Object as object
use Rattle.resource_types.specs.Objects.{no_status}

-- The spec: of a Service its template and targets, of a Configuration its template, of a Revision its pod spec and its
-- generation, of a Route its targets, of a Health or a Table its whole body. Pins, activity and statuses belong to none.
abbrev pub spec_of : Body → Body
spec_of (Service template traffic status) = Service template traffic no_status
spec_of (Configuration template status) = Configuration template no_status
spec_of (Revision spec generation pins active status) = Revision spec generation [] None no_status
spec_of (Route traffic status) = Route traffic no_status
spec_of (Health uid resources container ever) = Health uid resources container ever
spec_of (Table route rows targets) = Table route rows targets

-- the stamp of an object that was never put
abbrev pub no_stamp : Stamp
no_stamp = record { version = 0; generation = 0; uid = 0; created = 0 }

-- the object with the stamp
abbrev pub stamped : Object → Stamp → Object
stamped o s = record { key = o.key; meta = record { stamp = s; owner = o.meta.owner; labels = o.meta.labels; annotations = o.meta.annotations }; body = o.body }

-- whether two objects have the same spec
abbrev pub same_spec : Object → Object → Bool
same_spec a b = is_equal body.the_row.coded (spec_of a.body) (spec_of b.body)

-- whether two objects are equal but for their stamps
abbrev pub same_but_stamp : Object → Object → Bool
same_but_stamp a b = is_equal object.the_row.coded (stamped a no_stamp) (stamped b no_stamp)

-- whether an object guards: where its spec changes, guarded plans that were made before are stale
abbrev pub is_guarding : Kind → Body → Bool
is_guarding kind.Service (Service template traffic status) = true
is_guarding kind.Route (Route traffic status) = true
is_guarding other body = false
