-- Which pins a Route needs no longer, by what stands of it.
use Rattle.std.specs.Prelude.{ℕ, ◌&&◌, ◌||◌, Bool, false, not, List, Option, Some, None, bytes_eq}
use Rattle.std.specs.List.{list_any}
use Rattle.resource_types.specs.declared.names.Kind.TheVariants as kind
use Rattle.resource_types.specs.declared.names.Name.{Name}
use Rattle.resource_types.specs.declared.specification.Row.{Row}
use Rattle.resource_types.specs.declared.specification.Target.{Target}
use Rattle.resource_types.specs.declared.objects.Body.{Body}
use Rattle.resource_types.specs.declared.objects.Body.TheVariants.{Service, Configuration, Revision, Route, Health, Table}
use Rattle.resource_types.specs.declared.objects.Object.{Object}
use Rattle.resource_types.specs.Objects.{is_of, pins_of, status_of}
use Rattle.control_rules.specs.Standing.{listed}

-- whether a target is on the Revision
abbrev pub has_target : List ℕ → List Target → Bool
has_target name targets = list_any (λ (t : Target). bytes_eq name t.revision) targets

-- whether a row is on the Revision
abbrev pub has_row : List ℕ → List Row → Bool
has_row name rows = list_any (λ (row : Row). bytes_eq name row.revision) rows

-- whether a row or a target of a Table is on the Revision
abbrev pub is_published_in : List ℕ → Body → Bool
is_published_in name (Service template traffic status) = false
is_published_in name (Configuration template status) = false
is_published_in name (Revision spec generation pins active status) = false
is_published_in name (Route traffic status) = false
is_published_in name (Health uid resources container ever) = false
is_published_in name (Table route rows targets) = has_row name rows || has_target name targets

-- whether the Table names the Revision
abbrev pub is_published : List ℕ → Option Object → Bool
is_published name None = false
is_published name (Some table) = is_published_in name table.body

-- whether the Route's status names the Revision
abbrev pub is_shown : List ℕ → Option Object → Bool
is_shown name None = false
is_shown name (Some route) = has_target name (status_of route.body).traffic

-- whether it is a Revision of the Route's namespace that has the Route's pin
abbrev pub has_pin : Name → Object → Bool
has_pin r v = (is_of kind.Revision v && bytes_eq v.key.name.space r.space) && listed r.name (pins_of v.body)

-- whether the Revision has the Route's pin, and neither names it
abbrev pub is_spare_by : Name → Option Object → Option Object → Object → Bool
is_spare_by r table route v = has_pin r v && (not (is_published v.key.name.name table) && not (is_shown v.key.name.name route))
