-- Kinds, controllers and truths by their words.
use Rattle.std.specs.Prelude.{ℕ, List, codes, Option, Some, None, if◌then◌else◌}
use Rattle.std.specs.Str.{bytes_eq}
use Rattle.resource_types.specs.declared.names.Kind.{Kind}
use Rattle.resource_types.specs.declared.names.Kind.TheVariants as kind
use Rattle.resource_types.specs.declared.names.ClientKind.{ClientKind}
use Rattle.resource_types.specs.declared.names.ClientKind.TheVariants as client
use Rattle.resource_types.specs.declared.names.Controller.{Controller}
use Rattle.resource_types.specs.declared.names.Controller.TheVariants as controller
use Rattle.resource_types.specs.declared.conditions.Truth.{Truth}
use Rattle.resource_types.specs.declared.conditions.Truth.TheVariants as truth

abbrev pub kind_named : List ℕ → Option Kind
kind_named word =
    if bytes_eq word (codes "Service") then Some kind.Service
    else if bytes_eq word (codes "Configuration") then Some kind.Configuration
    else if bytes_eq word (codes "Revision") then Some kind.Revision
    else if bytes_eq word (codes "Route") then Some kind.Route
    else if bytes_eq word (codes "Health") then Some kind.Health
    else if bytes_eq word (codes "Table") then Some kind.Table
    else None

-- the kinds that clients write
abbrev pub client_kind_named : List ℕ → Option ClientKind
client_kind_named word =
    if bytes_eq word (codes "Service") then Some client.Service
    else if bytes_eq word (codes "Configuration") then Some client.Configuration
    else if bytes_eq word (codes "Route") then Some client.Route
    else None

abbrev pub controller_named : List ℕ → Option Controller
controller_named word =
    if bytes_eq word (codes "Service") then Some controller.Service
    else if bytes_eq word (codes "Configuration") then Some controller.Configuration
    else if bytes_eq word (codes "Revision") then Some controller.Revision
    else if bytes_eq word (codes "Collector") then Some controller.Collector
    else if bytes_eq word (codes "Route") then Some controller.Route
    else None

abbrev pub truth_named : List ℕ → Option Truth
truth_named word =
    if bytes_eq word (codes "True") then Some truth.True
    else if bytes_eq word (codes "False") then Some truth.False
    else if bytes_eq word (codes "Unknown") then Some truth.Unknown
    else None
