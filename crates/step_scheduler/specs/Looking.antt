-- Where controllers may look.
use Rattle.std.specs.Prelude.{ℕ}
use Rattle.resource_types.specs.declared.names.Controller.{Controller}
use Rattle.resource_types.specs.declared.names.Controller.TheVariants as controller
use Rattle.resource_types.specs.Lookups.{State}
use Rattle.control_rules.specs.Fits.{RouteFits, CollectorFits}

-- in which states, and at which moments, a controller may look
abbrev pub CanLook : Controller → State → ℕ → Type 0
CanLook controller.Service st now = Unit {0}
CanLook controller.Configuration st now = Unit {0}
CanLook controller.Revision st now = Unit {0}
CanLook controller.Collector st now = CollectorFits st now
CanLook controller.Route st now = RouteFits st
