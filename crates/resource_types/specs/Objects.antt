-- What an object is, by its kind.
use Rattle.std.specs.Prelude.{◌≡◌, ◌&&◌, ◌||◌, ℕ, Bool, List, [], Option, Some, None}
use Rattle.std.specs.List.{list_any}
use Rattle.resource_types.specs.declared.names.Kind.{Kind}
use Rattle.resource_types.specs.declared.names.Kind.TheVariants as kind
use Rattle.resource_types.specs.declared.metadata.Owner.{Owner}
use Rattle.resource_types.specs.declared.conditions.CondName.{CondName}
use Rattle.resource_types.specs.declared.conditions.CondName.TheVariants as condition
use Rattle.resource_types.specs.declared.conditions.Truth.{Truth}
use Rattle.resource_types.specs.declared.conditions.Truth.TheVariants as truth
use Rattle.resource_types.specs.declared.specification.Target.{Target}
use Rattle.resource_types.specs.declared.specification.Template.{Template}
use Rattle.resource_types.specs.declared.status.ObjectStatus.{ObjectStatus}
use Rattle.resource_types.specs.declared.objects.Body.{Body}
use Rattle.resource_types.specs.declared.objects.Body.TheVariants.{Service, Configuration, Revision, Route, Health, Table}
use Rattle.resource_types.specs.declared.objects.Object.{Object}
use Rattle.resource_types.specs.contracts.names.KindPartialEq.TheImpl as kind_eq
use Rattle.resource_types.specs.contracts.conditions.CondNamePartialEq.TheImpl as condition_eq
use Rattle.resource_types.specs.contracts.conditions.TruthPartialEq.TheImpl as truth_eq

-- the status of an object that no controller has looked at
abbrev pub no_status : ObjectStatus
no_status = record { observed = 0; created = []; ready = []; url = []; traffic = []; conditions = [] }

-- whether two kinds are one
abbrev pub same_kind : Kind → Kind → Bool
same_kind = kind_eq.ghosts.eq

-- the kind of a body
abbrev pub kind_of_body : Body → Kind
kind_of_body (Service template traffic status) = kind.Service
kind_of_body (Configuration template status) = kind.Configuration
kind_of_body (Revision spec generation pins active status) = kind.Revision
kind_of_body (Route traffic status) = kind.Route
kind_of_body (Health uid resources container ever) = kind.Health
kind_of_body (Table route rows targets) = kind.Table

-- whether an object is of a kind: both its key and its body are
abbrev pub is_of : Kind → Object → Bool
is_of kind object = same_kind object.key.kind kind && same_kind (kind_of_body object.body) kind

-- the same as a fact
abbrev pub IsOf : Kind → Object → Type 0
IsOf kind object = (object.key.kind ≡ kind) × (kind_of_body object.body ≡ kind)

-- whether an object is one that clients create and replace
abbrev pub is_of_client : Object → Bool
is_of_client object = (is_of kind.Service object || is_of kind.Configuration object) || is_of kind.Route object

-- the names of the Routes that hold a Revision
abbrev pub pins_of : Body → List (List ℕ)
pins_of (Service template traffic status) = []
pins_of (Configuration template status) = []
pins_of (Revision spec generation pins active status) = pins
pins_of (Route traffic status) = []
pins_of (Health uid resources container ever) = []
pins_of (Table route rows targets) = []

-- the generation of the Configuration that a Revision was made for
abbrev pub generation_of : Body → ℕ
generation_of (Service template traffic status) = 0
generation_of (Configuration template status) = 0
generation_of (Revision spec generation pins active status) = generation
generation_of (Route traffic status) = 0
generation_of (Health uid resources container ever) = 0
generation_of (Table route rows targets) = 0

-- the targets that a Service or a Route asks for
abbrev pub targets_of : Body → List Target
targets_of (Service template traffic status) = traffic
targets_of (Configuration template status) = []
targets_of (Revision spec generation pins active status) = []
targets_of (Route traffic status) = traffic
targets_of (Health uid resources container ever) = []
targets_of (Table route rows targets) = []

-- the status of an object that has one
abbrev pub status_of : Body → ObjectStatus
status_of (Service template traffic status) = status
status_of (Configuration template status) = status
status_of (Revision spec generation pins active status) = status
status_of (Route traffic status) = status
status_of (Health uid resources container ever) = no_status
status_of (Table route rows targets) = no_status

-- the owner of the object that stands; there is none where none stands
abbrev pub owner_of : Option Object → Option Owner
owner_of None = None
owner_of (Some old) = old.meta.owner

-- the status of the object that stands; where none stands, that of an object that no controller has looked at
abbrev pub status_over : Option Object → ObjectStatus
status_over None = no_status
status_over (Some old) = status_of old.body

-- the body with the status, where it has one
abbrev pub with_status : ObjectStatus → Body → Body
with_status new (Service template traffic status) = Service template traffic new
with_status new (Configuration template status) = Configuration template new
with_status new (Revision spec generation pins active status) = Revision spec generation pins active new
with_status new (Route traffic status) = Route traffic new
with_status new (Health uid resources container ever) = Health uid resources container ever
with_status new (Table route rows targets) = Table route rows targets

-- the template of what has none
abbrev pub no_template : Template
no_template = record { name = []; labels = record { entries = [] }; annotations = record { entries = [] }; spec = record { concurrency = None; timeout = None; rest = record { entries = [] } } }

-- the template of a Service or a Configuration
abbrev pub template_of : Body → Template
template_of (Service template traffic status) = template
template_of (Configuration template status) = template
template_of (Revision spec generation pins active status) = no_template
template_of (Route traffic status) = no_template
template_of (Health uid resources container ever) = no_template
template_of (Table route rows targets) = no_template

-- whether the status has the condition with that truth
abbrev pub has_condition : CondName → Truth → Object → Bool
has_condition name t object = list_any (λ c. condition_eq.ghosts.eq c.name name && truth_eq.ghosts.eq c.truth t) (status_of object.body).conditions

-- whether the status has `HasBeenReady` True
abbrev pub has_been_ready : Object → Bool
has_been_ready object = has_condition condition.HasBeenReady truth.True object
