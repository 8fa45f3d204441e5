-- A template that changes under a name that it keeps.
use Rattle.std.specs.Prelude.{◌≡◌, ◌≢◌, Bool, true, false, ◌&&◌, not, [], Option, Some, None, IsSomeAnd, Result, Ok, Err}
use Rattle.std.specs.Str.{bytes_eq}
use Rattle.json_tree.specs.Equal.{is_equal}
use Rattle.resource_types.specs.declared.specification.Template.{Template}
use Rattle.resource_types.specs.contracts.specification.Template as template_row
use Rattle.resource_types.specs.declared.manifests.Manifest.{Manifest}
use Rattle.resource_types.specs.declared.manifests.ManifestSpec.{ManifestSpec}
use Rattle.resource_types.specs.declared.manifests.ManifestSpec.TheVariants as spec
use Rattle.resource_types.specs.declared.objects.Body.{Body}
use Rattle.resource_types.specs.declared.objects.Body.TheVariants as body
use Rattle.resource_types.specs.declared.objects.Object.{Object}
use Rattle.validation.specs.declared.change.KeptName.{KeptName}
use Rattle.validation.specs.Defaults.{is_empty}

-- the template of a Service or a Configuration
abbrev pub template_of_body : Body → Option Template
template_of_body (body.Service template traffic status) = Some template
template_of_body (body.Configuration template status) = Some template
template_of_body other = None

-- the template that a manifest of one gives
abbrev pub template_of_spec : ManifestSpec → Option Template
template_of_spec (spec.Service template traffic) = Some template
template_of_spec (spec.Configuration template) = Some template
template_of_spec (spec.Route traffic) = None

-- the two have the same name, it isn't empty, and they differ
abbrev pub DiffersUnderName : Template → Template → Type 0
DiffersUnderName old new = (old.name ≡ new.name) × (old.name ≢ []) × (old ≢ new)

-- the same as a test
abbrev pub differs_under_name : Template → Template → Bool
differs_under_name old new = bytes_eq old.name new.name && (not (is_empty old.name) && not (is_equal template_row.the_row.coded old new))

-- both the object and the manifest have a template, and these differ under one name
abbrev pub ChangesKeptName : Object → Manifest → Type 0
ChangesKeptName old new = IsSomeAnd (template_of_body old.body) (λ before. IsSomeAnd (template_of_spec new.spec) (λ after. DiffersUnderName before after))

-- refused where the test holds
abbrev pub refused_if : Bool → Result (Unit {0}) KeptName
refused_if true = Err (record {})
refused_if false = Ok tt

abbrev pub templates_fault : Option Template → Option Template → Result (Unit {0}) KeptName
templates_fault (Some old) (Some new) = refused_if (differs_under_name old new)
templates_fault (Some old) None = Ok tt
templates_fault None new = Ok tt

-- what a check of the change answers
abbrev pub change_fault : Object → Manifest → Result (Unit {0}) KeptName
change_fault old new = templates_fault (template_of_body old.body) (template_of_spec new.spec)
