-- What control bodies say: a report, a moment, or a controller's key, or the first field that is wrong. A null counts as absent, and members that are
-- no fields are dropped.
use Rattle.std.specs.Prelude.{ℕ, Bool, nat_le, List, [], ◌∷◌, codes, Option, Some, None, Result, Ok, Err, if◌then◌else◌}
use Rattle.std.specs.Str.{bytes_eq}
use Rattle.json_tree.specs.declared.value.Json.{Json}
use Rattle.json_tree.specs.declared.value.Json.TheViews.{out-Json}
use Rattle.json_tree.specs.declared.value.Json.TheOpen.{Json-F}
use Rattle.serve_names.specs.Labels.{is_label_of}
use Rattle.serve_names.specs.Moments.{last_moment, last_such, moment_bytes}
use Rattle.resource_types.specs.declared.names.Name.{Name}
use Rattle.resource_types.specs.declared.names.Controller.{Controller}
use Rattle.resource_types.specs.declared.names.Controller.TheVariants as controller
use Rattle.resource_types.specs.declared.names.SlotKey.{SlotKey}
use Rattle.resource_types.specs.declared.conditions.Part.{Part}
use Rattle.resource_types.specs.declared.conditions.Truth.{Truth}
use Rattle.resource_types.specs.declared.conditions.Truth.TheVariants as truth
use Rattle.answers.specs.Answers.{◌>>=◌}
use Rattle.resource_codec.specs.Reading.{Member, under}
use Rattle.control_rules.specs.declared.slots.Report.{Report}
use Rattle.api_paths.specs.Paths.{beside}
use Rattle.control_bodies.specs.declared.fields.Field.{Field}
use Rattle.control_bodies.specs.declared.fields.Field.TheVariants as field
use Rattle.control_bodies.specs.declared.fields.Side.{Side}
use Rattle.control_bodies.specs.declared.fields.Side.TheVariants as side
use Rattle.control_bodies.specs.declared.fields.PartField.TheVariants as part
use Rattle.control_bodies.specs.Paths.{side_name}

-- ---- one field

-- an object
abbrev pub object_at : Field → Json-F Json → Result (List Member) Field
object_at field (Json-F.Obj m) = Ok m.entries
object_at field _ = Err field

-- a text, which may be empty
abbrev pub text_at : Field → Json-F Json → Result (List ℕ) Field
text_at field (Json-F.Str s) = Ok s
text_at field _ = Err field

-- a text, or nothing, which is the empty one
abbrev pub optional_text_at : Field → Json-F Json → Result (List ℕ) Field
optional_text_at field Json-F.Null = Ok []
optional_text_at field (Json-F.Str s) = Ok s
optional_text_at field _ = Err field

-- what there is, or that the field is wrong
abbrev pub given : {A : Type 0} → Field → Option A → Result A Field
given field (Some a) = Ok a
given field None = Err field

-- ---- words

abbrev pub truths : List (List ℕ × Truth)
truths = (codes "True", truth.True) ∷ ((codes "False", truth.False) ∷ ((codes "Unknown", truth.Unknown) ∷ []))

abbrev pub controllers : List (List ℕ × Controller)
controllers =
    (codes "Service", controller.Service)
    ∷ ((codes "Configuration", controller.Configuration)
    ∷ ((codes "Revision", controller.Revision)
    ∷ ((codes "Collector", controller.Collector)
    ∷ ((codes "Route", controller.Route)
    ∷ []))))

-- ---- namespaces

-- the namespace that a text names; the empty one names `default`
abbrev pub space_named : List ℕ → Result (List ℕ) Field
space_named [] = Ok (codes "default")
space_named (b ∷ bs) = if is_label_of (b ∷ bs) 63 then Ok (b ∷ bs) else Err field.Namespace

-- the namespace of a body
unfoldable pub space_in : List Member → Result (List ℕ) Field
space_in members = do
  text ← optional_text_at field.Namespace (under (codes "namespace") members)
  space_named text

-- ---- a report

-- the truth under `status` of a part
abbrev pub truth_in : Field → List Member → Result Truth Field
truth_in status fields = do
  word ← text_at status (under (codes "status") fields)
  given status (beside word truths)

-- one part of a report
unfoldable pub part_in : Side → List Member → Result Part Field
part_in side members = do
  fields ← object_at (field.Part side part.Whole) (under (side_name side) members)
  truth ← truth_in (field.Part side part.Status) fields
  reason ← optional_text_at (field.Part side part.Reason) (under (codes "reason") fields)
  message ← optional_text_at (field.Part side part.Message) (under (codes "message") fields)
  Ok (record { truth = truth; reason = reason; message = message })

-- a report, field by field in the order of examination
unfoldable pub report_in : Json → Result Report Field
report_in json = do
  members ← object_at field.Body (out-Json json)
  name ← text_at field.RevisionName (under (codes "revisionName") members)
  resources ← part_in side.Resources members
  container ← part_in side.Container members
  space ← space_in members
  Ok (record { revision = record { space = space; name = name }; resources = resources; container = container })

-- ---- a step

-- the controller of a step
abbrev pub controller_in : List Member → Result Controller Field
controller_in members = do
  word ← text_at field.Controller (under (codes "controller") members)
  given field.Controller (beside word controllers)

-- the key of a step, field by field in the order of examination
unfoldable pub step_in : Json → Result SlotKey Field
step_in json = do
  members ← object_at field.Body (out-Json json)
  controller ← controller_in members
  name ← text_at field.Name (under (codes "name") members)
  space ← space_in members
  Ok (record { controller = controller; name = record { space = space; name = name } })

-- ---- a clock

-- whether a moment up to the last one has this text
abbrev pub is_text_of : List ℕ → ℕ → Bool
is_text_of bytes moment = bytes_eq (moment_bytes moment) bytes

-- the moment of which the bytes are the text, if they are one
unfoldable pub moment_of_text : List ℕ → Option ℕ
moment_of_text bytes =
    let moment = last_such (is_text_of bytes) last_moment in
    if is_text_of bytes moment then Some moment else None

-- a moment, as whole seconds or as text
abbrev pub moment_at : Json-F Json → Option ℕ
moment_at (Json-F.Nat n) = if nat_le n last_moment then Some n else None
moment_at (Json-F.Str s) = moment_of_text s
moment_at _ = None

-- the moment to which a clock is set
unfoldable pub clock_in : Json → Result ℕ Field
clock_in json = do
  members ← object_at field.Body (out-Json json)
  given field.Now (moment_at (under (codes "now") members))
