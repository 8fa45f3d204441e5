-- The lines of a journal's text, each as the members of one object: the header, and the entries by who made them.
use Rattle.std.specs.Prelude.{ℕ, List, [], ◌∷◌, codes, Option, Some, None}
use Rattle.serde_json.specs.Written.{compact_text}
use Rattle.json_tree.specs.declared.value.Json.{Json, Nat, Str}
use Rattle.json_tree.specs.Tree.{data_of}
use Rattle.resource_types.specs.declared.names.Name.{Name}
use Rattle.resource_types.specs.declared.names.Key.{Key}
use Rattle.resource_types.specs.declared.names.Controller.{Controller}
use Rattle.resource_types.specs.declared.names.Controller.TheVariants as controller
use Rattle.resource_types.specs.declared.names.SlotKey.{SlotKey}
use Rattle.resource_types.specs.declared.names.Actor.{Actor}
use Rattle.resource_types.specs.declared.names.Actor.TheVariants.{Client, Reporter, Controller as Controlled}
use Rattle.resource_types.specs.declared.conditions.Part.{Part}
use Rattle.resource_types.specs.declared.objects.Body.{Body}
use Rattle.resource_types.specs.declared.objects.Body.TheVariants.{Health}
use Rattle.resource_types.specs.declared.objects.Object.{Object}
use Rattle.resource_types.specs.declared.manifests.Manifest.{Manifest}
use Rattle.resource_types.specs.Manifests.{kind_word, manifest_of}
use Rattle.resource_codec.specs.Reading.{Member}
use Rattle.resource_codec.specs.Written.{object_of, written}
use Rattle.resource_codec.specs.Objects.{truth_word}
use Rattle.control_rules.specs.declared.settings.Settings.{Settings}
use Rattle.control_rules.specs.Slots.{ObjectEntry}

-- ---- the header

-- a number of the settings; one that doesn't count is the text `disabled`
abbrev pub count_json : Option ℕ → Json
count_json None = Str (codes "disabled")
count_json (Some count) = Nat count

-- the settings, and the moment of the plane
unfoldable pub header_of : Settings → ℕ → List Member
header_of settings now =
    (codes "domain", Str settings.domain)
    ∷ (codes "format", Str (codes "serving-journal-1"))
    ∷ (codes "maxNonActive", count_json settings.gc.most)
    ∷ (codes "minNonActive", Nat settings.gc.least)
    ∷ (codes "now", Nat now)
    ∷ (codes "retainActive", count_json settings.gc.active)
    ∷ (codes "retainCreate", count_json settings.gc.create)
    ∷ []

-- ---- what a client did

-- what a client would write of an object, whatever its version
abbrev pub unversioned : Object → Manifest
unversioned object = record (manifest_of object) { version = [] }

-- a manifest as a text of compact JSON
abbrev pub manifest_text : Manifest → List ℕ
manifest_text manifest = compact_text (data_of (written manifest))

-- that of what a client would write of an object
unfoldable pub put_text : Object → List ℕ
put_text object = manifest_text (unversioned object)

-- a client put what the text of a manifest asks for
abbrev pub asking_line : ℕ → List ℕ → List Member
asking_line moment text =
    (codes "actor", Str (codes "client"))
    ∷ (codes "moment", Nat moment)
    ∷ (codes "put", Str text)
    ∷ []

-- a client put this object
unfoldable pub put_line : ℕ → Object → List Member
put_line moment object = asking_line moment (put_text object)

-- the object that a client removed
unfoldable pub key_members : Key → List Member
key_members key =
    (codes "kind", Str (kind_word key.kind))
    ∷ (codes "name", Str key.name.name)
    ∷ (codes "namespace", Str key.name.space)
    ∷ []

-- a client removed what stood under this key
unfoldable pub removal_line : ℕ → Key → List Member
removal_line moment key =
    (codes "actor", Str (codes "client"))
    ∷ (codes "moment", Nat moment)
    ∷ (codes "remove", object_of (key_members key))
    ∷ []

-- a client's entry on a key, by what stands after it
abbrev pub client_line : ℕ → Key → Option Object → List Member
client_line moment key None = removal_line moment key
client_line moment key (Some object) = put_line moment object

-- ---- what a reporter told

-- a part that was reported; the texts stand even where they are empty
unfoldable pub part_members : Part → List Member
part_members part =
    (codes "message", Str part.message)
    ∷ (codes "reason", Str part.reason)
    ∷ (codes "status", Str (truth_word part.truth))
    ∷ []

-- a reporter told this of the two parts of a Revision
unfoldable pub report_line : ℕ → Name → Part → Part → List Member
report_line moment revision resources container =
    (codes "actor", Str (codes "reporter"))
    ∷ (codes "containerHealthy", object_of (part_members container))
    ∷ (codes "moment", Nat moment)
    ∷ (codes "name", Str revision.name)
    ∷ (codes "namespace", Str revision.space)
    ∷ (codes "resourcesAvailable", object_of (part_members resources))
    ∷ []

-- a reporter's entry on a Revision, by the body that it put; no lawful journal has one that puts anything but a Health
abbrev pub body_line : ℕ → Name → Body → List Member
body_line moment revision (Health uid resources container ever) = report_line moment revision resources container
body_line moment revision other = []

-- the same, by what stands after it
abbrev pub reporter_line : ℕ → Name → Option Object → List Member
reporter_line moment revision None = []
reporter_line moment revision (Some object) = body_line moment revision object.body

-- ---- what a controller did

abbrev pub controller_word : Controller → List ℕ
controller_word controller.Service = codes "Service"
controller_word controller.Configuration = codes "Configuration"
controller_word controller.Revision = codes "Revision"
controller_word controller.Collector = codes "Collector"
controller_word controller.Route = codes "Route"

-- a controller wrote what was due to a name at its look: when it looked, and how many entries it saw
abbrev pub look_line : ℕ → SlotKey → ℕ → ℕ → List Member
look_line moment by read_at seen =
    (codes "actor", Str (controller_word by.controller))
    ∷ (codes "moment", Nat moment)
    ∷ (codes "name", Str by.name.name)
    ∷ (codes "namespace", Str by.name.space)
    ∷ (codes "readAt", Nat read_at)
    ∷ (codes "seen", Nat seen)
    ∷ []

-- the same of an entry
unfoldable pub controller_line : ObjectEntry → SlotKey → List Member
controller_line entry by = look_line entry.moment by entry.read_at entry.seen

-- ---- an entry

-- by who made it
abbrev pub line_by : ObjectEntry → Actor → List Member
line_by entry Client = client_line entry.moment entry.key entry.object
line_by entry Reporter = reporter_line entry.moment entry.key.name entry.object
line_by entry (Controlled by) = controller_line entry by

abbrev pub line_of : ObjectEntry → List Member
line_of entry = line_by entry entry.actor
