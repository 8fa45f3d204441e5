-- What was done, by the members of a line. Whether other members stand there, and in which order, isn't looked at: what is read
-- is written again, and compared.
use Rattle.std.specs.Prelude.{◌≡◌, ℕ, true, List, [], codes, Option, Some, None, Result, Ok, Err, if◌then◌else◌}
use Rattle.std.specs.Str.{bytes_eq}
use Rattle.json_tree.specs.Tree.{data_of}
use Rattle.json_tree.specs.declared.value.Json.{Json}
use Rattle.json_tree.specs.declared.value.Json.TheViews.{out-Json}
use Rattle.json_tree.specs.declared.value.Json.TheOpen.{Json-F}
use Rattle.serve_names.specs.Labels.{is_label_of}
use Rattle.resource_types.specs.declared.names.ClientKind.{ClientKind}
use Rattle.resource_types.specs.declared.names.Key.{Key}
use Rattle.resource_types.specs.declared.names.Name.{Name}
use Rattle.resource_types.specs.declared.conditions.Part.{Part}
use Rattle.resource_types.specs.declared.manifests.Manifest.{Manifest}
use Rattle.resource_types.specs.Manifests.{api_version}
use Rattle.resource_codec.specs.Reading.{Member, under}
use Rattle.resource_codec.specs.Written.{kind_of, written}
use Rattle.manifest_intake.specs.Intake.{checking, accepted}
use Rattle.manifest_intake.specs.Good.{IsGood, IsAcceptedFor}
use Rattle.journal_text.specs.Lines.{manifest_text}
use Rattle.journal_text.specs.Reads.{are_short}
use Rattle.journal_reader.specs.declared.deeds.Deed.{Deed}
use Rattle.journal_reader.specs.declared.deeds.Deed.TheVariants.{Put, Remove, Report, Write}
use Rattle.journal_reader.specs.declared.deeds.Line.{Line}
use Rattle.journal_reader.specs.Members.{◌>>=◌, when, object, text, number}
use Rattle.journal_reader.specs.Words.{kind_named, client_kind_named, controller_named, truth_named}

-- ---- removals, reports, and writes of controllers

unfoldable pub name_in : List Member → Option Name
name_in members = do
  name ← text (under (codes "name") members)
  space ← text (under (codes "namespace") members)
  Some (record { space = space; name = name })

unfoldable pub key_in : List Member → Option Key
key_in members = do
  word ← text (under (codes "kind") members)
  kind ← kind_named word
  name ← name_in members
  Some (record { kind = kind; name = name })

unfoldable pub removal_in : List Member → Option Deed
removal_in members = do
  removed ← object (under (codes "remove") members)
  key ← key_in removed
  Some (Remove key)

unfoldable pub part_in : List Member → Option Part
part_in members = do
  message ← text (under (codes "message") members)
  reason ← text (under (codes "reason") members)
  word ← text (under (codes "status") members)
  truth ← truth_named word
  Some (record { truth = truth; reason = reason; message = message })

unfoldable pub report_in : List Member → Option Deed
report_in members = do
  container ← object (under (codes "containerHealthy") members)
  container ← part_in container
  revision ← name_in members
  resources ← object (under (codes "resourcesAvailable") members)
  resources ← part_in resources
  Some (Report (record { revision = revision; resources = resources; container = container }))

-- what the controller of a word did
unfoldable pub write_in : List ℕ → List Member → Option Deed
write_in actor members = do
  controller ← controller_named actor
  read_at ← number (under (codes "readAt") members)
  seen ← number (under (codes "seen") members)
  name ← name_in members
  Some (Write (record { controller = controller; name = name }) read_at seen)

-- what was done by the actor of a word, unless a client put something
abbrev pub other_by : List ℕ → List Member → Option Deed
other_by actor members =
    if bytes_eq actor (codes "client") then removal_in members
    else if bytes_eq actor (codes "reporter") then report_in members
    else write_in actor members

unfoldable pub other_in : List Member → Option Deed
other_in members = do
  actor ← text (under (codes "actor") members)
  other_by actor members

-- ---- puts

-- the kind that a manifest says
unfoldable pub kind_in : Json → Option ClientKind
kind_in json = do
  members ← object (out-Json json)
  word ← text (under (codes "kind") members)
  client_kind_named word

-- what is accepted
abbrev pub taken : {A E : Type 0} → Result A E → Option A
taken (Ok x) = Some x
taken (Err e) = None

-- the manifest of a kind that a value gives by itself
abbrev pub manifest_in : ClientKind → Json → Option Manifest
manifest_in kind json = taken (accepted checking kind json)

-- what a client put, by the value of its manifest
unfoldable pub asked_in : Json → Option Deed
asked_in json = do
  kind ← kind_in json
  manifest ← manifest_in kind json
  when (is_label_of manifest.namespace 63) (Put kind manifest)

-- a manifest of what may be put: it is good, with the version of the API and without one of its own, and its numbers are of 64 bits
pub record IsAsked (m : Manifest) : Type 0 where
  pub good : IsGood m
  pub api : m.api ≡ api_version
  pub version : m.version ≡ []
  pub numbers : are_short (data_of (written m)) ≡ true

-- ---- what is known of what is read

-- the manifest of a put is accepted, and its namespace is a label
pub record IsGoodPut (kind : ClientKind) (m : Manifest) : Type 0 where
  pub accepted : IsAcceptedFor checking kind m
  pub label : is_label_of m.namespace 63 ≡ true

-- the same of what was done, if it is a put
abbrev pub IsGoodDeed : Deed → Type 0
IsGoodDeed (Put kind manifest) = IsGoodPut kind manifest
IsGoodDeed other = Unit {0}

-- ---- what members say

-- members without a put say this
abbrev pub SaysOther : List Member → Deed → Type 0
SaysOther members deed = (under (codes "put") members ≡ Json-F.Null) × (other_in members ≡ Some deed)

-- members say that this was done
abbrev pub SaysDeed : List Member → Deed → Type 0
SaysDeed members (Put kind m) = (kind_of m.spec ≡ kind) × IsAsked m × (under (codes "put") members ≡ Json-F.Str (manifest_text m))
SaysDeed members other = SaysOther members other

-- and when
abbrev pub SaysLine : List Member → Line → Type 0
SaysLine members line = (number (under (codes "moment") members) ≡ Some line.moment) × SaysDeed members line.deed
