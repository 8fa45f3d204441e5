-- A document that gives a version, and what it means that a patch is the put of one.
use Rattle.std.specs.Prelude.{◌≡◌, ℕ, List, codes, Some, Ok}
use Rattle.json_tree.specs.declared.value.Json.{Json, Str}
use Rattle.json_tree.specs.declared.value.Json.TheViews.{out-Json}
use Rattle.json_tree.specs.declared.value.Json.TheOpen.{Json-F}
use Rattle.json_tree.specs.Tree.{put_entry}
use Rattle.resource_types.specs.declared.names.ClientKind.{ClientKind}
use Rattle.resource_types.specs.declared.objects.Object.{Object}
use Rattle.resource_types.specs.Lookups.{Journal}
use Rattle.resource_types.specs.Manifests.{object_kind}
use Rattle.resource_codec.specs.Reading.{Member, under}
use Rattle.resource_codec.specs.Written.{object_of}
use Rattle.api_outcomes.specs.declared.outcome.Outcome.{Outcome}
use Rattle.api_puts.specs.Puts.{standing}
use Rattle.api_calls.specs.Agreement.{version_text}
use Rattle.api_calls.specs.Calls.{patched_document, replacing}

-- the members of a document, with the text as the `resourceVersion` of what stands under `metadata`, where that is an object
abbrev pub members_versioned : List ℕ → Json-F Json → List Member → List Member
members_versioned version (Json-F.Obj metadata) members = put_entry (codes "metadata") (object_of (put_entry (codes "resourceVersion") (Str version) metadata.entries)) members
members_versioned version other members = members

-- a document that is seen as an object or as another value, with the text as its version where it is an object
abbrev pub versioned_as : List ℕ → Json-F Json → Json → Json
versioned_as version (Json-F.Obj body) document = object_of (members_versioned version (under (codes "metadata") body.entries) body.entries)
versioned_as version other document = document

-- the document with the text as the `resourceVersion` in its `metadata`; it stays as it is where it or its `metadata` is no object
unfoldable pub versioned : List ℕ → Json → Json
versioned version document = versioned_as version (out-Json document) document

-- The reply and the write are those of a put over what stands, at the same moment: its body is what the patch makes of the document that
-- stands, with the version that stands.
pub record IsPutOf (journal : Journal) (moment : ℕ) (kind : ClientKind) (space name : List ℕ) (patch : Json) (outcome : Outcome) : Type 0 where
  pub old : Object
  pub stands : standing journal (object_kind kind) space name ≡ Some old
  pub put : replacing journal moment kind space name (versioned (version_text old) (patched_document old patch)) ≡ Ok outcome
