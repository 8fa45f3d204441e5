-- What each call comes to, over the journal as it stands at a moment: the first reason to refuse it, or a reply and perhaps a write.
use Rattle.std.specs.Prelude.{◌||◌, not, ℕ, Bool, true, false, List, [], ◌∷◌, length, Option, Some, None, Ok, nat_le}
use Rattle.answers.specs.Answers.{requires_that}
use Rattle.json_tree.specs.declared.value.Json.{Json}
use Rattle.json_tree.specs.Tree.{data_of}
use Rattle.json_tree.specs.Back.{json_of}
use Rattle.merge_patch.specs.Merge.{merge_of}
use Rattle.version_store.specs.declared.write.Expect.TheVariants as expect
use Rattle.version_store.specs.declared.write.Change.TheVariants as change
use Rattle.resource_types.specs.declared.names.Kind.{Kind}
use Rattle.resource_types.specs.declared.names.Kind.TheVariants as kind
use Rattle.resource_types.specs.declared.names.ClientKind.{ClientKind}
use Rattle.resource_types.specs.declared.objects.Object.{Object}
use Rattle.resource_types.specs.declared.manifests.Manifest.{Manifest}
use Rattle.resource_types.specs.Lookups.{Journal, state, is_in_use}
use Rattle.resource_types.specs.Manifests.{manifest_of}
use Rattle.resource_codec.specs.Reading.{◌>>=◌}
use Rattle.resource_codec.specs.Written.{written}
use Rattle.resource_codec.specs.Views.{poll_of, list_of}
use Rattle.validation.specs.Change.{change_fault}
use Rattle.validation.specs.Defaults.{is_empty}
use Rattle.manifest_intake.specs.Intake.{create, replace}
use Rattle.api_outcomes.specs.declared.outcome.Outcome.{Outcome}
use Rattle.api_outcomes.specs.declared.refusal.Refusal.TheVariants.{NoSuchPath, VersionMissing, InUse, BeyondNewest}
use Rattle.api_outcomes.specs.Replies.{reply_of, shown, removed}
use Rattle.api_outcomes.specs.Outcomes.{Answer, only}
use Rattle.resource_types.specs.Manifests.{object_kind}
use Rattle.api_puts.specs.Puts.{standing, plan_of, makes, replaces}
use Rattle.api_calls.specs.Agreement.{manifest_in, there, not_there, changed_well, is_version_of, conflict}

-- ---- the calls

-- the kinds that have paths
abbrev pub is_served : Kind → Bool
is_served kind.Health = false
is_served other = true

-- the namespace that is asked for; the empty one stands for all
abbrev pub space_asked : List ℕ → Option (List ℕ)
space_asked [] = None
space_asked (b ∷ bs) = Some (b ∷ bs)

-- the kinds that clients remove
abbrev pub is_removable : Kind → Bool
is_removable kind.Service = true
is_removable kind.Configuration = true
is_removable kind.Revision = true
is_removable kind.Route = true
is_removable other = false

-- a list
unfoldable pub listing : Journal → Kind → List ℕ → Answer
listing journal kind space = do
  served ← requires_that (is_served kind) NoSuchPath
  Ok (only (reply_of 200 (data_of (list_of journal kind (space_asked space)))))

-- a poll
unfoldable pub polling : Journal → Kind → List ℕ → ℕ → Answer
polling journal kind space after = do
  served ← requires_that (is_served kind) NoSuchPath
  within ← requires_that (nat_le after (length journal)) (BeyondNewest after (length journal))
  Ok (only (reply_of 200 (data_of (poll_of journal kind (space_asked space) after))))

-- one object
unfoldable pub reading : Journal → Kind → List ℕ → List ℕ → Answer
reading journal kind space name = do
  served ← requires_that (is_served kind) NoSuchPath
  o ← there kind name (standing journal kind space name)
  Ok (only (shown 200 o))

-- an object is made: the manifest, and then what stands
unfoldable pub creating : Journal → ℕ → ClientKind → List ℕ → Json → Answer
creating journal moment kind space json = do
  m ← manifest_in (create space) kind json
  free ← not_there (object_kind kind) m.name (standing journal (object_kind kind) space m.name)
  Ok (makes journal moment kind space m.name m)

-- a manifest is put over the object that stands: the version that stands, the template under its name
unfoldable pub agreeing : Journal → ℕ → ClientKind → List ℕ → List ℕ → Object → Bool → Manifest → Answer
agreeing journal moment kind space name old is_fresh m = do
  fresh ← requires_that is_fresh (conflict (object_kind kind) old)
  kept ← changed_well (change_fault old m)
  Ok (replaces journal moment kind space name old m)

-- a manifest replaces an object: what stands, and what it must agree with
unfoldable pub replacing_with : Journal → ℕ → ClientKind → List ℕ → List ℕ → Manifest → Answer
replacing_with journal moment kind space name m = do
  old ← there (object_kind kind) name (standing journal (object_kind kind) space name)
  agreeing journal moment kind space name old (is_version_of old m.version) m

-- the manifest gives a version
abbrev pub gives_version : Manifest → Bool
gives_version m = not (is_empty m.version)

-- an object is replaced: the manifest, its version, and then what stands
unfoldable pub replacing : Journal → ℕ → ClientKind → List ℕ → List ℕ → Json → Answer
replacing journal moment kind space name json = do
  m ← manifest_in (replace space name) kind json
  given ← requires_that (gives_version m) VersionMissing
  replacing_with journal moment kind space name m

-- the document of an object, which a patch changes: its manifest without a version
abbrev pub document_of : Object → Json
document_of old = written (record (manifest_of old) { version = [] })

-- the same, changed as a patch says
abbrev pub patched_document : Object → Json → Json
patched_document old patch = json_of (merge_of (data_of (document_of old)) (data_of patch))

-- a version is absent, or that of the object
abbrev pub is_absent_or_fresh : Object → List ℕ → Bool
is_absent_or_fresh old given = is_empty given || is_version_of old given

-- the patched document is put over what stands, as in a replacement, but its version may be absent
unfoldable pub patching_over : Journal → ℕ → ClientKind → List ℕ → List ℕ → Object → Json → Answer
patching_over journal moment kind space name old patched = do
  m ← manifest_in (replace space name) kind patched
  agreeing journal moment kind space name old (is_absent_or_fresh old m.version) m

-- an object is patched: what stands, and then the patched document
unfoldable pub patching : Journal → ℕ → ClientKind → List ℕ → List ℕ → Json → Answer
patching journal moment kind space name patch = do
  old ← there (object_kind kind) name (standing journal (object_kind kind) space name)
  patching_over journal moment kind space name old (patched_document old patch)

-- the removal of an object
unfoldable pub removes : Object → Outcome
removes o = record { reply = removed; plan = Some (plan_of o.key (expect.At o.meta.stamp.version) change.Remove) }

-- whether the object is a Revision that is in use
abbrev pub is_used : Journal → Kind → Object → Bool
is_used journal kind.Revision o = is_in_use (state journal) o.key.name
is_used journal other o = false

-- an object is removed: what stands, and that it isn't in use
unfoldable pub removing : Journal → Kind → List ℕ → List ℕ → Answer
removing journal kind space name = do
  removable ← requires_that (is_removable kind) NoSuchPath
  o ← there kind name (standing journal kind space name)
  unused ← requires_that (not (is_used journal kind o)) (InUse o.key.name.name)
  Ok (removes o)
