-- What a client's write is: what stands, and the put of the object that a manifest asks for.
use Rattle.std.specs.Prelude.{◌≡◌, ℕ, true, false, List, Option, Some, None}
use Rattle.serve_names.specs.Labels.{is_label_of}
use Rattle.version_store.specs.declared.write.Expect.{Expect}
use Rattle.version_store.specs.declared.write.Expect.TheVariants as expect
use Rattle.version_store.specs.declared.write.Change.{Change}
use Rattle.version_store.specs.declared.write.Change.TheVariants as change
use Rattle.resource_types.specs.declared.names.Kind.{Kind}
use Rattle.resource_types.specs.declared.names.ClientKind.{ClientKind}
use Rattle.resource_types.specs.declared.names.Key.{Key}
use Rattle.resource_types.specs.declared.objects.Object.{Object}
use Rattle.resource_types.specs.declared.manifests.Manifest.{Manifest}
use Rattle.resource_types.specs.Lookups.{Journal, state, find, key_of}
use Rattle.resource_codec.specs.Storable.{IsStorable}
use Rattle.manifest_intake.specs.Intake.{Purpose}
use Rattle.manifest_intake.specs.Good.{IsAcceptedFor}
use Rattle.api_outcomes.specs.declared.outcome.Outcome.{Outcome}
use Rattle.control_rules.specs.Steps.{expect_of}
use Rattle.api_outcomes.specs.Replies.{shown}
use Rattle.api_outcomes.specs.Outcomes.{ClientPlan}
use Rattle.resource_types.specs.Manifests.{object_kind}
use Rattle.api_puts.specs.Objects.{made_over, with_stamp, put_over}

-- ---- what stands

-- the object of a kind, a namespace and a name that stands
abbrev pub standing : Journal → Kind → List ℕ → List ℕ → Option Object
standing journal kind space name = find (key_of kind space name) (state journal)

-- the object stands under the kind and the name, and may be stored
pub record StandsAs (journal : Journal) (kind : Kind) (space name : List ℕ) (o : Object) : Type 0 where
  pub stands : standing journal kind space name ≡ Some o
  pub key : o.key ≡ key_of kind space name
  pub storable : IsStorable o

-- ---- writes

-- a plan without a guard
abbrev pub plan_of : Key → Expect → Change Object → ClientPlan
plan_of key expects change = record { key = key; expect = expects; guarded = false; change = change }

-- the put of an object under its key
abbrev pub put_of : Expect → Object → ClientPlan
put_of expects o = plan_of o.key expects (change.Put o)

-- an object is put over what stands, and what stands then is shown
unfoldable pub puts : ℕ → Option Object → Expect → Object → Outcome
puts code old expects o = record { reply = shown code (put_over old o); plan = Some (put_of expects o) }

-- the key of an object that clients write
abbrev pub place_key : ClientKind → List ℕ → List ℕ → Key
place_key kind space name = key_of (object_kind kind) space name

-- the object that a manifest makes of what stands, with the stamp that it gets
unfoldable pub object_put : Journal → ℕ → Key → Option Object → Manifest → Object
object_put journal moment key old m = with_stamp journal moment (made_over key old m)

-- the manifest asks for the object of the place: it was accepted and has the name, and the namespace is a label
pub record AsksFor (kind : ClientKind) (space name : List ℕ) (m : Manifest) : Type 0 where
  pub purpose : Purpose
  pub taken : IsAcceptedFor purpose kind m
  pub named : m.name ≡ name
  pub label : is_label_of space 63 ≡ true

-- a manifest is put where nothing stands
abbrev pub makes : Journal → ℕ → ClientKind → List ℕ → List ℕ → Manifest → Outcome
makes journal moment kind space name m = puts 201 None expect.Absent (object_put journal moment (place_key kind space name) None m)

-- the same over an object that stands
abbrev pub replaces : Journal → ℕ → ClientKind → List ℕ → List ℕ → Object → Manifest → Outcome
replaces journal moment kind space name old m =
    puts 200 (Some old) (expect.At old.meta.stamp.version) (object_put journal moment (place_key kind space name) (Some old) m)

-- the put of what a manifest makes of what stands under the key, which is expected to stand
unfoldable pub put_under : Journal → Key → Manifest → ClientPlan
put_under journal key m = let old = find key (state journal) in put_of (expect_of old) (made_over key old m)

-- the same under the manifest's own kind, namespace and name
abbrev pub manifest_put : Journal → ClientKind → Manifest → ClientPlan
manifest_put journal kind m = put_under journal (place_key kind m.namespace m.name) m
