-- The object that a manifest asks for.
use Rattle.std.specs.Prelude.{ℕ, Option, Some, None, if◌then◌else◌}
use Rattle.version_store.specs.Journal.{stamp_after}
use Rattle.resource_types.specs.declared.names.Key.{Key}
use Rattle.resource_types.specs.declared.status.ObjectStatus.{ObjectStatus}
use Rattle.resource_types.specs.declared.manifests.Manifest.{Manifest}
use Rattle.resource_types.specs.declared.manifests.ManifestSpec.{ManifestSpec}
use Rattle.resource_types.specs.declared.manifests.ManifestSpec.TheVariants as spec
use Rattle.resource_types.specs.declared.objects.Body.{Body}
use Rattle.resource_types.specs.declared.objects.Body.TheVariants as body
use Rattle.resource_types.specs.declared.objects.Object.{Object}
use Rattle.resource_types.specs.contracts.names.KeyOrd.TheImpl as key_order
use Rattle.resource_types.specs.contracts.item.ObjectItem.TheImpl as object_item
use Rattle.resource_types.specs.Spec.{no_stamp, stamped, same_but_stamp}
use Rattle.resource_types.specs.Lookups.{Journal}
use Rattle.resource_types.specs.Objects.{owner_of, status_over}

-- a spec with a status
abbrev pub body_of : ManifestSpec → ObjectStatus → Body
body_of (spec.Service template traffic) status = body.Service template traffic status
body_of (spec.Configuration template) status = body.Configuration template status
body_of (spec.Route traffic) status = body.Route traffic status

-- what a manifest makes of the object that stands: labels, annotations and spec are as given, owner and status stay
abbrev pub made_over : Key → Option Object → Manifest → Object
made_over key standing m = record {
  key = key;
  meta = record { stamp = no_stamp; owner = owner_of standing; labels = m.labels; annotations = m.annotations };
  body = body_of m.spec (status_over standing);
}

-- the object with the stamp that the store gives it, where it is put now
abbrev pub with_stamp : Journal → ℕ → Object → Object
with_stamp journal moment o = stamped o (stamp_after object_item.ghosts key_order.ghosts.cmp journal o moment)

-- what stands once an object is put: it, or the one that stood, where the two are the same but for their stamps
abbrev pub put_over : Option Object → Object → Object
put_over None o = o
put_over (Some old) o = if same_but_stamp o old then old else o
