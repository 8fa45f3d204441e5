-- What stands: its order, and which of it a Configuration owns.
use Rattle.std.proofs.Common.{◌≡◌, true}
use Rattle.std.specs.Prelude.{◌&&◌, bytes_eq}
use Rattle.version_store.specs.Index.{AreInOrder}
use Rattle.version_store.proofs.States.{state_order}
use Rattle.std.specs.List.{list_any}
use Rattle.resource_types.specs.declared.names.Kind.{Kind}
use Rattle.resource_types.specs.declared.names.Kind.TheVariants as kind
use Rattle.resource_types.specs.declared.names.Name.{Name}
use Rattle.resource_types.specs.declared.objects.Object.{Object}
use Rattle.resource_types.specs.contracts.names.KeyOrd.TheImpl as key_order
use Rattle.resource_types.specs.contracts.names.KeyOrd.TheImpl.Laws as key_laws
use Rattle.resource_types.specs.contracts.item.ObjectItem.TheImpl as object_item
use Rattle.resource_types.specs.Objects.{same_kind, is_of, kind_of_body, targets_of}
use Rattle.resource_types.specs.Lookups.{Journal, state, is_given, is_owner, is_owned_by, is_target_on, is_naming}
use Rattle.resource_types.proofs.Exact.{left, right, kind-exact}
use Rattle.resource_types.proofs.Latest.{key_of_object}

-- the objects stand in order of key
pub state-order : (entries : Journal) → AreInOrder key_of_object key_order.ghosts.cmp (state entries)
state-order entries = state_order object_item.ghosts key_order.ghosts.cmp key_laws.total-law entries

-- what is owned is a Revision
pub owned-kind : (c r : Object) → is_owned_by c r ≡ true → r.key.kind ≡ kind.Revision
owned-kind c r e =
    let space = bytes_eq r.key.name.space c.key.name.space in
    let of_kind = left (is_of kind.Revision r) space (left (is_of kind.Revision r && space) (is_given (is_owner c) r.meta.owner) e) in
    kind-exact r.key.kind kind.Revision (left (same_kind r.key.kind kind.Revision) (same_kind (kind_of_body r.body) kind.Revision) of_kind)

-- what is owned is in the owner's namespace
pub owned-space : (c r : Object) → is_owned_by c r ≡ true → bytes_eq r.key.name.space c.key.name.space ≡ true
owned-space c r e =
    let space = bytes_eq r.key.name.space c.key.name.space in
    right (is_of kind.Revision r) space (left (is_of kind.Revision r && space) (is_given (is_owner c) r.meta.owner) e)

-- what names a Revision is in the Revision's namespace
pub naming-space : (kind : Kind) (name : Name) (o : Object) → is_naming kind name o ≡ true → bytes_eq o.key.name.space name.space ≡ true
naming-space kind name o e =
    let space = bytes_eq o.key.name.space name.space in
    right (is_of kind o) space (left (is_of kind o && space) (list_any (is_target_on name.name) (targets_of o.body)) e)
