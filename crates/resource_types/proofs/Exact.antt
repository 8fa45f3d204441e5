-- Values that compare as equal are equal: names, keys, keys of slots, and objects but for their stamps.
use Rattle.std.proofs.Common.{◌≡◌, List, ℕ, Bool, true, false, Equal, refl, ap, ◌∙◌}
use Rattle.std.specs.Prelude.{◌&&◌, bytes_eq}
use Rattle.std.specs.Ordering.{is_eq}
use Rattle.std.proofs.lemmas.Slice.Eq.{bytes_eq-Decides}
use Rattle.json_tree.specs.EqualLaws.{is_equal-exact}
use Rattle.resource_types.specs.declared.names.Kind.{Kind}
use Rattle.resource_types.specs.declared.names.Name.{Name}
use Rattle.resource_types.specs.declared.names.Key.{Key}
use Rattle.resource_types.specs.declared.names.Controller.{Controller}
use Rattle.resource_types.specs.declared.names.SlotKey.{SlotKey}
use Rattle.resource_types.specs.declared.objects.Object.{Object}
use Rattle.resource_types.specs.contracts.names.Kind as kind_row
use Rattle.resource_types.specs.contracts.names.NameOrd.TheImpl as name_order
use Rattle.resource_types.specs.contracts.names.NameOrd.TheImpl.Laws as name_laws
use Rattle.resource_types.specs.contracts.names.KeyOrd.TheImpl as key_order
use Rattle.resource_types.specs.contracts.names.KeyOrd.TheImpl.Laws as key_laws
use Rattle.resource_types.specs.contracts.names.KeyPartialEq.TheImpl as key_eq
use Rattle.resource_types.specs.contracts.names.Controller as controller_row
use Rattle.resource_types.specs.contracts.names.ControllerPartialEq.TheImpl as controller_eq
use Rattle.resource_types.specs.contracts.names.SlotKeyPartialEq.TheImpl as slot_eq
use Rattle.resource_types.specs.contracts.names.SlotKeyOrd.TheImpl as slot_order
use Rattle.resource_types.specs.contracts.names.SlotKeyOrd.TheImpl.Laws as slot_laws
use Rattle.resource_types.specs.contracts.objects.Body as body
use Rattle.resource_types.specs.contracts.objects.Object as object
use Rattle.resource_types.specs.Objects.{same_kind}
use Rattle.resource_types.specs.Spec.{stamped, no_stamp, same_but_stamp, same_spec, spec_of}
use denote.Enum.Bare.{same_true, true_same}

-- the parts of a test
pub left : (a b : Bool) → (a && b) ≡ true → a ≡ true
left true b e = refl
left false b e = e

pub right : (a b : Bool) → (a && b) ≡ true → b ≡ true
right true b e = e
right false b e = cc

-- texts of the same bytes are equal
pub bytes-exact : (xs ys : List ℕ) → bytes_eq xs ys ≡ true → xs ≡ ys
bytes-exact xs ys e = (bytes_eq-Decides xs ys).0 e

-- kinds that are the same are equal
pub kind-exact : (a b : Kind) → same_kind a b ≡ true → a ≡ b
kind-exact a b e = same_true kind_row.the_type tt a b e

-- a kind is the same as itself
pub kind-own : (a : Kind) → same_kind a a ≡ true
kind-own a = true_same kind_row.the_type a a refl

name-same : (a b : Name) → (bytes_eq a.space b.space && bytes_eq a.name b.name) ≡ true → a ≡ b
name-same a b e =
    let space = bytes-exact a.space b.space (left (bytes_eq a.space b.space) (bytes_eq a.name b.name) e) in
    let name = bytes-exact a.name b.name (right (bytes_eq a.space b.space) (bytes_eq a.name b.name) e) in
    ap (λ x. record { space = x; name = a.name }) space ∙ ap (λ x. record { space = b.space; name = x }) name

-- names that compare as equal are equal
pub name-exact : (a b : Name) → name_order.ghosts.cmp a b ≡ Equal → a ≡ b
name-exact a b e = name-same a b (name_laws.matches_eq-law a b ∙ ap is_eq e)

-- keys that compare as equal are equal
pub key-exact : (a b : Key) → key_order.ghosts.cmp a b ≡ Equal → a ≡ b
key-exact a b e =
    let equal : key_eq.ghosts.eq a b ≡ true = key_laws.matches_eq-law a b ∙ ap is_eq e in
    let names = (bytes_eq a.name.space b.name.space && bytes_eq a.name.name b.name.name) in
    let kind = kind-exact a.kind b.kind (left (same_kind a.kind b.kind) names equal) in
    let name = name-same a.name b.name (right (same_kind a.kind b.kind) names equal) in
    ap (λ x. record { kind = x; name = a.name }) kind ∙ ap (λ x. record { kind = b.kind; name = x }) name

-- controllers that are the same are equal
pub controller-exact : (a b : Controller) → controller_eq.ghosts.eq a b ≡ true → a ≡ b
controller-exact a b e = same_true controller_row.the_type tt a b e

-- keys of slots that compare as equal are equal
pub slot-exact : (a b : SlotKey) → slot_order.ghosts.cmp a b ≡ Equal → a ≡ b
slot-exact a b e =
    let equal : slot_eq.ghosts.eq a b ≡ true = slot_laws.matches_eq-law a b ∙ ap is_eq e in
    let names = (bytes_eq a.name.space b.name.space && bytes_eq a.name.name b.name.name) in
    let controller = controller-exact a.controller b.controller (left (controller_eq.ghosts.eq a.controller b.controller) names equal) in
    let name = name-same a.name b.name (right (controller_eq.ghosts.eq a.controller b.controller) names equal) in
    ap (λ x. record { controller = x; name = a.name }) controller ∙ ap (λ x. record { controller = b.controller; name = x }) name

-- of objects that are the same, the one with the other's stamp is the other
pub same-exact : (a b : Object) → same_but_stamp a b ≡ true → stamped a b.meta.stamp ≡ b
same-exact a b e = ap (λ (o : Object). stamped o b.meta.stamp) (is_equal-exact object.the_row.coded (stamped a no_stamp) (stamped b no_stamp) e)

-- objects that have the same spec have equal specs
pub spec-exact : (a b : Object) → same_spec a b ≡ true → spec_of a.body ≡ spec_of b.body
spec-exact a b e = is_equal-exact body.the_row.coded (spec_of a.body) (spec_of b.body) e
