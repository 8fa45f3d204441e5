-- The keys of the objects of a kind, one after another.
use Rattle.std.proofs.Common.{◌≡◌, ℕ, zero, suc, ◌+◌, ◌≤◌, Bool, true, false, ◌&&◌, cond, List, [], ◌∷◌, ◌++◌, append_assoc, append-nil, length, drop, Some, refl, sym, ap, ◌∙◌, arith}
use Rattle.std.specs.Prelude.{map, slice_get}
use Rattle.std.specs.List.{filter}
use Rattle.resource_types.specs.declared.names.Kind.{Kind}
use Rattle.resource_types.specs.declared.names.Controller.{Controller}
use Rattle.resource_types.specs.declared.names.Name.{Name}
use Rattle.resource_types.specs.declared.names.SlotKey.{SlotKey}
use Rattle.resource_types.specs.declared.objects.Object.{Object}
use Rattle.resource_types.specs.Objects.{same_kind, is_of, kind_of_body}
use Rattle.resource_types.specs.Lookups.{State, of_kind}
use Rattle.resource_types.proofs.Lists.{drop_at}
use Rattle.control_rules.specs.Slots.{names_of, slot_key}

-- the name of an object
abbrev name_of : Object → Name
name_of o = o.key.name

either : (c : Bool) (o : Object) (one other : State) → map name_of one ≡ map name_of other → map name_of (cond c (o ∷ one) one) ≡ map name_of (cond c (o ∷ other) other)
either true o one other e = ap (λ ns. o.key.name ∷ ns) e
either false o one other e = e

of_kind_by : (k : Kind) (o : Object) (one other : State) → map name_of (filter (is_of k) one) ≡ map name_of (filter (is_of k) other) → (a b : Bool) → is_of k o ≡ (a && b)
    → names_of k (cond a (o ∷ one) one) ≡ map name_of (cond (is_of k o) (o ∷ filter (is_of k) other) (filter (is_of k) other))
of_kind_by k o one other e true b is = either (is_of k o) o (filter (is_of k) one) (filter (is_of k) other) e
of_kind_by k o one other e false b is = e ∙ sym (ap (λ c. map name_of (cond c (o ∷ filter (is_of k) other) (filter (is_of k) other))) is)

-- the names of the objects of a kind are those of the objects whose keys are of it
pub names_kind : (k : Kind) (st : State) → names_of k (of_kind k st) ≡ names_of k st
names_kind k [] = refl
names_kind k (o ∷ st) = of_kind_by k o (of_kind k st) st (names_kind k st) (same_kind o.key.kind k) (same_kind (kind_of_body o.body) k) refl

module _ (c : Controller) (k : Kind) (objects : State) (all keys : List SlotKey) (place : ℕ) (so_far : keys ++ map (slot_key c) (names_of k (drop place objects)) ≡ all) where
  -- an object of the kind, and one that isn't
  pub key_more : (o : Object) → slice_get objects place ≡ Some o → is_of k o ≡ true → (keys ++ slot_key c o.key.name ∷ []) ++ map (slot_key c) (names_of k (drop (place + 1) objects)) ≡ all
  key_more o at is =
      append_assoc keys (slot_key c o.key.name ∷ []) (map (slot_key c) (names_of k (drop (place + 1) objects)))
      ∙ sym (ap (λ ns. keys ++ map (slot_key c) ns)
      (ap (names_of k) (drop_at objects place o at) ∙ ap (λ b. map name_of (cond b (o ∷ filter (is_of k) (drop (place + 1) objects)) (filter (is_of k) (drop (place + 1) objects)))) is))
      ∙ so_far

  pub key_less : (o : Object) → slice_get objects place ≡ Some o → is_of k o ≡ false → keys ++ map (slot_key c) (names_of k (drop (place + 1) objects)) ≡ all
  key_less o at is =
      sym (ap (λ ns. keys ++ map (slot_key c) ns)
      (ap (names_of k) (drop_at objects place o at) ∙ ap (λ b. map name_of (cond b (o ∷ filter (is_of k) (drop (place + 1) objects)) (filter (is_of k) (drop (place + 1) objects)))) is))
      ∙ so_far

pub drop_past : (xs : State) (n : ℕ) → length xs ≤ n → drop n xs ≡ []
drop_past [] zero le = refl
drop_past [] (suc n) le = refl
drop_past (x ∷ xs) zero le = absurd (omega (arith, le))
drop_past (x ∷ xs) (suc n) le = let le' : length xs ≤ n = omega (arith, le) in drop_past xs n le'

-- no object is left
pub keys_whole : (c : Controller) (k : Kind) (objects : State) (keys : List SlotKey) (place : ℕ) (all : List SlotKey) → keys ++ map (slot_key c) (names_of k (drop place objects)) ≡ all → length objects ≤ place → keys ≡ all
keys_whole c k objects keys place all e le =
    sym (append-nil keys) ∙ sym (ap (λ os. keys ++ map (slot_key c) (names_of k os)) (drop_past objects place le)) ∙ e

-- a name more
pub name_more : (c : Controller) (names : List Name) (all keys : List SlotKey) (place : ℕ) → keys ++ map (slot_key c) (drop place names) ≡ all → (n : Name) → slice_get names place ≡ Some n
    → (new : List SlotKey) → new ≡ keys ++ slot_key c n ∷ [] → new ++ map (slot_key c) (drop (place + 1) names) ≡ all
name_more c names all keys place so_far n at new e =
    ap (λ ks. ks ++ map (slot_key c) (drop (place + 1) names)) e ∙ append_assoc keys (slot_key c n ∷ []) (map (slot_key c) (drop (place + 1) names))
    ∙ sym (ap (λ ns. keys ++ map (slot_key c) ns) (drop_at names place n at)) ∙ so_far
