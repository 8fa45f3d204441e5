-- A pass that leaves out keys: rounds of keys that change nothing may be skipped.
use Rattle.std.proofs.Common.{◌≡◌, suc, ◌<◌, Bool, true, false, ◌||◌, cond, List, [], ◌∷◌, ◌++◌, length, filter, map, Option, Some, None, Ordering, refl, sym, ap, subst, ◌∙◌, arith}
use Rattle.std.specs.List.{list_any}
use Rattle.std.specs.Ordering.{is_eq, is_lt, ordering_reverse}
use Rattle.std.specs.declared.cmp.Ordering.TheVariants.{Less, Equal, Greater}
use Rattle.version_store.specs.Index.{AreInOrder, AreGreater}
use Rattle.version_store.proofs.Keyed.{order-put, greater_than_less}
use Rattle.resource_types.specs.declared.names.Kind.{Kind}
use Rattle.resource_types.specs.declared.names.Kind.TheVariants as kind
use Rattle.resource_types.specs.declared.names.Controller.{Controller}
use Rattle.resource_types.specs.declared.names.Controller.TheVariants as controller
use Rattle.resource_types.specs.declared.names.Name.{Name}
use Rattle.resource_types.specs.declared.names.SlotKey.{SlotKey}
use Rattle.resource_types.specs.declared.objects.Object.{Object}
use Rattle.resource_types.specs.contracts.names.NameOrd.TheImpl as name_order
use Rattle.resource_types.specs.contracts.names.NameOrd.TheImpl.Laws as name_laws
use Rattle.resource_types.specs.contracts.names.KeyOrd.TheImpl as key_order
use Rattle.resource_types.specs.contracts.names.SlotKeyOrd.TheImpl as slot_order
use Rattle.resource_types.specs.contracts.names.SlotKeyOrd.TheImpl.Laws as slot_laws
use Rattle.resource_types.specs.Objects.{same_kind, is_of, kind_of_body}
use Rattle.resource_types.specs.Lookups.{Journal, State, state}
use Rattle.resource_types.proofs.Exact.{left, name-exact, kind-exact}
use Rattle.resource_types.proofs.Ordered.{state-order}
use Rattle.control_rules.specs.Standing.{key_at}
use Rattle.control_rules.specs.Slots.{same_name, names_of, in_order, all_holders, names_for, slot_key, Plane}
use Rattle.control_rules.specs.Steps.{is_after}
use Rattle.control_rules.specs.Turns.{round, rounds}

-- ---- the names of a controller stand in order

abbrev AreNamesInOrder : List Name → Type 0
AreNamesInOrder ns = AreInOrder (λ (n : Name). n) name_order.ghosts.cmp ns

abbrev AreNamesBehind : Name → List Name → Type 0
AreNamesBehind n ns = AreGreater (λ (n : Name). n) name_order.ghosts.cmp n ns

-- keys of one kind stand in the order of their names
key_side : (k : Kind) (a b : Name) → key_order.ghosts.cmp (key_at k a) (key_at k b) ≡ name_order.ghosts.cmp a b
key_side kind.Service a b = refl
key_side kind.Configuration a b = refl
key_side kind.Revision a b = refl
key_side kind.Route a b = refl
key_side kind.Health a b = refl
key_side kind.Table a b = refl

-- and so do keys of one controller
pub slot_side : (c : Controller) (a b : Name) → slot_order.ghosts.cmp (slot_key c a) (slot_key c b) ≡ name_order.ghosts.cmp a b
slot_side controller.Service a b = refl
slot_side controller.Configuration a b = refl
slot_side controller.Revision a b = refl
slot_side controller.Collector a b = refl
slot_side controller.Route a b = refl

own_key : (k : Kind) (o : Object) → is_of k o ≡ true → o.key ≡ key_at k o.key.name
own_key k o e = ap (λ z. key_at z o.key.name) (kind-exact o.key.kind k (left (same_kind o.key.kind k) (same_kind (kind_of_body o.body) k) e))

names_behind : (k : Kind) (o : Object) (st : State) → is_of k o ≡ true → AreGreater (λ (x : Object). x.key) key_order.ghosts.cmp o.key st → AreNamesBehind o.key.name (names_of k st)
names_behind k o [] is h = tt
names_behind k o (x ∷ st) is h = go (is_of k x) refl (names_behind k o st is h.1)
  where
    go : (b : Bool) → is_of k x ≡ b → AreNamesBehind o.key.name (names_of k st) → AreNamesBehind o.key.name (map (λ (y : Object). y.key.name) (cond b (x ∷ filter (is_of k) st) (filter (is_of k) st)))
    go true e rest = (sym (key_side k o.key.name x.key.name) ∙ (λ i. key_order.ghosts.cmp (sym (own_key k o is) i) (sym (own_key k x e) i)) ∙ h.0, rest)
    go false e rest = rest

names_ordered : (k : Kind) (st : State) → AreInOrder (λ (x : Object). x.key) key_order.ghosts.cmp st → AreNamesInOrder (names_of k st)
names_ordered k [] h = tt
names_ordered k (o ∷ st) h = go (is_of k o) refl (names_ordered k st h.1)
  where
    go : (b : Bool) → is_of k o ≡ b → AreNamesInOrder (names_of k st) → AreNamesInOrder (map (λ (y : Object). y.key.name) (cond b (o ∷ filter (is_of k) st) (filter (is_of k) st)))
    go true e rest = (names_behind k o st e h.0, rest)
    go false e rest = rest

put_ordered : (ns : List Name) → AreNamesInOrder (in_order ns)
unfolding in_order
put_ordered [] = tt
put_ordered (n ∷ ns) = order-put (λ (m : Name). m) name_order.ghosts.cmp name_laws.total-law n (in_order ns) (put_ordered ns)

pub in_order_for : (c : Controller) (j : Journal) → AreNamesInOrder (names_for c (state j))
unfolding names_for
in_order_for controller.Service j = names_ordered kind.Service (state j) (state-order j)
in_order_for controller.Configuration j = names_ordered kind.Configuration (state j) (state-order j)
in_order_for controller.Revision j = names_ordered kind.Revision (state j) (state-order j)
in_order_for controller.Collector j = names_ordered kind.Configuration (state j) (state-order j)
in_order_for controller.Route j = put_ordered (names_of kind.Route (state j) ++ (names_of kind.Table (state j) ++ all_holders (filter (is_of kind.Revision) (state j))))

-- ---- the names that are left

-- the keys of these names behind the last one
abbrev pub left_of : Controller → Option SlotKey → List Name → List SlotKey
left_of c last ns = filter (is_after last) (map (slot_key c) ns)

-- a name behind all of which is none of these
not_among : (m : Name) (ns : List Name) → AreNamesBehind m ns → list_any (same_name m) ns ≡ false
not_among m [] h = refl
not_among m (n ∷ ns) h = ap (λ b. b || list_any (same_name m) ns) (name_laws.matches_eq-law m n ∙ ap is_eq h.0) ∙ not_among m ns h.1

all_left : (c : Controller) (last : Option SlotKey) (m : Name) (ns : List Name) → ((n : Name) → name_order.ghosts.cmp m n ≡ Less → is_after last (slot_key c n) ≡ true) → AreNamesBehind m ns → left_of c last ns ≡ map (slot_key c) ns
all_left c last m [] after h = refl
all_left c last m (n ∷ ns) after h =
    ap (λ b. cond b (slot_key c n ∷ left_of c last ns) (left_of c last ns)) (after n h.0)
    ∙ ap (λ ks. slot_key c n ∷ ks) (all_left c last m ns after h.1)

after_own : (c : Controller) (m n : Name) → name_order.ghosts.cmp m n ≡ Less → is_after (Some (slot_key c m)) (slot_key c n) ≡ true
after_own c m n e = ap is_lt (slot_side c m n ∙ e)

is_less : (r : Ordering) → is_lt r ≡ true → r ≡ Less
is_less Less e = refl
is_less Equal e = absurd cc
is_less Greater e = absurd cc

-- what is behind a later key is behind an earlier one
pub after_later : (last : Option SlotKey) (key later : SlotKey) → is_after last key ≡ true → is_lt (slot_order.ghosts.cmp key later) ≡ true → is_after last later ≡ true
after_later None key later e f = refl
after_later (Some last) key later e f = ap is_lt (slot_laws.total-law.trans last key later (is_less _ e) (is_less _ f))

-- ---- skipping

module _ (c : Controller) (last : Option SlotKey) (w : Plane) where
  -- rounds of the keys that are left change nothing
  pub skips_all : (ns : List Name) → ((n : Name) → is_after last (slot_key c n) ≡ true → round (slot_key c n) w ≡ w) → rounds (left_of c last ns) w ≡ w
  unfolding rounds
  skips_all [] h = refl
  skips_all (n ∷ ns) h = go (is_after last (slot_key c n)) refl (skips_all ns h)
    where
      go : (b : Bool) → is_after last (slot_key c n) ≡ b → rounds (left_of c last ns) w ≡ w → rounds (cond b (slot_key c n ∷ left_of c last ns) (left_of c last ns)) w ≡ w
      go true e rest = ap (rounds (left_of c last ns)) (h n e) ∙ rest
      go false e rest = rest

  module _ (m : Name) (after : is_after last (slot_key c m) ≡ true) where
    later : (n : Name) → name_order.ghosts.cmp m n ≡ Less → is_after last (slot_key c n) ≡ true
    later n e = after_later last (slot_key c m) (slot_key c n) after (after_own c m n e)

    -- behind a name all keys are left
    same_left : (ns : List Name) → AreNamesBehind m ns → left_of c last ns ≡ left_of c (Some (slot_key c m)) ns
    same_left ns h = all_left c last m ns later h ∙ sym (all_left c (Some (slot_key c m)) m ns (after_own c m) h)

    -- the name itself isn't behind it, nor is one before it
    not_left : (n : Name) (ns : List Name) → is_lt (name_order.ghosts.cmp m n) ≡ false → left_of c (Some (slot_key c m)) (n ∷ ns) ≡ left_of c (Some (slot_key c m)) ns
    not_left n ns e = ap (λ b. cond b (slot_key c n ∷ left_of c (Some (slot_key c m)) ns) (left_of c (Some (slot_key c m)) ns)) (ap is_lt (slot_side c m n) ∙ e)

    back : (n : Name) (r : Ordering) → name_order.ghosts.cmp n m ≡ r → name_order.ghosts.cmp m n ≡ ordering_reverse r
    back n r e = name_laws.total-law.antisymm m n ∙ ap ordering_reverse e

    -- the first of the list is another than the name
    among_rest : (n : Name) (ns : List Name) → is_eq (name_order.ghosts.cmp m n) ≡ false → list_any (same_name m) (n ∷ ns) ≡ true → list_any (same_name m) ns ≡ true
    among_rest n ns e t = sym (ap (λ b. b || list_any (same_name m) ns) (name_laws.matches_eq-law m n ∙ e)) ∙ t

    -- a name before all of these isn't among them
    not_first : (n : Name) (ns : List Name) → name_order.ghosts.cmp m n ≡ Less → AreNamesBehind n ns → list_any (same_name m) (n ∷ ns) ≡ true → ⊥
    not_first n ns e h t =
        let none = not_among m (n ∷ ns) (e, greater_than_less (λ (x : Name). x) name_order.ghosts.cmp name_laws.total-law m n ns e h) in
        let f : false ≡ true = sym none ∙ t in cc

    -- rounds of the keys before a name change nothing: the name comes first
    pub skips_to : (ns : List Name) → AreNamesInOrder ns → list_any (same_name m) ns ≡ true → ((n : Name) → is_after last (slot_key c n) ≡ true → name_order.ghosts.cmp n m ≡ Less → round (slot_key c n) w ≡ w)
        → rounds (left_of c last ns) w ≡ rounds (left_of c (Some (slot_key c m)) ns) (round (slot_key c m) w)
    unfolding rounds
    skips_to [] order t h = absurd cc
    skips_to (n ∷ ns) order t h = go (λ rest. skips_to ns order.1 rest h) (name_order.ghosts.cmp n m) refl
      where
        go : (list_any (same_name m) ns ≡ true → rounds (left_of c last ns) w ≡ rounds (left_of c (Some (slot_key c m)) ns) (round (slot_key c m) w)) → (r : Ordering) → name_order.ghosts.cmp n m ≡ r → rounds (left_of c last (n ∷ ns)) w ≡ rounds (left_of c (Some (slot_key c m)) (n ∷ ns)) (round (slot_key c m) w)
        go ih Less e =
            by (is_after last (slot_key c n)) refl
            ∙ ih (among_rest n ns (ap is_eq (back n Less e)) t)
            ∙ sym (ap (λ ks. rounds ks (round (slot_key c m) w)) (not_left n ns (ap is_lt (back n Less e))))
          where
            by : (b : Bool) → is_after last (slot_key c n) ≡ b → rounds (cond b (slot_key c n ∷ left_of c last ns) (left_of c last ns)) w ≡ rounds (left_of c last ns) w
            by true f = ap (rounds (left_of c last ns)) (h n f e)
            by false f = refl
        go ih Equal e =
            let same : n ≡ m = name-exact n m e in
            let behind : AreNamesBehind m ns = subst (λ z. AreNamesBehind z ns) same order.0 in
            ap (λ z. rounds (cond (is_after last (slot_key c z)) (slot_key c z ∷ left_of c last ns) (left_of c last ns)) w) same
            ∙ ap (λ b. rounds (cond b (slot_key c m ∷ left_of c last ns) (left_of c last ns)) w) after
            ∙ ap (λ ks. rounds ks (round (slot_key c m) w)) (same_left ns behind ∙ sym (not_left n ns (ap is_lt (back n Equal e))))
        go ih Greater e = absurd (not_first n ns (back n Greater e) order.0 t)

    -- and fewer are left behind it
    pub skips_fall : (ns : List Name) → AreNamesInOrder ns → list_any (same_name m) ns ≡ true → length (left_of c (Some (slot_key c m)) ns) < length (left_of c last ns)
    skips_fall [] order t = absurd cc
    skips_fall (n ∷ ns) order t = go (skips_fall ns order.1) (name_order.ghosts.cmp n m) refl
      where
        go : (list_any (same_name m) ns ≡ true → length (left_of c (Some (slot_key c m)) ns) < length (left_of c last ns)) → (r : Ordering) → name_order.ghosts.cmp n m ≡ r → length (left_of c (Some (slot_key c m)) (n ∷ ns)) < length (left_of c last (n ∷ ns))
        go ih Less e =
            subst (λ ks. length ks < length (left_of c last (n ∷ ns))) (sym (not_left n ns (ap is_lt (back n Less e)))) (by (is_after last (slot_key c n)) (ih (among_rest n ns (ap is_eq (back n Less e)) t)))
          where
            by : (b : Bool) → length (left_of c (Some (slot_key c m)) ns) < length (left_of c last ns) → length (left_of c (Some (slot_key c m)) ns) < length (cond b (slot_key c n ∷ left_of c last ns) (left_of c last ns))
            by true lt = omega (arith, lt)
            by false lt = lt
        go ih Equal e =
            let same : n ≡ m = name-exact n m e in
            let behind : AreNamesBehind m ns = subst (λ z. AreNamesBehind z ns) same order.0 in
            let here : is_after last (slot_key c n) ≡ true = ap (λ z. is_after last (slot_key c z)) same ∙ after in
            let fewer : length (left_of c (Some (slot_key c m)) (n ∷ ns)) ≡ length (left_of c last ns) = ap length (not_left n ns (ap is_lt (back n Equal e)) ∙ sym (same_left ns behind)) in
            let more : length (left_of c last (n ∷ ns)) ≡ suc (length (left_of c last ns)) = ap (λ b. length (cond b (slot_key c n ∷ left_of c last ns) (left_of c last ns))) here in
            omega (arith, fewer, more)
        go ih Greater e = absurd (not_first n ns (back n Greater e) order.0 t)
