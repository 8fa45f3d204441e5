-- The names of a kind that come after the cursor.
use Rattle.std.proofs.Common.{◌≡◌, ℕ, ◌+◌, ◌≤◌, Bool, true, false, cond, List, [], ◌∷◌, ◌++◌, length, drop, Option, Some, None, Ordering, refl, sym, ap, ◌∙◌}
use Rattle.std.specs.Prelude.{◌&&◌, map, option_map, slice_get}
use Rattle.std.specs.List.{find, filter}
use Rattle.std.specs.Ordering.{is_lt, is_gt, ordering_then, ordering_reverse}
use Rattle.std.specs.declared.cmp.Ordering.TheVariants.{Less, Equal, Greater}
use Rattle.version_store.specs.Cuts.{lt-true}
use Rattle.resource_types.specs.declared.names.Kind.{Kind}
use Rattle.resource_types.specs.declared.names.Kind.TheVariants as kind
use Rattle.resource_types.specs.declared.names.Controller.{Controller}
use Rattle.resource_types.specs.declared.names.Controller.TheVariants as controller
use Rattle.resource_types.specs.declared.names.Name.{Name}
use Rattle.resource_types.specs.declared.names.SlotKey.{SlotKey}
use Rattle.resource_types.specs.declared.objects.Object.{Object}
use Rattle.resource_types.specs.contracts.names.ControllerOrd.TheImpl as controller_order
use Rattle.resource_types.specs.contracts.names.NameOrd.TheImpl as name_order
use Rattle.resource_types.specs.contracts.names.NameOrd.TheImpl.Laws as name_laws
use Rattle.resource_types.specs.contracts.names.KeyOrd.TheImpl as key_order
use Rattle.resource_types.specs.contracts.names.SlotKeyOrd.TheImpl as slot_order
use Rattle.resource_types.specs.contracts.names.SlotKeyOrd.TheImpl.Laws as slot_laws
use Rattle.resource_types.specs.Objects.{same_kind, is_of, kind_of_body}
use Rattle.resource_types.specs.Lookups.{Journal, State, state, of_kind, behind}
use Rattle.resource_types.proofs.Exact.{kind-exact}
use Rattle.resource_types.proofs.Lists.{drop_at}
use Rattle.resource_types.proofs.Ordered.{state-order}
use Rattle.control_rules.specs.Standing.{key_at}
use Rattle.control_rules.specs.Slots.{names_of, slot_key, keys_for, names_for, all_holders}
use Rattle.control_rules.specs.Steps.{is_after}
use Rattle.slot_keys.specs.Routed.{after_each}
use Rattle.slot_keys.specs.Nexts.{comes_after, lesser, with_name}
use Rattle.slot_keys.proofs.Keying.{names_kind, drop_past}
use Rattle.slot_keys.proofs.Routing.{steps-append}
use Rattle.slot_keys.proofs.Least.{find-in_order, first_enough, names_ordered, by_name}

-- ---- the first name of a kind

module _ (k : Kind) (objects : State) (place : ℕ) (all : Option Name) (so_far : slice_get (names_of k (drop place objects)) 0 ≡ all) where
  module _ (o : Object) (at : slice_get objects place ≡ Some o) where
    abbrev rest : State
    rest = filter (is_of k) (drop (place + 1) objects)

    here : slice_get (map (λ (x : Object). x.key.name) (cond (is_of k o) (o ∷ rest) rest)) 0 ≡ all
    here = sym (ap (λ os. slice_get (names_of k os) 0) (drop_at objects place o at)) ∙ so_far

    -- an object of the kind, and one that isn't
    pub first_here : is_of k o ≡ true → Some o.key.name ≡ all
    first_here is = sym (ap (λ b. slice_get (map (λ (x : Object). x.key.name) (cond b (o ∷ rest) rest)) 0) is) ∙ here

    pub first_later : is_of k o ≡ false → slice_get (names_of k (drop (place + 1) objects)) 0 ≡ all
    first_later is = sym (ap (λ b. slice_get (map (λ (x : Object). x.key.name) (cond b (o ∷ rest) rest)) 0) is) ∙ here

  -- no object is left
  pub first_nowhere : length objects ≤ place → None ≡ all
  first_nowhere le = sym (ap (λ os. slice_get (names_of k os) 0) (drop_past objects place le)) ∙ so_far

-- ---- tests of names

first_all : (p : Name → Bool) → ((n : Name) → p n ≡ true) → (ns : List Name) → slice_get ns 0 ≡ find p ns
first_all p all [] = refl
first_all p all (n ∷ ns) = sym (ap (λ b. cond b (Some n) (find p ns)) (all n))

find_none : (p : Name → Bool) → ((n : Name) → p n ≡ false) → (ns : List Name) → None ≡ find p ns
find_none p not [] = refl
find_none p not (n ∷ ns) = find_none p not ns ∙ sym (ap (λ b. cond b (Some n) (find p ns)) (not n))

first_filtered : (p : Name → Bool) (ns : List Name) → slice_get (filter p ns) 0 ≡ find p ns
first_filtered p [] = refl
first_filtered p (n ∷ ns) = go (p n) (first_filtered p ns)
  where
    go : (b : Bool) → slice_get (filter p ns) 0 ≡ find p ns → slice_get (cond b (n ∷ filter p ns) (filter p ns)) 0 ≡ cond b (Some n) (find p ns)
    go true ih = refl
    go false ih = ih

-- ---- behind the cursor

-- all names come after, where no key was stepped or one of an earlier controller
pub next_all : (cursor : Option SlotKey) (c : Controller) (k : Kind) (st objects : State) → ((n : Name) → comes_after cursor c n ≡ true) → objects ≡ of_kind k st
    → slice_get (names_of k objects) 0 ≡ find (comes_after cursor c) (names_of k st)
next_all cursor c k st objects all walk =
    ap (λ os. slice_get (names_of k os) 0) walk ∙ ap (λ ns. slice_get ns 0) (names_kind k st) ∙ first_all (comes_after cursor c) all (names_of k st)

module _ (last : SlotKey) (c : Controller) where
  pub after_earlier : controller_order.ghosts.cmp last.controller c ≡ Less → (n : Name) → comes_after (Some last) c n ≡ true
  after_earlier e n = ap (λ r. is_lt (ordering_then r (name_order.ghosts.cmp last.name n))) e

  after_later : controller_order.ghosts.cmp last.controller c ≡ Greater → (n : Name) → comes_after (Some last) c n ≡ false
  after_later e n = ap (λ r. is_lt (ordering_then r (name_order.ghosts.cmp last.name n))) e

  -- none comes after a key of a later controller
  pub next_none : controller_order.ghosts.cmp last.controller c ≡ Greater → (ns : List Name) → None ≡ find (comes_after (Some last) c) ns
  next_none e ns = find_none (comes_after (Some last) c) (after_later e) ns

  module _ (same : controller_order.ghosts.cmp last.controller c ≡ Equal) (k : Kind) where
    turned : (r : Ordering) → is_gt r ≡ is_lt (ordering_reverse r)
    turned Less = refl
    turned Equal = refl
    turned Greater = refl

    -- an object of the kind is behind the key where its name comes after
    behind_is : (o : Object) → same_kind o.key.kind k ≡ true → is_gt (key_order.ghosts.cmp o.key (key_at k last.name)) ≡ comes_after (Some last) c o.key.name
    behind_is o is =
        ap is_gt (by_name k o.key (key_at k last.name) (kind-exact o.key.kind k is) refl)
        ∙ turned (name_order.ghosts.cmp o.key.name last.name)
        ∙ ap is_lt (sym (name_laws.total-law.antisymm last.name o.key.name))
        ∙ sym (ap (λ r. is_lt (ordering_then r (name_order.ghosts.cmp last.name o.key.name))) same)

    abbrev name_of : Object → Name
    name_of o = o.key.name

    names_behind : (st : State) → names_of k (behind (key_at k last.name) (of_kind k st)) ≡ filter (comes_after (Some last) c) (names_of k st)
    names_behind [] = refl
    names_behind (o ∷ st) = go (same_kind o.key.kind k) refl (same_kind (kind_of_body o.body) k) refl (is_gt (key_order.ghosts.cmp o.key (key_at k last.name))) refl (names_behind st)
      where
        go : (a : Bool) → same_kind o.key.kind k ≡ a → (b : Bool) → same_kind (kind_of_body o.body) k ≡ b → (t : Bool) → is_gt (key_order.ghosts.cmp o.key (key_at k last.name)) ≡ t
            → names_of k (behind (key_at k last.name) (of_kind k st)) ≡ filter (comes_after (Some last) c) (names_of k st)
            → names_of k (behind (key_at k last.name) (cond a (o ∷ of_kind k st) (of_kind k st))) ≡ filter (comes_after (Some last) c) (map name_of (cond (a && b) (o ∷ filter (is_of k) st) (filter (is_of k) st)))
        go false e b f t g ih = ih
        go true e true f true g ih =
            let h : comes_after (Some last) c o.key.name ≡ true = sym (behind_is o e) ∙ g in
            rw (g, e, f, h) (ap (λ ns. o.key.name ∷ ns) ih)
        go true e true f false g ih =
            let h : comes_after (Some last) c o.key.name ≡ false = sym (behind_is o e) ∙ g in
            rw (g, h) ih
        go true e false f true g ih = rw (g, e, f) ih
        go true e false f false g ih = rw g ih

    -- the first of the objects behind the key
    pub next_behind : (st objects : State) → objects ≡ behind (key_at k last.name) (of_kind k st) → slice_get (names_of k objects) 0 ≡ find (comes_after (Some last) c) (names_of k st)
    next_behind st objects walk =
        ap (λ os. slice_get (names_of k os) 0) walk ∙ ap (λ ns. slice_get ns 0) (names_behind st) ∙ first_filtered (comes_after (Some last) c) (names_of k st)

-- ---- the Route controller

upward : (cursor : Option SlotKey) (a b : Name) → name_order.ghosts.cmp a b ≡ Less → comes_after cursor controller.Route a ≡ true → comes_after cursor controller.Route b ≡ true
upward None a b e after = refl
upward (Some last) a b e after =
    ap is_lt (slot_laws.total-law.trans last (slot_key controller.Route a) (slot_key controller.Route b) (lt-true (slot_order.ghosts.cmp last (slot_key controller.Route a)) after) e)

-- the least of the first Route, the first Table and the least pin
pub next_routed : (cursor : Option SlotKey) (entries : Journal) (route table pin : Option Name)
    → route ≡ find (comes_after cursor controller.Route) (names_of kind.Route (state entries))
    → table ≡ find (comes_after cursor controller.Route) (names_of kind.Table (state entries))
    → pin ≡ after_each (with_name (comes_after cursor controller.Route)) (all_holders (filter (is_of kind.Revision) (state entries))) None
    → lesser route (lesser table pin) ≡ find (comes_after cursor controller.Route) (names_for controller.Route (state entries))
unfolding names_for
next_routed cursor entries route table pin e f g =
    let st = state entries in
    let p = comes_after cursor controller.Route in
    let pins = all_holders (filter (is_of kind.Revision) st) in
    let routes = names_of kind.Route st in
    let tables = names_of kind.Table st in
    let ordered = state-order entries in
    ap (λ r. lesser r (lesser table pin)) e
    ∙ ap (λ t. lesser (find p routes) (lesser t pin)) f
    ∙ ap (λ x. lesser (find p routes) (lesser (find p tables) x)) g
    ∙ ap (lesser (find p routes)) (sym (first_enough p tables (names_ordered kind.Table st ordered) (after_each (with_name p) pins None)))
    ∙ sym (first_enough p routes (names_ordered kind.Route st ordered) (after_each (with_name p) tables (after_each (with_name p) pins None)))
    ∙ ap (after_each (with_name p) routes) (sym (steps-append (with_name p) tables pins None))
    ∙ sym (steps-append (with_name p) routes (tables ++ pins) None)
    ∙ sym (find-in_order p (upward cursor) (routes ++ (tables ++ pins)))

-- ---- keys

find-map : (cursor : Option SlotKey) (c : Controller) (ns : List Name) → option_map (slot_key c) (find (comes_after cursor c) ns) ≡ find (is_after cursor) (map (slot_key c) ns)
find-map cursor c [] = refl
find-map cursor c (n ∷ ns) = go (comes_after cursor c n) (find-map cursor c ns)
  where
    go : (b : Bool) → option_map (slot_key c) (find (comes_after cursor c) ns) ≡ find (is_after cursor) (map (slot_key c) ns)
        → option_map (slot_key c) (cond b (Some n) (find (comes_after cursor c) ns)) ≡ cond b (Some (slot_key c n)) (find (is_after cursor) (map (slot_key c) ns))
    go true ih = refl
    go false ih = ih

-- the key of the name that was found
pub key_found : (cursor : Option SlotKey) (c : Controller) (st : State) (name : Option Name) → name ≡ find (comes_after cursor c) (names_for c st) → option_map (slot_key c) name ≡ find (is_after cursor) (keys_for c st)
key_found cursor c st name e = ap (option_map (slot_key c)) e ∙ find-map cursor c (names_for c st)
