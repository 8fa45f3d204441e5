-- What single objects say of the names that controllers work on.
use Rattle.std.proofs.Common.{◌≡◌, ℕ, Bool, true, false, ◌&&◌, ◌||◌, List, [], ◌∷◌, ◌++◌, cond, bytes_eq, Some, None, Ordering, Equal, refl, sym, ap, ◌∙◌, subst}
use Rattle.std.specs.Prelude.{map}
use Rattle.std.specs.List.{filter, list_any}
use Rattle.std.specs.Ordering.{is_eq}
use Rattle.std.specs.declared.cmp.Ordering.TheVariants.{Less, Greater}
use Rattle.std.proofs.lemmas.List.Folds.{list_any-append}
use Rattle.std.proofs.lemmas.Slice.Eq.{bytes_eq-Decides}
use Rattle.version_store.specs.State as store
use Rattle.version_store.specs.Index.{AreInOrder, AreGreater}
use Rattle.version_store.proofs.Keyed.{is_eq-true, find_greater}
use Rattle.resource_types.specs.declared.names.Kind.{Kind}
use Rattle.resource_types.specs.declared.names.Kind.TheVariants as kind
use Rattle.resource_types.specs.declared.names.Controller.TheVariants as controller
use Rattle.resource_types.specs.declared.names.Name.{Name}
use Rattle.resource_types.specs.declared.names.Key.{Key}
use Rattle.resource_types.specs.declared.names.SlotKey.{SlotKey}
use Rattle.resource_types.specs.declared.objects.Object.{Object}
use Rattle.resource_types.specs.contracts.names.NameOrd.TheImpl as name_order
use Rattle.resource_types.specs.contracts.names.KeyOrd.TheImpl as key_order
use Rattle.resource_types.specs.contracts.names.KeyOrd.TheImpl.Laws as key_laws
use Rattle.resource_types.specs.Objects.{same_kind, is_of, kind_of_body, pins_of}
use Rattle.resource_types.specs.Lookups.{Journal, State, state, find, of_kind, is_given, key_of}
use Rattle.resource_types.proofs.Exact.{left, right, bytes-exact, kind-exact, name-exact, key-exact}
use Rattle.resource_types.proofs.Ordered.{state-order}
use Rattle.control_rules.specs.Standing.{beside, key_at}
use Rattle.control_rules.specs.Slots.{same_name, names_of, holders, all_holders, in_order, names_for, is_key}
use Rattle.slot_table.proofs.Place.{key_self}
use Rattle.slot_keys.specs.Pins.{is_pinned_by}

-- ---- names of what stands

bytes_self : (x : List ℕ) → bytes_eq x x ≡ true
bytes_self x = (bytes_eq-Decides x x).1 refl

-- a name is the same as itself
name_self : (n : Name) → same_name n n ≡ true
name_self n = ap (λ b. b && bytes_eq n.name n.name) (bytes_self n.space) ∙ bytes_self n.name

-- whether an object is of the kind and the name
abbrev is_at : Kind → Name → Object → Bool
is_at k n o = is_of k o && same_name n o.key.name

any_by : (b : Bool) (k : Kind) (n : Name) (o : Object) (rest : State) (any : Bool) → list_any (same_name n) (map (λ (x : Object). x.key.name) rest) ≡ any
    → list_any (same_name n) (map (λ (x : Object). x.key.name) (cond b (o ∷ rest) rest)) ≡ ((b && same_name n o.key.name) || any)
any_by true k n o rest any e = ap (λ a. same_name n o.key.name || a) e
any_by false k n o rest any e = e

any_names : (k : Kind) (n : Name) (st : State) → list_any (same_name n) (names_of k st) ≡ list_any (is_at k n) st
any_names k n [] = refl
any_names k n (o ∷ st) = any_by (is_of k o) k n o (filter (is_of k) st) (list_any (is_at k n) st) (any_names k n st)

-- an object of the kind and the name has the key
has_key : (k : Kind) (n : Name) (o : Object) → is_at k n o ≡ true → o.key ≡ key_at k n
has_key k n o e =
    let of = left (is_of k o) (same_name n o.key.name) e in
    let is_kind = kind-exact o.key.kind k (left (same_kind o.key.kind k) (same_kind (kind_of_body o.body) k) of) in
    let named = right (is_of k o) (same_name n o.key.name) e in
    let space = bytes-exact n.space o.key.name.space (left (bytes_eq n.space o.key.name.space) (bytes_eq n.name o.key.name.name) named) in
    let name = bytes-exact n.name o.key.name.name (right (bytes_eq n.space o.key.name.space) (bytes_eq n.name o.key.name.name) named) in
    ap (λ z. record { kind = z; name = o.key.name }) is_kind ∙ ap (λ z. record { kind = k; name = record { space = z; name = o.key.name.name } }) (sym space) ∙ ap (λ z. record { kind = k; name = record { space = n.space; name = z } }) (sym name)

alone : (b : Bool) → ((b && true) || false) ≡ b
alone true = refl
alone false = refl

or_false : (b c : Bool) → b ≡ false → (b || c) ≡ c
or_false true c e = absurd cc
or_false false c e = refl

key_own : (q : Key) → is_eq (key_order.ghosts.cmp q q) ≡ true
key_own q = ap is_eq (key_self key_order.ghosts.cmp key_laws.total-law q)

-- one that is of the kind and the name is what is found under the key
any_at : (k : Kind) (n : Name) (st : State) → AreInOrder (λ (o : Object). o.key) key_order.ghosts.cmp st → list_any (is_at k n) st ≡ is_given (is_of k) (find (key_at k n) st)
any_at k n [] h = refl
any_at k n (o ∷ st) h = go (is_eq (key_order.ghosts.cmp o.key (key_at k n))) refl (any_at k n st h.1)
  where
    go : (b : Bool) → is_eq (key_order.ghosts.cmp o.key (key_at k n)) ≡ b → list_any (is_at k n) st ≡ is_given (is_of k) (find (key_at k n) st)
        → (is_at k n o || list_any (is_at k n) st) ≡ is_given (is_of k) (cond b (Some o) (find (key_at k n) st))
    go true e ih =
        let key : o.key ≡ key_at k n = key-exact o.key (key_at k n) (is_eq-true _ e) in
        let none : find (key_at k n) st ≡ None = find_greater (λ (x : Object). x.key) key_order.ghosts.cmp key_laws.total-law (key_at k n) st (subst (λ q. AreGreater (λ (x : Object). x.key) key_order.ghosts.cmp q st) key h.0) in
        let rest : list_any (is_at k n) st ≡ false = ih ∙ ap (is_given (is_of k)) none in
        let same : same_name n o.key.name ≡ true = ap (λ (q : Key). same_name n q.name) key ∙ name_self n in
        ap (λ a. (is_of k o && same_name n o.key.name) || a) rest ∙ ap (λ s. (is_of k o && s) || false) same ∙ alone (is_of k o)
    go false e ih = or_false (is_at k n o) (list_any (is_at k n) st) (not_at (is_at k n o) refl) ∙ ih
      where
        not_at : (t : Bool) → is_at k n o ≡ t → t ≡ false
        not_at false t = refl
        not_at true t = let s : is_eq (key_order.ghosts.cmp o.key (key_at k n)) ≡ true = ap (λ q. is_eq (key_order.ghosts.cmp q (key_at k n))) (has_key k n o t) ∙ key_own (key_at k n) in absurd cc

-- what stands under the name
stands_is : (j : Journal) (k : Kind) (n : Name) → is_given (is_of k) (find (key_at k n) (state j)) ≡ list_any (same_name n) (names_of k (state j))
stands_is j k n = sym (any_names k n (state j) ∙ any_at k n (state j) (state-order j))

-- the same by the parts of the name
pub stands_by : (j : Journal) (k : Kind) (n : Name) (space name : List ℕ) → space ≡ n.space → name ≡ n.name → is_given (is_of k) (find (key_of k space name) (state j)) ≡ list_any (same_name n) (names_of k (state j))
stands_by j k n space name e f = ap (λ s. is_given (is_of k) (find (key_of k s name) (state j))) e ∙ ap (λ m. is_given (is_of k) (find (key_of k n.space m) (state j))) f ∙ stands_is j k n

-- ---- pins

any_and : (a : Bool) (f : List ℕ → Bool) (ps : List (List ℕ)) → list_any (λ p. a && f p) ps ≡ (a && list_any f ps)
any_and true f ps = refl
any_and false f [] = refl
any_and false f (p ∷ ps) = any_and false f ps

any_holders : (n m : Name) (ps : List (List ℕ)) → list_any (same_name n) (map (beside m) ps) ≡ (bytes_eq n.space m.space && list_any (bytes_eq n.name) ps)
any_holders n m ps = mapped ps ∙ any_and (bytes_eq n.space m.space) (bytes_eq n.name) ps
  where
    mapped : (qs : List (List ℕ)) → list_any (same_name n) (map (beside m) qs) ≡ list_any (λ p. bytes_eq n.space m.space && bytes_eq n.name p) qs
    mapped [] = refl
    mapped (q ∷ qs) = ap (λ a. (bytes_eq n.space m.space && bytes_eq n.name q) || a) (mapped qs)

-- a Revision that holds the pin, ahead of others
pins_by : (n : Name) (o : Object) (rest : State) (others : State) → list_any (same_name n) (all_holders rest) ≡ list_any (is_pinned_by n) others → (key body : Bool) → is_of kind.Revision o ≡ (key && body)
    → list_any (same_name n) (all_holders (cond (key && body) (o ∷ rest) rest)) ≡ list_any (is_pinned_by n) (cond key (o ∷ others) others)
pins_by n o rest others e true true is =
    list_any-append (same_name n) (holders o) (all_holders rest)
    ∙ ap (λ a. a || list_any (same_name n) (all_holders rest)) (any_holders n o.key.name (pins_of o.body))
    ∙ ap (λ a. (bytes_eq n.space o.key.name.space && list_any (bytes_eq n.name) (pins_of o.body)) || a) e
    ∙ sym (ap (λ b. ((b && bytes_eq n.space o.key.name.space) && list_any (bytes_eq n.name) (pins_of o.body)) || list_any (is_pinned_by n) others) is)
pins_by n o rest others e true false is =
    e ∙ sym (ap (λ b. ((b && bytes_eq n.space o.key.name.space) && list_any (bytes_eq n.name) (pins_of o.body)) || list_any (is_pinned_by n) others) is)
pins_by n o rest others e false body is = e

pub pins_are : (n : Name) (st : State) → list_any (same_name n) (all_holders (filter (is_of kind.Revision) st)) ≡ list_any (is_pinned_by n) (of_kind kind.Revision st)
pins_are n [] = refl
pins_are n (o ∷ st) =
    pins_by n o (filter (is_of kind.Revision) st) (of_kind kind.Revision st) (pins_are n st) (same_kind o.key.kind kind.Revision) (same_kind (kind_of_body o.body) kind.Revision) refl

-- ---- names in order, each once

swap : (a b c : Bool) → (a || (b || c)) ≡ (b || (a || c))
swap true true c = refl
swap true false c = refl
swap false b c = refl

twice : (a b : Bool) → (a || b) ≡ (a || (a || b))
twice true b = refl
twice false b = refl

put_by : (p : Name → Bool) (n m : Name) (ms rest : List Name) → list_any p rest ≡ (p n || list_any p ms) → (r : Ordering) → name_order.ghosts.cmp n m ≡ r
    → list_any p (store.placed r n m ms rest) ≡ (p n || (p m || list_any p ms))
put_by p n m ms rest ih Less e = refl
put_by p n m ms rest ih Equal e = twice (p n) (list_any p ms) ∙ ap (λ x. p n || (p x || list_any p ms)) (name-exact n m e)
put_by p n m ms rest ih Greater e = ap (λ a. p m || a) ih ∙ swap (p m) (p n) (list_any p ms)

any_put : (p : Name → Bool) (n : Name) (ms : List Name) → list_any p (store.put (λ (x : Name). x) name_order.ghosts.cmp n ms) ≡ (p n || list_any p ms)
any_put p n [] = refl
any_put p n (m ∷ ms) = put_by p n m ms (store.put (λ (x : Name). x) name_order.ghosts.cmp n ms) (any_put p n ms) (name_order.ghosts.cmp n m) refl

any_in_order : (p : Name → Bool) (ns : List Name) → list_any p (in_order ns) ≡ list_any p ns
unfolding in_order
any_in_order p [] = refl
any_in_order p (n ∷ ns) = any_put p n (in_order ns) ∙ ap (λ a. p n || a) (any_in_order p ns)

-- ---- keys

pub key_of_service : (key : SlotKey) (st : State) → key.controller ≡ controller.Service → list_any (same_name key.name) (names_of kind.Service st) ≡ is_key key st
unfolding is_key names_for
key_of_service key st e = sym (ap (λ c. list_any (same_name key.name) (names_for c st)) e)

pub key_of_configuration : (key : SlotKey) (st : State) → key.controller ≡ controller.Configuration → list_any (same_name key.name) (names_of kind.Configuration st) ≡ is_key key st
unfolding is_key names_for
key_of_configuration key st e = sym (ap (λ c. list_any (same_name key.name) (names_for c st)) e)

pub key_of_revision : (key : SlotKey) (st : State) → key.controller ≡ controller.Revision → list_any (same_name key.name) (names_of kind.Revision st) ≡ is_key key st
unfolding is_key names_for
key_of_revision key st e = sym (ap (λ c. list_any (same_name key.name) (names_for c st)) e)

pub key_of_collector : (key : SlotKey) (st : State) → key.controller ≡ controller.Collector → list_any (same_name key.name) (names_of kind.Configuration st) ≡ is_key key st
unfolding is_key names_for
key_of_collector key st e = sym (ap (λ c. list_any (same_name key.name) (names_for c st)) e)

pub key_of_route : (key : SlotKey) (st : State) → key.controller ≡ controller.Route
    → (list_any (same_name key.name) (names_of kind.Route st) || (list_any (same_name key.name) (names_of kind.Table st) || list_any (is_pinned_by key.name) (of_kind kind.Revision st))) ≡ is_key key st
unfolding is_key names_for
key_of_route key st e =
    let p = same_name key.name in
    let pins = all_holders (filter (is_of kind.Revision) st) in
    sym (ap (λ c. list_any p (names_for c st)) e
    ∙ any_in_order p (names_of kind.Route st ++ (names_of kind.Table st ++ pins))
    ∙ list_any-append p (names_of kind.Route st) (names_of kind.Table st ++ pins)
    ∙ ap (λ a. list_any p (names_of kind.Route st) || a) (list_any-append p (names_of kind.Table st) pins ∙ ap (λ a. list_any p (names_of kind.Table st) || a) (pins_are key.name st)))
