-- A controller's rounds add no keys of its own.
use Rattle.std.proofs.Common.{◌≡◌, ◌⊎◌, inl, inr, ℕ, Bool, true, false, not, ◌&&◌, ◌||◌, cond, List, [], ◌∷◌, length, filter, map, bytes_eq, Option, Some, None, Ordering, refl, sym, ap, subst, ◌∙◌}
use Rattle.std.specs.List.{list_any}
use Rattle.std.specs.Ordering.{is_eq, is_lt, nat_cmp}
use Rattle.std.specs.Cmp.Lexicographic.{slice_cmp}
use Rattle.std.specs.declared.cmp.Ordering.TheVariants.{Less, Equal, Greater}
use Rattle.version_store.specs.State as store
use Rattle.resource_types.specs.declared.names.Kind.{Kind}
use Rattle.resource_types.specs.declared.names.Kind.TheVariants as kind
use Rattle.resource_types.specs.declared.names.Controller.{Controller}
use Rattle.resource_types.specs.declared.names.Controller.TheVariants as controller
use Rattle.resource_types.specs.declared.names.Name.{Name}
use Rattle.resource_types.specs.declared.names.Key.{Key}
use Rattle.resource_types.specs.declared.names.SlotKey.{SlotKey}
use Rattle.resource_types.specs.declared.manifests.Manifest.{Manifest}
use Rattle.resource_types.specs.declared.objects.Body.{Body}
use Rattle.resource_types.specs.declared.objects.Body.TheVariants.{Service, Configuration, Revision, Route, Health, Table}
use Rattle.resource_types.specs.declared.objects.Object.{Object}
use Rattle.resource_types.specs.contracts.names.KeyOrd.TheImpl as key_order
use Rattle.resource_types.specs.Objects.{same_kind, is_of, pins_of, kind_of_body}
use Rattle.resource_types.specs.Lookups.{Journal, State, state, find, of_kind}
use Rattle.resource_types.proofs.Exact.{left, right, bytes-exact, kind-exact}
use Rattle.control_rules.specs.declared.settings.Settings.{Settings}
use Rattle.control_rules.specs.Standing.{key_at, standing, with_pins}
use Rattle.control_rules.specs.NextRoute.{add_pin, drop_pin}
use Rattle.control_rules.specs.Slots.{same_name, names_of, slot_key, is_key, Plane, present}
use Rattle.control_rules.specs.Turns.{round}
use Rattle.control_rules.specs.Facts.{IsKept}
use Rattle.control_rules.specs.Rounds.{round_at}
use Rattle.control_rules.proofs.RoundJournal.{round_journal}
use Rattle.control_entries.proofs.Changes.{Change}
use Rattle.control_entries.proofs.LawfulRounds.{IsLawfulNow}
use Rattle.control_entries.proofs.Names.{knows_keys}
use Rattle.control_entries.proofs.Standing.{Stands, stands}
use Rattle.control_entries.proofs.Tests.{both, name_exact, or_cases, some_same, bytes_self}
use Rattle.control_safety.specs.Goods.{IsGoodLaws}
use Rattle.control_settle.specs.Grounds.{IsSoundState}
use Rattle.control_settle.proofs.Effects.{Effect, NewConfiguration, NewTemplate, NewRoute, NewTargets, GoneConfiguration, GoneRoute, Restated, NewRevision, GoneRevision, Repinned, GoneTable, NewTable, RoundOf, Rests, Acts, keeper, is_stated, round_of}
use Rattle.control_settle.proofs.Members.{PinChange, Adds, Drops}
use Rattle.control_settle.proofs.Settles.{lawful_grounds}
use Rattle.slot_keys.specs.Pins.{is_pinned_by}
use Rattle.slot_keys.proofs.Named.{key_of_service, key_of_configuration, key_of_revision, key_of_collector, key_of_route}

-- ---- what a list has

any_filtered : {X : Type 0} (p q : X → Bool) (xs : List X) → list_any p (filter q xs) ≡ list_any (λ x. q x && p x) xs
any_filtered p q [] = refl
any_filtered p q (x ∷ xs) = go (q x) (any_filtered p q xs)
  where
    go : (b : Bool) → list_any p (filter q xs) ≡ list_any (λ x. q x && p x) xs → list_any p (cond b (x ∷ filter q xs) (filter q xs)) ≡ ((b && p x) || list_any (λ x. q x && p x) xs)
    go true e = ap (λ r. p x || r) e
    go false e = e

any_mapped : {X Y : Type 0} (p : Y → Bool) (f : X → Y) (xs : List X) → list_any p (map f xs) ≡ list_any (λ x. p (f x)) xs
any_mapped p f [] = refl
any_mapped p f (x ∷ xs) = ap (λ r. p (f x) || r) (any_mapped p f xs)

any_either : {X : Type 0} (p q : X → Bool) (xs : List X) → (list_any p xs || list_any q xs) ≡ list_any (λ x. p x || q x) xs
any_either p q [] = refl
any_either p q (x ∷ xs) = go (p x) (q x) ∙ ap (λ r. (p x || q x) || r) (any_either p q xs)
  where
    go : (a b : Bool) → ((a || list_any p xs) || (b || list_any q xs)) ≡ ((a || b) || (list_any p xs || list_any q xs))
    go true b = refl
    go false true = by (list_any p xs)
      where
        by : (c : Bool) → (c || true) ≡ true
        by true = refl
        by false = refl
    go false false = refl

or_right : (a b : Bool) → b ≡ true → (a || b) ≡ true
or_right true b e = refl
or_right false b e = e

-- one of fewer is one of more
any_among : {X : Type 0} (p q : X → Bool) (xs : List X) → list_any p (filter q xs) ≡ true → list_any p xs ≡ true
any_among p q [] e = e
any_among p q (x ∷ xs) e = go (q x) (any_among p q xs) e
  where
    go : (b : Bool) → (list_any p (filter q xs) ≡ true → list_any p xs ≡ true) → list_any p (cond b (x ∷ filter q xs) (filter q xs)) ≡ true → (p x || list_any p xs) ≡ true
    go true ih f = by (p x) f
      where
        by : (c : Bool) → (c || list_any p (filter q xs)) ≡ true → (c || list_any p xs) ≡ true
        by true g = refl
        by false g = ih g
    go false ih f = or_right (p x) (list_any p xs) (ih f)

-- ---- what a state has once it is changed at a key

any_put : (p : Object → Bool) (x : Object) (st : State) → list_any p (store.put (λ (o : Object). o.key) key_order.ghosts.cmp x st) ≡ true → (p x ≡ true) ⊎ (list_any p st ≡ true)
any_put p x [] e = or_cases e
any_put p x (y ∷ st) e = go (key_order.ghosts.cmp x.key y.key) (any_put p x st) e
  where
    go : (r : Ordering) → (list_any p (store.put (λ (o : Object). o.key) key_order.ghosts.cmp x st) ≡ true → (p x ≡ true) ⊎ (list_any p st ≡ true))
        → list_any p (store.placed r x y st (store.put (λ (o : Object). o.key) key_order.ghosts.cmp x st)) ≡ true → (p x ≡ true) ⊎ ((p y || list_any p st) ≡ true)
    go Less ih f = or_cases f
    go Equal ih f = by (or_cases f)
      where
        by : (p x ≡ true) ⊎ (list_any p st ≡ true) → (p x ≡ true) ⊎ ((p y || list_any p st) ≡ true)
        by (inl g) = inl g
        by (inr g) = inr (or_right (p y) (list_any p st) g)
    go Greater ih f = by (or_cases f)
      where
        more : (p x ≡ true) ⊎ (list_any p st ≡ true) → (p x ≡ true) ⊎ ((p y || list_any p st) ≡ true)
        more (inl g) = inl g
        more (inr g) = inr (or_right (p y) (list_any p st) g)

        by : (p y ≡ true) ⊎ (list_any p (store.put (λ (o : Object). o.key) key_order.ghosts.cmp x st) ≡ true) → (p x ≡ true) ⊎ ((p y || list_any p st) ≡ true)
        by (inl g) = inr (ap (λ b. b || list_any p st) g)
        by (inr g) = more (ih g)

any_without : (p : Object → Bool) (k : Key) (st : State) → list_any p (store.without (λ (o : Object). o.key) key_order.ghosts.cmp k st) ≡ true → list_any p st ≡ true
any_without p k [] e = e
any_without p k (y ∷ st) e = go (is_eq (key_order.ghosts.cmp y.key k)) (any_without p k st) e
  where
    left_over : State
    left_over = store.without (λ (o : Object). o.key) key_order.ghosts.cmp k st

    go : (b : Bool) → (list_any p left_over ≡ true → list_any p st ≡ true) → list_any p (cond b left_over (y ∷ left_over)) ≡ true → (p y || list_any p st) ≡ true
    go true ih f = or_right (p y) (list_any p st) (ih f)
    go false ih f = by (p y) f
      where
        by : (c : Bool) → (c || list_any p left_over) ≡ true → (c || list_any p st) ≡ true
        by true g = refl
        by false g = ih g

any_found : (p : Object → Bool) (k : Key) (st : State) (o : Object) → find k st ≡ Some o → p o ≡ true → list_any p st ≡ true
any_found p k [] o e t = absurd cc
any_found p k (x ∷ st) o e t = go (is_eq (key_order.ghosts.cmp x.key k)) e (any_found p k st o)
  where
    go : (b : Bool) → cond b (Some x) (find k st) ≡ Some o → (find k st ≡ Some o → p o ≡ true → list_any p st ≡ true) → (p x || list_any p st) ≡ true
    go true f ih = ap (λ b. b || list_any p st) (ap p (some_same f) ∙ t)
    go false f ih = or_right (p x) (list_any p st) (ih f t)

-- ---- objects that make a name a key

-- whether it is the object of the kind and the name
abbrev is_at : Kind → Name → Object → Bool
is_at k n o = is_of k o && same_name n o.key.name

-- whether it is a Revision that the Route of the name holds
abbrev is_held_by : Name → Object → Bool
is_held_by n o = same_kind o.key.kind kind.Revision && is_pinned_by n o

-- whether it makes the name a key of the controller
abbrev makes_key : Controller → Name → Object → Bool
makes_key controller.Service n o = is_at kind.Service n o
makes_key controller.Configuration n o = is_at kind.Configuration n o
makes_key controller.Revision n o = is_at kind.Revision n o
makes_key controller.Collector n o = is_at kind.Configuration n o
makes_key controller.Route n o = is_at kind.Route n o || (is_at kind.Table n o || is_held_by n o)

any_names : (k : Kind) (n : Name) (st : State) → list_any (same_name n) (names_of k st) ≡ list_any (is_at k n) st
any_names k n st = any_mapped (same_name n) (λ (o : Object). o.key.name) (filter (is_of k) st) ∙ any_filtered (λ (o : Object). same_name n o.key.name) (is_of k) st

-- a name is a key where an object makes it one
key_is : (c : Controller) (n : Name) (st : State) → is_key (slot_key c n) st ≡ list_any (makes_key c n) st
key_is controller.Service n st = sym (key_of_service (slot_key controller.Service n) st refl) ∙ any_names kind.Service n st
key_is controller.Configuration n st = sym (key_of_configuration (slot_key controller.Configuration n) st refl) ∙ any_names kind.Configuration n st
key_is controller.Revision n st = sym (key_of_revision (slot_key controller.Revision n) st refl) ∙ any_names kind.Revision n st
key_is controller.Collector n st = sym (key_of_collector (slot_key controller.Collector n) st refl) ∙ any_names kind.Configuration n st
key_is controller.Route n st =
    sym (key_of_route (slot_key controller.Route n) st refl)
    ∙ ap (λ a. a || (list_any (same_name n) (names_of kind.Table st) || list_any (is_pinned_by n) (of_kind kind.Revision st))) (any_names kind.Route n st)
    ∙ ap (λ a. list_any (is_at kind.Route n) st || (a || list_any (is_pinned_by n) (of_kind kind.Revision st))) (any_names kind.Table n st)
    ∙ ap (λ a. list_any (is_at kind.Route n) st || (list_any (is_at kind.Table n) st || a)) (any_filtered (is_pinned_by n) (λ (o : Object). same_kind o.key.kind kind.Revision) st)
    ∙ ap (λ a. list_any (is_at kind.Route n) st || a) (any_either (is_at kind.Table n) (is_held_by n) st)
    ∙ any_either (is_at kind.Route n) (λ o. is_at kind.Table n o || is_held_by n o) st

-- the object of the kind and the name
record IsAt (k : Kind) (n : Name) (o : Object) : Type 0 where
  kind : o.key.kind ≡ k
  name : n ≡ o.key.name

at_from : (k : Kind) (n : Name) (o : Object) → is_at k n o ≡ true → IsAt k n o
at_from k n o e = record {
  kind = kind-exact o.key.kind k (left (same_kind o.key.kind k) (same_kind (kind_of_body o.body) k) (left (is_of k o) (same_name n o.key.name) e));
  name = name_exact n o.key.name (right (is_of k o) (same_name n o.key.name) e);
}

-- a Revision that the Route of the name holds
record IsHeldBy (n : Name) (o : Object) : Type 0 where
  kind : o.key.kind ≡ kind.Revision
  space : n.space ≡ o.key.name.space
  pin : list_any (bytes_eq n.name) (pins_of o.body) ≡ true

held_from : (n : Name) (o : Object) → is_held_by n o ≡ true → IsHeldBy n o
held_from n o e =
    let pinned = right (same_kind o.key.kind kind.Revision) (is_pinned_by n o) e in
    record {
      kind = kind-exact o.key.kind kind.Revision (left (same_kind o.key.kind kind.Revision) (is_pinned_by n o) e);
      space = bytes-exact n.space o.key.name.space (right (is_of kind.Revision o) (bytes_eq n.space o.key.name.space) (left (is_of kind.Revision o && bytes_eq n.space o.key.name.space) (list_any (bytes_eq n.name) (pins_of o.body)) pinned));
      pin = right (is_of kind.Revision o && bytes_eq n.space o.key.name.space) (list_any (bytes_eq n.name) (pins_of o.body)) pinned;
    }

data MakesRouteKey (n : Name) (o : Object) : Type 0 where
  ByRoute : IsAt kind.Route n o → MakesRouteKey n o
  ByTable : IsAt kind.Table n o → MakesRouteKey n o
  ByPin : IsHeldBy n o → MakesRouteKey n o

-- what an object is that makes the name a key
abbrev MakesKey : Controller → Name → Object → Type 0
MakesKey controller.Service n o = IsAt kind.Service n o
MakesKey controller.Configuration n o = IsAt kind.Configuration n o
MakesKey controller.Revision n o = IsAt kind.Revision n o
MakesKey controller.Collector n o = IsAt kind.Configuration n o
MakesKey controller.Route n o = MakesRouteKey n o

makes_from : (c : Controller) (n : Name) (o : Object) → makes_key c n o ≡ true → MakesKey c n o
makes_from controller.Service n o e = at_from kind.Service n o e
makes_from controller.Configuration n o e = at_from kind.Configuration n o e
makes_from controller.Revision n o e = at_from kind.Revision n o e
makes_from controller.Collector n o e = at_from kind.Configuration n o e
makes_from controller.Route n o e = go (or_cases e)
  where
    go : (is_at kind.Route n o ≡ true) ⊎ ((is_at kind.Table n o || is_held_by n o) ≡ true) → MakesRouteKey n o
    go (inl f) = ByRoute (at_from kind.Route n o f)
    go (inr f) = by (or_cases f)
      where
        by : (is_at kind.Table n o ≡ true) ⊎ (is_held_by n o ≡ true) → MakesRouteKey n o
        by (inl g) = ByTable (at_from kind.Table n o g)
        by (inr g) = ByPin (held_from n o g)

-- ---- effects

-- the name is that of the round, or was a key before
abbrev IsOld : Controller → Name → State → Name → Type 0
IsOld c m a n = (n ≡ m) ⊎ (list_any (makes_key c n) a ≡ true)

put_adds : (c : Controller) (m n : Name) (k : Key) (x : Object) (a b : State) → Change k (Some x) a b → (x.key ≡ k → MakesKey c n x → IsOld c m a n) → list_any (makes_key c n) b ≡ true → IsOld c m a n
put_adds c m n k x a b h new e = go (any_put (makes_key c n) x a (subst (λ st. list_any (makes_key c n) st ≡ true) h.is e))
  where
    go : (makes_key c n x ≡ true) ⊎ (list_any (makes_key c n) a ≡ true) → IsOld c m a n
    go (inl f) = new h.puts (makes_from c n x f)
    go (inr f) = inr f

removal_adds : (c : Controller) (m n : Name) (k : Key) (a b : State) → Change k None a b → list_any (makes_key c n) b ≡ true → IsOld c m a n
removal_adds c m n k a b h e = inr (any_without (makes_key c n) k a (subst (λ st. list_any (makes_key c n) st ≡ true) h.is e))

-- an object under a key of a kind and a name
kind_at : (p q : Kind) (m n : Name) (o : Object) → o.key ≡ key_at q m → IsAt p n o → q ≡ p
kind_at p q m n o e h = sym (ap (λ (k : Key). k.kind) e) ∙ h.kind

name_at : (p : Kind) (m n : Name) (o : Object) → o.key ≡ key_at p m → IsAt p n o → n ≡ m
name_at p m n o e h = h.name ∙ ap (λ (k : Key). k.name) e

kind_held : (q : Kind) (m n : Name) (o : Object) → o.key ≡ key_at q m → IsHeldBy n o → q ≡ kind.Revision
kind_held q m n o e h = sym (ap (λ (k : Key). k.kind) e) ∙ h.kind

-- ---- pins

pins_with : (f : List ℕ → Bool) (ps : List (List ℕ)) (moment : Option ℕ) (b : Body) → list_any f (pins_of (with_pins ps moment b)) ≡ true → list_any f ps ≡ true
pins_with f ps moment (Service template traffic status) e = absurd cc
pins_with f ps moment (Configuration template status) e = absurd cc
pins_with f ps moment (Revision spec generation pins active status) e = e
pins_with f ps moment (Route traffic status) e = absurd cc
pins_with f ps moment (Health uid resources container ever) e = absurd cc
pins_with f ps moment (Table route rows targets) e = absurd cc

any_added : (f : List ℕ → Bool) (r : List ℕ) (ps : List (List ℕ)) → list_any f (add_pin r ps) ≡ true → (f r ≡ true) ⊎ (list_any f ps ≡ true)
unfolding add_pin
any_added f r [] e = or_cases e
any_added f r (p ∷ ps) e = go (is_lt (slice_cmp nat_cmp r p)) (any_added f r ps) e
  where
    go : (b : Bool) → (list_any f (add_pin r ps) ≡ true → (f r ≡ true) ⊎ (list_any f ps ≡ true)) → list_any f (cond b (r ∷ p ∷ ps) (p ∷ add_pin r ps)) ≡ true → (f r ≡ true) ⊎ ((f p || list_any f ps) ≡ true)
    go true ih g = or_cases g
    go false ih g = by (or_cases g)
      where
        more : (f r ≡ true) ⊎ (list_any f ps ≡ true) → (f r ≡ true) ⊎ ((f p || list_any f ps) ≡ true)
        more (inl t) = inl t
        more (inr t) = inr (or_right (f p) (list_any f ps) t)

        by : (f p ≡ true) ⊎ (list_any f (add_pin r ps) ≡ true) → (f r ≡ true) ⊎ ((f p || list_any f ps) ≡ true)
        by (inl t) = inr (ap (λ b. b || list_any f ps) t)
        by (inr t) = more (ih t)

any_changed : (f : List ℕ → Bool) (r : List ℕ) (old new : List (List ℕ)) → PinChange r old new → list_any f new ≡ true → (f r ≡ true) ⊎ (list_any f old ≡ true)
unfolding drop_pin
any_changed f r old new (Adds e) t = any_added f r old (ap (list_any f) (sym e) ∙ t)
any_changed f r old new (Drops e) t = inr (any_among f (λ p. not (bytes_eq p r)) old (ap (list_any f) (sym e) ∙ t))

names_are : (n m : Name) → n.space ≡ m.space → n.name ≡ m.name → n ≡ m
names_are n m e f = λ i. record { space = e i; name = f i }

-- a Revision that gets or loses the pin of the name
repinned_adds : (t : ℕ) (m n w : Name) (a : State) (v x : Object) (ps : List (List ℕ)) (moment : Option ℕ) → IsSoundState t a → standing kind.Revision w a ≡ Some v → w.space ≡ m.space → PinChange m.name (pins_of v.body) ps
    → x.body ≡ with_pins ps moment v.body → x.key ≡ key_at kind.Revision w → MakesRouteKey n x → IsOld controller.Route m a n
repinned_adds t m n w a v x ps moment sound at space change body key (ByRoute h) = absurd (let e = kind_at kind.Route kind.Revision w n x key h in cc)
repinned_adds t m n w a v x ps moment sound at space change body key (ByTable h) = absurd (let e = kind_at kind.Table kind.Revision w n x key h in cc)
repinned_adds t m n w a v x ps moment sound at space change body key (ByPin h) =
    go (any_changed (bytes_eq n.name) m.name (pins_of v.body) ps change (pins_with (bytes_eq n.name) ps moment v.body (subst (λ z. list_any (bytes_eq n.name) (pins_of z) ≡ true) body h.pin)))
  where
    here : n.space ≡ w.space
    here = h.space ∙ ap (λ (k : Key). k.name.space) key

    stood : Stands kind.Revision w a v
    stood = stands kind.Revision w a v at

    held : list_any (bytes_eq n.name) (pins_of v.body) ≡ true → is_held_by n v ≡ true
    held e =
        let space_is : bytes_eq n.space v.key.name.space ≡ true = subst (λ (k : Key). bytes_eq n.space k.name.space ≡ true) (sym stood.key) (subst (λ z. bytes_eq n.space z ≡ true) here (bytes_self n.space)) in
        both (left (same_kind v.key.kind kind.Revision) (same_kind (kind_of_body v.body) kind.Revision) stood.of) (both (both stood.of space_is) e)

    go : (bytes_eq n.name m.name ≡ true) ⊎ (list_any (bytes_eq n.name) (pins_of v.body) ≡ true) → IsOld controller.Route m a n
    go (inl e) = inl (names_are n m (here ∙ space) (bytes-exact n.name m.name e))
    go (inr e) = inr (any_found (makes_key controller.Route n) (key_at kind.Revision w) a v stood.found (or_right (is_at kind.Route n v) _ (or_right (is_at kind.Table n v) _ (held e))))

-- ---- what a round adds

-- a Route or a Table of the round's name
route_adds : (m n : Name) (a : State) (x : Object) → x.key ≡ key_at kind.Route m → MakesRouteKey n x → IsOld controller.Route m a n
route_adds m n a x key (ByRoute h) = inl (name_at kind.Route m n x key h)
route_adds m n a x key (ByTable h) = absurd (let e = kind_at kind.Table kind.Route m n x key h in cc)
route_adds m n a x key (ByPin h) = absurd (let e = kind_held kind.Route m n x key h in cc)

table_adds : (m n : Name) (a : State) (x : Object) → x.key ≡ key_at kind.Table m → MakesRouteKey n x → IsOld controller.Route m a n
table_adds m n a x key (ByRoute h) = absurd (let e = kind_at kind.Route kind.Table m n x key h in cc)
table_adds m n a x key (ByTable h) = inl (name_at kind.Table m n x key h)
table_adds m n a x key (ByPin h) = absurd (let e = kind_held kind.Table m n x key h in cc)

-- an object whose status the controller keeps
restated_adds : (k : Kind) (m n : Name) (a : State) (x : Object) → is_stated k ≡ true → x.key ≡ key_at k m → MakesKey (keeper k) n x → IsOld (keeper k) m a n
restated_adds kind.Service m n a x stated key h = inl (name_at kind.Service m n x key h)
restated_adds kind.Configuration m n a x stated key h = inl (name_at kind.Configuration m n x key h)
restated_adds kind.Revision m n a x stated key h = inl (name_at kind.Revision m n x key h)
restated_adds kind.Route m n a x stated key h = route_adds m n a x key h
restated_adds kind.Health m n a x stated key h = absurd cc
restated_adds kind.Table m n a x stated key h = absurd cc

module _ (settings : Settings) (t now : ℕ) (m : Name) (a b : State) (sound : IsSoundState t a) (n : Name) where
  -- by the controller of the effect
  of : (c d : Controller) (k : Key) (x : Object) → c ≡ d → Change k (Some x) a b → (x.key ≡ k → MakesKey d n x → IsOld d m a n) → list_any (makes_key c n) b ≡ true → IsOld c m a n
  of c d k x e h new = subst (λ z. list_any (makes_key z n) b ≡ true → IsOld z m a n) (sym e) (put_adds d m n k x a b h new)

  effect_adds : (c : Controller) → Effect settings t now c m a b → list_any (makes_key c n) b ≡ true → IsOld c m a n
  effect_adds c (NewConfiguration s e at none h) = of c controller.Service _ _ e h (λ key k. absurd (let f = kind_at kind.Service kind.Configuration m n _ key k in cc))
  effect_adds c (NewTemplate s o e at on owned differs h) = of c controller.Service _ _ e h (λ key k. absurd (let f = kind_at kind.Service kind.Configuration m n _ key k in cc))
  effect_adds c (NewRoute s e at none h) = of c controller.Service _ _ e h (λ key k. absurd (let f = kind_at kind.Service kind.Route m n _ key k in cc))
  effect_adds c (NewTargets s o e at on owned differs h) = of c controller.Service _ _ e h (λ key k. absurd (let f = kind_at kind.Service kind.Route m n _ key k in cc))
  effect_adds c (GoneConfiguration o e at gone h) = removal_adds c m n _ a b h
  effect_adds c (GoneRoute o e at gone h) = removal_adds c m n _ a b h
  effect_adds c (Restated k o stated e at differs h) = of c (keeper k) _ _ e h (λ key f. restated_adds k m n a _ stated key f)
  effect_adds c (NewRevision o e at none h) = of c controller.Configuration _ _ e h (λ key k. absurd (let f = kind_at kind.Configuration kind.Revision _ n _ key k in cc))
  effect_adds c (GoneRevision w v other at going h) = removal_adds c m n _ a b h
  effect_adds c (Repinned w v ps moment e at space change h) = of c controller.Route _ _ e h (λ key k. repinned_adds t m n w a v _ ps moment sound at space change refl key k)
  effect_adds c (GoneTable o e at h) = removal_adds c m n _ a b h
  effect_adds c (NewTable x e h) = of c controller.Route _ x e h (λ key k. table_adds m n a x key k)

module _ {is_good : Manifest → Bool} (laws : IsGoodLaws is_good) where
  -- a round of a key makes no other name a key of its controller
  journal_adds : (settings : Settings) (now : ℕ) (j : Journal) (key : SlotKey) (n : Name) → IsLawfulNow is_good settings now j → is_key (slot_key key.controller n) (state (round_at settings now key j)) ≡ true
      → is_key (slot_key key.controller n) (state j) ≡ true
  journal_adds settings now j key n holds e = go (round_of settings now (IsLawfulNow is_good settings now) (lawful_grounds laws settings now) key j holds)
    where
      go : RoundOf settings now key j → is_key (slot_key key.controller n) (state j) ≡ true
      go (Rests none same) = subst (λ i. is_key (slot_key key.controller n) (state i) ≡ true) same e
      go (Acts act) = by (effect_adds settings (length j) now key.name (state j) (state (round_at settings now key j)) act.before n key.controller act.effect (sym (key_is key.controller n (state (round_at settings now key j))) ∙ e))
        where
          known : (b : Bool) → is_key key (state j) ≡ b → b ≡ true
          known true f = refl
          known false f = absurd (let none = knows_keys settings key (state j) now f in let some = act.planned in cc)

          by : IsOld key.controller key.name (state j) n → is_key (slot_key key.controller n) (state j) ≡ true
          by (inl same) = let own : is_key key (state j) ≡ true = known (is_key key (state j)) refl in ap (λ z. is_key (slot_key key.controller z) (state j)) same ∙ own
          by (inr old) = key_is key.controller n (state j) ∙ old

  -- a round adds no key of its controller
  pub round_adds : (w : Plane) (key pick : SlotKey) → IsKept is_good w → pick.controller ≡ key.controller → is_key pick (present (round key w)) ≡ true → is_key pick (present w) ≡ true
  round_adds w key pick kept own e =
      let named : is_key (slot_key key.controller pick.name) (state (round_at w.settings w.now key w.journal)) ≡ true =
      sym (ap (λ c. is_key (slot_key c pick.name) (state (round_at w.settings w.now key w.journal))) own) ∙ sym (ap (λ j. is_key pick (state j)) (round_journal knows_keys w key)) ∙ e in
      ap (λ c. is_key (slot_key c pick.name) (present w)) own
      ∙ journal_adds w.settings w.now w.journal key pick.name (record { lawful = kept.lawful; past = kept.past }) named
