-- The marks that are made cover what a change touches.
use Rattle.std.proofs.Common.{◌≡◌, ◌⊎◌, inl, inr, ℕ, zero, suc, Bool, true, false, ◌&&◌, ◌||◌, not, List, [], ◌∷◌, ◌++◌, Option, Some, None, cond, bytes_eq, length, ◌≤◌, refl, sym, ap, ◌∙◌, subst, arith}
use Rattle.std.specs.Prelude.{map, slice_get}
use Rattle.std.specs.List.{filter, list_any}
use Rattle.resource_types.specs.declared.names.Kind.{Kind}
use Rattle.resource_types.specs.declared.names.Kind.TheVariants as kind
use Rattle.resource_types.specs.declared.names.Key.{Key}
use Rattle.resource_types.specs.declared.names.Name.{Name}
use Rattle.resource_types.specs.declared.names.SlotKey.{SlotKey}
use Rattle.resource_types.specs.declared.names.Controller.{Controller}
use Rattle.resource_types.specs.declared.names.Controller.TheVariants as controller
use Rattle.resource_types.specs.declared.specification.Target.{Target}
use Rattle.resource_types.specs.declared.objects.Object.{Object}
use Rattle.resource_types.specs.Objects.{same_kind, is_of, targets_of}
use Rattle.resource_types.specs.Lookups.{State, find, in_space, of_kind, is_given, is_empty, is_naming, is_target_on}
use Rattle.resource_types.proofs.Exact.{left, right, bytes-exact, kind-exact}
use Rattle.control_rules.specs.Standing.{beside, key_at, listed, of_its_kind, standing, read}
use Rattle.control_rules.specs.Slots.{same_name, names_of, names_for, slot_key, is_key}
use Rattle.control_entries.specs.Ground.{IsOrdered}
use Rattle.control_entries.proofs.Tests.{bytes_self, both, some_same, or_cases, not_both, name_exact, key_of_kind}
use Rattle.control_entries.proofs.Lists.{filter_at, at_filter, get_below}
use Rattle.control_entries.proofs.Standing.{Stands, stands, found_at, kind_at}
use Rattle.control_touches.specs.Touches.{is_one, is_one_of, is_under, is_lost, is_renamed, is_retargeted, is_retargeted_at, is_changed, is_alike, is_pinned, is_on, is_meaning, targets_in, targets_at, touches, touches_service, touches_configuration, touches_revision, touches_collector, touches_route}
use Rattle.control_touches.proofs.Collectors.{any_by}
use Rattle.control_touches.proofs.Own.{or_left, or_right}
use Rattle.touched_keys.proofs.Reading.{revision_only, reading_as, route_beside}
use Rattle.touched_keys.specs.declared.marks.Mark.{Mark}
use Rattle.touched_keys.specs.Marks.{is_marked, Adds}
use Rattle.touched_keys.specs.Changes.{ChangeView, IsTouched, IsOver, MarksEach, MarksAll, MarksOver, MarksPins, MarksNamed, pins_in, has_names, names_revisions, walks_revisions, is_read_by_targets, route_targets, routes_beside, is_any_reading, is_reader, IsRouteBeside, MarksReaders}

-- ---- keys, and what is walked

-- one of the objects that are walked has the name
pub record IsWalked (os : List Object) (n : Name) : Type 0 where
  pub place : ℕ
  pub object : Object
  pub is : slice_get os place ≡ Some object
  pub name : object.key.name ≡ n

record IsAt {X : Type 0} (P : X → Type 0) (xs : List X) : Type 0 where
  place : ℕ
  one : X
  is : slice_get xs place ≡ Some one
  holds : P one

any_some : {X : Type 0} (f : X → Bool) (xs : List X) → list_any f xs ≡ true → IsAt (λ x. f x ≡ true) xs
any_some f [] e = absurd cc
any_some f (x ∷ xs) e = go (f x) refl e (any_some f xs)
  where
    go : (t : Bool) → f x ≡ t → (t || list_any f xs) ≡ true → (list_any f xs ≡ true → IsAt (λ x. f x ≡ true) xs) → IsAt (λ x. f x ≡ true) (x ∷ xs)
    go true q e ih = record { place = 0; one = x; is = refl; holds = q }
    go false q e ih = let r = ih e in record { place = suc r.place; one = r.one; is = r.is; holds = r.holds }

map_at : {X Y : Type 0} (g : X → Y) (xs : List X) (i : ℕ) (y : Y) → slice_get (map g xs) i ≡ Some y → IsAt (λ x. g x ≡ y) xs
map_at g [] i y e = absurd cc
map_at g (x ∷ xs) zero y e = record { place = 0; one = x; is = refl; holds = some_same e }
map_at g (x ∷ xs) (suc i) y e = let r = map_at g xs i y e in record { place = suc r.place; one = r.one; is = r.is; holds = r.holds }

-- a name of the kind is walked
named_walked : (st : State) (k : Kind) (n : Name) → list_any (same_name n) (names_of k st) ≡ true → IsWalked (of_kind k st) n
named_walked st k n e =
    let one = any_some (same_name n) (names_of k st) e in
    let two = map_at (λ (o : Object). o.key.name) (filter (is_of k) st) one.place one.one one.is in
    go two.one (two.holds ∙ sym (name_exact n one.one one.holds)) (filter_at (is_of k) st two.place two.one two.is)
  where
    go : (o : Object) → o.key.name ≡ n → (is_of k o ≡ true) × (i : ℕ) × (slice_get st i ≡ Some o) → IsWalked (of_kind k st) n
    go o name (of, i, g) = at (at_filter (λ (x : Object). same_kind x.key.kind k) st i o g (left (same_kind o.key.kind k) _ of))
      where
        at : ((i : ℕ) × (slice_get (of_kind k st) i ≡ Some o)) → IsWalked (of_kind k st) n
        at (i, g) = record { place = i; object = o; is = g; name = name }

pub revision_walked : (st : State) (n : Name) → is_key (slot_key controller.Revision n) st ≡ true → IsWalked (of_kind kind.Revision st) n
unfolding is_key names_for
revision_walked st n e = named_walked st kind.Revision n e

pub collector_walked : (st : State) (n : Name) → is_key (slot_key controller.Collector n) st ≡ true → IsWalked (of_kind kind.Configuration st) n
unfolding is_key names_for
collector_walked st n e = named_walked st kind.Configuration n e

-- what stands is walked
pub standing_walked : (st : State) (k : Kind) (n : Name) (o : Object) → standing k n st ≡ Some o → IsWalked (of_kind k st) n
standing_walked st k n o e =
    let s = stands k n st o e in
    go s (found_at (key_at k n) st o s.found)
  where
    go : Stands k n st o → ((i : ℕ) × (slice_get st i ≡ Some o)) → IsWalked (of_kind k st) n
    go s (i, g) = at (at_filter (λ (x : Object). same_kind x.key.kind k) st i o g (left (same_kind o.key.kind k) _ s.of))
      where
        at : ((i : ℕ) × (slice_get (of_kind k st) i ≡ Some o)) → IsWalked (of_kind k st) n
        at (i, g) = record { place = i; object = o; is = g; name = ap (λ (q : Key). q.name) s.key }

-- and where its namespace is walked
space_walked : (os : List Object) (n : Name) (space : List ℕ) → n.space ≡ space → IsWalked os n → IsWalked (in_space space os) n
space_walked os n space same w = at (at_filter (λ (o : Object). bytes_eq o.key.name.space space) os w.place w.object w.is (subst (λ z. bytes_eq z space ≡ true) (sym (ap (λ (m : Name). m.space) w.name ∙ same)) (bytes_self space)))
  where
    at : ((i : ℕ) × (slice_get (in_space space os) i ≡ Some w.object)) → IsWalked (in_space space os) n
    at (i, g) = record { place = i; object = w.object; is = g; name = w.name }

-- ---- what is touched is the change's own key, or found on a walk

one_name : (kinds : List Kind) (n : Name) (k : Key) → is_one kinds n k ≡ true → k.name ≡ n
unfolding is_one
one_name kinds n k e = name_exact k.name n (right (list_any (same_kind k.kind) kinds) _ e)

one_of_kind : (k : Kind) (space : List ℕ) (test : List ℕ → Bool) (q : Key) → is_one_of k space test q ≡ true → same_kind q.kind k ≡ true
unfolding is_one_of
one_of_kind k space test q e = left (same_kind q.kind k) _ e

one_of_space : (k : Kind) (space : List ℕ) (test : List ℕ → Bool) (q : Key) → is_one_of k space test q ≡ true → space ≡ q.name.space
unfolding is_one_of
one_of_space k space test q e = sym (bytes-exact q.name.space space (left (bytes_eq q.name.space space) _ (right (same_kind q.kind k) _ e)))

one_of_test : (k : Kind) (space : List ℕ) (test : List ℕ → Bool) (q : Key) → is_one_of k space test q ≡ true → test q.name.name ≡ true
unfolding is_one_of
one_of_test k space test q e = right (bytes_eq q.name.space space) _ (right (same_kind q.kind k) _ e)

-- what names a Revision has a target that names one
naming_names : (k : Kind) (v : Name) (o : Option Object) → is_given (is_naming k v) o ≡ true → has_names (targets_in o) ≡ true
unfolding targets_in
naming_names k v None e = absurd cc
naming_names k v (Some o) e =
    any_by (is_target_on v.name) (λ (t : Target). not (is_empty t.revision)) (targets_of o.body) (λ t q. left (not (is_empty t.revision)) (bytes_eq t.revision v.name) q)
    (right (is_of k o && bytes_eq o.key.name.space v.space) _ e)

renamed_names : (k : Kind) (v : Name) (c : ChangeView) → is_renamed k v c.old c.new ≡ true → names_revisions c ≡ true
unfolding is_renamed is_changed
renamed_names k v c e = go (is_given (is_naming k v) c.old) refl e
  where
    go : (t : Bool) → is_given (is_naming k v) c.old ≡ t → cond t (not (is_given (is_naming k v) c.new)) (is_given (is_naming k v) c.new) ≡ true → names_revisions c ≡ true
    go true q h = or_left _ _ (naming_names k v c.old q)
    go false q h = or_right (has_names (targets_in c.old)) _ (naming_names k v c.new h)

retargeted_names : (v : Name) (c : ChangeView) → is_retargeted v c.old c.new ≡ true → names_revisions c ≡ true
unfolding is_retargeted
retargeted_names v c e = go (or_cases e)
  where
    go : (is_renamed kind.Service v c.old c.new ≡ true) ⊎ (is_renamed kind.Route v c.old c.new ≡ true) → names_revisions c ≡ true
    go (inl h) = renamed_names kind.Service v c h
    go (inr h) = renamed_names kind.Route v c h

retargeted_at_names : (n : Name) (test : List ℕ → Bool) (c : ChangeView) → is_retargeted_at n.space test c.old c.new ≡ true → names_revisions c ≡ true
unfolding is_retargeted_at
retargeted_at_names n test c e =
    let one = any_some (λ (t : Target). test t.revision && is_retargeted (record { space = n.space; name = t.revision }) c.old c.new) (targets_in c.old ++ targets_in c.new) e in
    retargeted_names (record { space = n.space; name = one.one.revision }) c (right (test one.one.revision) _ one.holds)

pub service_split : (c : ChangeView) (n : Name) → IsTouched c (slot_key controller.Service n) → c.key.name ≡ n
unfolding touches touches_service
service_split c n t = one_name _ n c.key t

-- a Revision was changed, and its name is under the name
over_from : (c : ChangeView) (n : Name) → is_one_of kind.Revision n.space (is_under n.name) c.key ≡ true → IsOver c n
over_from c n h = record {
  of = one_of_kind kind.Revision n.space (is_under n.name) c.key h;
  space = one_of_space kind.Revision n.space (is_under n.name) c.key h;
  under = one_of_test kind.Revision n.space (is_under n.name) c.key h;
}

pub configuration_split : (c : ChangeView) (n : Name) → IsTouched c (slot_key controller.Configuration n) → (c.key.name ≡ n) ⊎ IsOver c n
unfolding touches touches_configuration
configuration_split c n t = go (or_cases t)
  where
    go : (is_one (kind.Service ∷ kind.Configuration ∷ []) n c.key ≡ true) ⊎ (is_one_of kind.Revision n.space (is_under n.name) c.key ≡ true) → (c.key.name ≡ n) ⊎ IsOver c n
    go (inl h) = inl (one_name _ n c.key h)
    go (inr h) = inr (over_from c n h)

pub revision_split : (c : ChangeView) (n : Name) → IsTouched c (slot_key controller.Revision n) → (c.key.name ≡ n) ⊎ (walks_revisions c ≡ true)
unfolding touches touches_revision
revision_split c n t = go (or_cases t)
  where
    wide : ((is_one_of kind.Configuration n.space (λ name. is_under name n.name) c.key && is_lost c.old c.new) ≡ true) ⊎ (is_retargeted n c.old c.new ≡ true) → walks_revisions c ≡ true
    wide (inl h) = or_left _ _ (both
        (one_of_kind kind.Configuration n.space (λ name. is_under name n.name) c.key (left (is_one_of kind.Configuration n.space (λ name. is_under name n.name) c.key) (is_lost c.old c.new) h))
        (right (is_one_of kind.Configuration n.space (λ name. is_under name n.name) c.key) (is_lost c.old c.new) h))
    wide (inr h) = or_right (same_kind c.key.kind kind.Configuration && is_lost c.old c.new) _ (retargeted_names n c h)

    go : (is_one (kind.Revision ∷ kind.Health ∷ []) n c.key ≡ true) ⊎ (((is_one_of kind.Configuration n.space (λ name. is_under name n.name) c.key && is_lost c.old c.new) || is_retargeted n c.old c.new) ≡ true) → (c.key.name ≡ n) ⊎ (walks_revisions c ≡ true)
    go (inl h) = inl (one_name _ n c.key h)
    go (inr h) = inr (wide (or_cases h))

pub collector_split : (c : ChangeView) (n : Name) → IsTouched c (slot_key controller.Collector n) → (c.key.name ≡ n) ⊎ (IsOver c n ⊎ (names_revisions c ≡ true))
unfolding touches touches_collector
collector_split c n t = go (or_cases t)
  where
    wide : (is_one_of kind.Revision n.space (is_under n.name) c.key ≡ true) ⊎ (is_retargeted_at n.space (is_under n.name) c.old c.new ≡ true) → IsOver c n ⊎ (names_revisions c ≡ true)
    wide (inl h) = inl (over_from c n h)
    wide (inr h) = inr (retargeted_at_names n (is_under n.name) c h)

    go : (is_one (kind.Configuration ∷ []) n c.key ≡ true) ⊎ ((is_one_of kind.Revision n.space (is_under n.name) c.key || is_retargeted_at n.space (is_under n.name) c.old c.new) ≡ true) → (c.key.name ≡ n) ⊎ (IsOver c n ⊎ (names_revisions c ≡ true))
    go (inl h) = inl (one_name _ n c.key h)
    go (inr h) = inr (wide (or_cases h))

-- a Revision of the Route's namespace that has or had its pin
pub record IsPinChange (c : ChangeView) (n : Name) : Type 0 where
  pub of : same_kind c.key.kind kind.Revision ≡ true
  pub space : n.space ≡ c.key.name.space
  pub pinned : (is_pinned n c.old ≡ true) ⊎ (is_pinned n c.new ≡ true)

-- targets read what was changed, and the Route stands in its namespace
pub record IsReadAt (c : ChangeView) (n : Name) : Type 0 where
  pub reads : is_read_by_targets c ≡ true
  pub space : n.space ≡ c.key.name.space
  pub route : Object
  pub stands : standing kind.Route n c.state ≡ Some route
  pub reading : is_any_reading c n (targets_at c.state n) ≡ true

-- a Route that has targets stands
has_route : (st : State) (n : Name) (f : Target → Bool) → list_any f (targets_at st n) ≡ true → (o : Object) × (standing kind.Route n st ≡ Some o)
unfolding targets_at targets_in
has_route st n f e = go (standing kind.Route n st) refl e
  where
    go : (o : Option Object) → standing kind.Route n st ≡ o → list_any f (read [] targets_of o) ≡ true → (o : Object) × (standing kind.Route n st ≡ Some o)
    go None q h = absurd cc
    go (Some o) q h = (o, q)

changed_some : (a b : Bool) → is_changed a b ≡ true → (a ≡ true) ⊎ (b ≡ true)
unfolding is_changed
changed_some true b e = inl refl
changed_some false b e = inr e

pub route_split : (c : ChangeView) (n : Name) → IsTouched c (slot_key controller.Route n) → (c.key.name ≡ n) ⊎ (IsPinChange c n ⊎ IsReadAt c n)
unfolding touches touches_route
route_split c n t = go (or_cases t)
  where
    test : List ℕ → Bool
    test name = is_changed (is_pinned n c.old) (is_pinned n c.new) || (not (is_alike c.old c.new) && list_any (is_meaning c.state n name) (targets_at c.state n))

    read_at : is_read_by_targets c ≡ true → n.space ≡ c.key.name.space → is_any_reading c n (targets_at c.state n) ≡ true → ((o : Object) × (standing kind.Route n c.state ≡ Some o)) → IsReadAt c n
    read_at r space reading (o, e) = record { reads = r; space = space; route = o; stands = e; reading = reading }

    by : same_kind c.key.kind kind.Revision ≡ true → n.space ≡ c.key.name.space
        → (is_changed (is_pinned n c.old) (is_pinned n c.new) ≡ true) ⊎ ((not (is_alike c.old c.new) && list_any (is_meaning c.state n c.key.name.name) (targets_at c.state n)) ≡ true) → IsPinChange c n ⊎ IsReadAt c n
    by of space (inl h) = inl (record { of = of; space = space; pinned = changed_some _ _ h })
    by of space (inr h) = inr (read_at (or_right (same_kind c.key.kind kind.Configuration) _ (subst (λ b. (b && not (is_alike c.old c.new)) ≡ true) (sym of) (left (not (is_alike c.old c.new)) _ h))) space
        (reading_as c n (targets_at c.state n) false (revision_only c.key of) (right (not (is_alike c.old c.new)) _ h))
        (has_route c.state n (is_meaning c.state n c.key.name.name) (right (not (is_alike c.old c.new)) _ h)))

    wide : (is_one_of kind.Configuration n.space (λ name. list_any (is_on name) (targets_at c.state n)) c.key ≡ true) ⊎ (is_one_of kind.Revision n.space test c.key ≡ true) → IsPinChange c n ⊎ IsReadAt c n
    wide (inl h) = inr (read_at (or_left _ _ (one_of_kind kind.Configuration n.space (λ name. list_any (is_on name) (targets_at c.state n)) c.key h))
        (one_of_space kind.Configuration n.space (λ name. list_any (is_on name) (targets_at c.state n)) c.key h)
        (reading_as c n (targets_at c.state n) true (one_of_kind kind.Configuration n.space (λ name. list_any (is_on name) (targets_at c.state n)) c.key h) (one_of_test kind.Configuration n.space (λ name. list_any (is_on name) (targets_at c.state n)) c.key h))
        (has_route c.state n (is_on c.key.name.name) (one_of_test kind.Configuration n.space (λ name. list_any (is_on name) (targets_at c.state n)) c.key h)))
    wide (inr h) = by (one_of_kind kind.Revision n.space test c.key h) (one_of_space kind.Revision n.space test c.key h) (or_cases (one_of_test kind.Revision n.space test c.key h))

    go : (is_one (kind.Route ∷ kind.Table ∷ kind.Service ∷ []) n c.key ≡ true) ⊎ ((is_one_of kind.Configuration n.space (λ name. list_any (is_on name) (targets_at c.state n)) c.key || is_one_of kind.Revision n.space test c.key) ≡ true) → (c.key.name ≡ n) ⊎ (IsPinChange c n ⊎ IsReadAt c n)
    go (inl h) = inl (one_name _ n c.key h)
    go (inr h) = inr (wide (or_cases h))

-- ---- all that is touched is marked

-- its own key is marked, where it is touched
abbrev pub MarksOwn : ChangeView → Controller → Name → List Mark → Type 0
MarksOwn c by m keys = IsTouched c (slot_key by m) → is_marked (slot_key by m) keys ≡ true

own_marked : (c : ChangeView) (by : Controller) (m n : Name) (keys : List Mark) → MarksOwn c by m keys → m ≡ n → IsTouched c (slot_key by n) → is_marked (slot_key by n) keys ≡ true
own_marked c by m n keys own e = subst (λ z. IsTouched c (slot_key by z) → is_marked (slot_key by z) keys ≡ true) e own

walked_marked : (c : ChangeView) (by : Controller) (os : List Object) (n : Name) (keys : List Mark) → MarksEach c by os keys → IsWalked os n → IsTouched c (slot_key by n) → is_marked (slot_key by n) keys ≡ true
walked_marked c by os n keys each w = subst (λ z. IsTouched c (slot_key by z) → is_marked (slot_key by z) keys ≡ true) w.name (each w.place w.object w.is)

module _ (c : ChangeView) (m : Name) (e : m ≡ c.key.name) where
  pub services_all : (keys : List Mark) → MarksOwn c controller.Service m keys → MarksAll c controller.Service keys
  services_all keys own n known t = own_marked c controller.Service m n keys own (e ∙ service_split c n t) t

  pub configurations_all : (P : SlotKey → Type 0) (before keys : List Mark) → MarksOwn c controller.Configuration m before → Adds P before keys → MarksOver c controller.Configuration keys → MarksAll c controller.Configuration keys
  configurations_all P before keys own adds over n known t = go (configuration_split c n t)
    where
      go : (c.key.name ≡ n) ⊎ IsOver c n → is_marked (slot_key controller.Configuration n) keys ≡ true
      go (inl q) = own_marked c controller.Configuration m n keys (λ u. adds.kept (slot_key controller.Configuration m) (own u)) (e ∙ q) t
      go (inr o) = over n o t

  -- the Collectors of its own name and of those over it are marked, and those that targets touch are or needn't be
  collectors_by : (keys : List Mark) → MarksOwn c controller.Collector m keys → MarksOver c controller.Collector keys → (n : Name) → IsTouched c (slot_key controller.Collector n) → (names_revisions c ≡ true → is_marked (slot_key controller.Collector n) keys ≡ true)
      → is_marked (slot_key controller.Collector n) keys ≡ true
  collectors_by keys own over n t named = go (collector_split c n t)
    where
      go : (c.key.name ≡ n) ⊎ (IsOver c n ⊎ (names_revisions c ≡ true)) → is_marked (slot_key controller.Collector n) keys ≡ true
      go (inl q) = own_marked c controller.Collector m n keys own (e ∙ q) t
      go (inr (inl o)) = over n o t
      go (inr (inr h)) = named h

  pub collectors_off : (P : SlotKey → Type 0) (before keys : List Mark) → names_revisions c ≡ false → MarksOwn c controller.Collector m before → Adds P before keys → MarksOver c controller.Collector keys → MarksAll c controller.Collector keys
  collectors_off P before keys off own adds over n known t =
      collectors_by keys (λ u. adds.kept (slot_key controller.Collector m) (own u)) over n t (λ h. absurd (not_both h off))

  pub collectors_walked : (P : SlotKey → Type 0) (k0 k1 keys : List Mark) → MarksOwn c controller.Collector m k0 → Adds P k0 k1 → MarksOver c controller.Collector k1 → Adds P k1 keys → (os : List Object) → os ≡ of_kind kind.Configuration c.state → MarksEach c controller.Collector os keys
      → MarksAll c controller.Collector keys
  collectors_walked P k0 k1 keys own a over b os same each n known t =
      collectors_by keys (λ u. b.kept (slot_key controller.Collector m) (a.kept (slot_key controller.Collector m) (own u))) (λ n o u. b.kept (slot_key controller.Collector n) (over n o u)) n t
      (λ h. walked_marked c controller.Collector os n keys each (subst (λ xs. IsWalked xs n) (sym same) (collector_walked c.state n known)) t)

  module _ (by : Controller) (wide : Bool) (split : (n : Name) → IsTouched c (slot_key by n) → (c.key.name ≡ n) ⊎ (wide ≡ true)) where
    -- nothing need be walked
    pub all_off : (keys : List Mark) → wide ≡ false → MarksOwn c by m keys → MarksAll c by keys
    all_off keys off own n known t = go (split n t)
      where
        go : (c.key.name ≡ n) ⊎ (wide ≡ true) → is_marked (slot_key by n) keys ≡ true
        go (inl q) = own_marked c by m n keys own (e ∙ q) t
        go (inr w) = absurd (not_both w off)

    -- all of the kind were walked
    pub all_walked : (P : SlotKey → Type 0) (k : Kind) (before keys : List Mark) → ((n : Name) → is_key (slot_key by n) c.state ≡ true → IsWalked (of_kind k c.state) n) → MarksOwn c by m before → Adds P before keys
        → (os : List Object) → os ≡ of_kind k c.state → MarksEach c by os keys → MarksAll c by keys
    all_walked P k before keys walked own adds os same each n known t = go (split n t)
      where
        go : (c.key.name ≡ n) ⊎ (wide ≡ true) → is_marked (slot_key by n) keys ≡ true
        go (inl q) = own_marked c by m n keys (λ u. adds.kept (slot_key by m) (own u)) (e ∙ q) t
        go (inr w) = walked_marked c by os n keys each (subst (λ xs. IsWalked xs n) (sym same) (walked n known)) t

-- ---- Routes

listed_at : (x : List ℕ) (xs : List (List ℕ)) → listed x xs ≡ true → (i : ℕ) × (slice_get xs i ≡ Some x)
unfolding listed
listed_at x [] e = absurd cc
listed_at x (y ∷ ys) e = go (bytes_eq x y) refl e (listed_at x ys)
  where
    go : (t : Bool) → bytes_eq x y ≡ t → cond t true (listed x ys) ≡ true → (listed x ys ≡ true → (i : ℕ) × (slice_get ys i ≡ Some x)) → (i : ℕ) × (slice_get (y ∷ ys) i ≡ Some x)
    go true q e ih = (0, ap Some (sym (bytes-exact x y q)))
    go false q e ih = next (ih e)
      where
        next : ((i : ℕ) × (slice_get ys i ≡ Some x)) → (i : ℕ) × (slice_get (y ∷ ys) i ≡ Some x)
        next (i, g) = (suc i, g)

-- the Routes of all pins are marked
pub pins_all : (c : ChangeView) (o : Option Object) (pins : List (List ℕ)) (k : ℕ) (keys : List Mark) → pins ≡ pins_in o → length pins ≤ k → MarksNamed k c pins keys → MarksPins c o keys
unfolding is_pinned
pins_all c o pins k keys same le named n space pinned = go (listed_at n.name pins (subst (λ z. listed n.name z ≡ true) (sym same) pinned))
  where
    name : beside c.key.name n.name ≡ n
    name = λ i. record { space = sym space i; name = n.name }

    go : ((i : ℕ) × (slice_get pins i ≡ Some n.name)) → IsTouched c (slot_key controller.Route n) → is_marked (slot_key controller.Route n) keys ≡ true
    go (i, g) = let below = get_below pins i n.name g in subst (λ z. IsTouched c (slot_key controller.Route z) → is_marked (slot_key controller.Route z) keys ≡ true) name (named i n.name (omega arith) g)

-- where the Routes that read it are marked, a Route is that reads it
reader_marked : (c : ChangeView) (n : Name) (keys : List Mark) → IsOrdered c.state → MarksReaders c (routes_beside c) keys → IsReadAt c n → IsWalked (routes_beside c) n → is_marked (slot_key controller.Route n) keys ≡ true
reader_marked c n keys ordered each r w =
    subst (λ z. is_any_reading c z (targets_at c.state z) ≡ true → is_marked (slot_key controller.Route z) keys ≡ true) w.name
    (λ h. each w.place w.object w.is (ap (is_any_reading c w.object.key.name) (sym (route_beside c ordered w.place w.object w.is).targets) ∙ h)) r.reading

-- the marks of a Route: its own, those of the pins before and after
pub record RouteMarks (c : ChangeView) (m : Name) (keys : List Mark) : Type 0 where
  pub own : MarksOwn c controller.Route m keys
  pub old : MarksPins c c.old keys
  pub new : MarksPins c c.new keys

module _ (c : ChangeView) (m : Name) (e : m ≡ c.key.name) where
  pub route_marks : (P : SlotKey → Type 0) (old new : Option Object) → old ≡ c.old → new ≡ c.new → (k0 k1 k2 : List Mark) → MarksOwn c controller.Route m k0 → Adds P k0 k1 → MarksPins c old k1 → Adds P k1 k2 → MarksPins c new k2 → RouteMarks c m k2
  route_marks P old new po pn k0 k1 k2 own a1 p1 a2 p2 = record {
    own = λ t. a2.kept (slot_key controller.Route m) (a1.kept (slot_key controller.Route m) (own t));
    old = subst (λ o. MarksPins c o k2) po (λ n s p t. a2.kept (slot_key controller.Route n) (p1 n s p t));
    new = subst (λ o. MarksPins c o k2) pn p2;
  }

  route_by : (keys : List Mark) → RouteMarks c m keys → (n : Name) → IsTouched c (slot_key controller.Route n) → (IsReadAt c n → is_marked (slot_key controller.Route n) keys ≡ true) → is_marked (slot_key controller.Route n) keys ≡ true
  route_by keys h n t reads = go (route_split c n t)
    where
      pin : IsPinChange c n → (is_pinned n c.old ≡ true) ⊎ (is_pinned n c.new ≡ true) → is_marked (slot_key controller.Route n) keys ≡ true
      pin p (inl q) = h.old n p.space q t
      pin p (inr q) = h.new n p.space q t

      wide : IsPinChange c n ⊎ IsReadAt c n → is_marked (slot_key controller.Route n) keys ≡ true
      wide (inl p) = pin p p.pinned
      wide (inr r) = reads r

      go : (c.key.name ≡ n) ⊎ (IsPinChange c n ⊎ IsReadAt c n) → is_marked (slot_key controller.Route n) keys ≡ true
      go (inl q) = own_marked c controller.Route m n keys h.own (e ∙ q) t
      go (inr w) = wide w

  pub routes_off : (keys : List Mark) → RouteMarks c m keys → is_read_by_targets c ≡ false → MarksAll c controller.Route keys
  routes_off keys h off n known t = route_by keys h n t (λ r. absurd (not_both r.reads off))

  pub routes_walked : IsOrdered c.state → (P : SlotKey → Type 0) (before keys : List Mark) → RouteMarks c m before → Adds P before keys → MarksReaders c (routes_beside c) keys → MarksAll c controller.Route keys
  routes_walked ordered P before keys h adds each n known t =
      route_by keys (record { own = λ u. adds.kept (slot_key controller.Route m) (h.own u); old = λ n s p u. adds.kept (slot_key controller.Route n) (h.old n s p u); new = λ n s p u. adds.kept (slot_key controller.Route n) (h.new n s p u) }) n t
      (λ r. reader_marked c n keys ordered each r (space_walked (of_kind kind.Route c.state) n c.key.name.space r.space (standing_walked c.state kind.Route n r.route r.stands)))

-- ---- all controllers

pub kept_all : (P : SlotKey → Type 0) (c : ChangeView) (by : Controller) (a b : List Mark) → Adds P a b → MarksAll c by a → MarksAll c by b
kept_all P c by a b adds h n known t = adds.kept (slot_key by n) (h n known t)

pub every_all : (c : ChangeView) (keys : List Mark) → MarksAll c controller.Service keys → MarksAll c controller.Configuration keys → MarksAll c controller.Revision keys → MarksAll c controller.Collector keys → MarksAll c controller.Route keys
    → (by : Controller) → MarksAll c by keys
every_all c keys s f r l t controller.Service = s
every_all c keys s f r l t controller.Configuration = f
every_all c keys s f r l t controller.Revision = r
every_all c keys s f r l t controller.Collector = l
every_all c keys s f r l t controller.Route = t
