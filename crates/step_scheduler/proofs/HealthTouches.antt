-- What the entry of a Health touches: the Revision of its name.
use Rattle.std.proofs.Common.{◌≡◌, ◌≢◌, ℕ, Bool, true, false, cond, ◌&&◌, ◌||◌, List, [], ◌∷◌, ◌++◌, map, Option, Some, None, refl, sym, ap, ◌∙◌, subst}
use Rattle.std.specs.Prelude.{not, bytes_eq}
use Rattle.std.specs.List.{filter, list_any}
use Rattle.version_store.proofs.Keyed.{Puts, find-changed}
use Rattle.resource_types.specs.declared.names.Kind.{Kind}
use Rattle.resource_types.specs.declared.names.Kind.TheVariants as kind
use Rattle.resource_types.specs.declared.names.Controller.{Controller}
use Rattle.resource_types.specs.declared.names.Controller.TheVariants as controller
use Rattle.resource_types.specs.declared.names.Key.{Key}
use Rattle.resource_types.specs.declared.names.Name.{Name}
use Rattle.resource_types.specs.declared.names.SlotKey.{SlotKey}
use Rattle.resource_types.specs.declared.specification.Target.{Target}
use Rattle.resource_types.specs.declared.objects.Object.{Object}
use Rattle.resource_types.specs.contracts.names.KeyOrd.TheImpl as key_order
use Rattle.resource_types.specs.contracts.names.KeyOrd.TheImpl.Laws as key_laws
use Rattle.resource_types.specs.Objects.{same_kind, is_of, kind_of_body, status_of, targets_of, no_status}
use Rattle.resource_types.specs.Lookups.{State, find, is_empty, is_given, is_naming, is_target_on}
use Rattle.control_rules.specs.Standing.{key_at, beside, of_its_kind, read, standing}
use Rattle.control_rules.specs.Slots.{ObjectEntry, same_name, slot_key, is_key, names_of, names_for, all_holders, in_order}
use Rattle.control_entries.proofs.Standing.{apart_tied}
use Rattle.control_entries.proofs.Tests.{name_exact}
use Rattle.control_touches.specs.Touches.{is_one, is_one_of, is_changed, is_renamed, is_retargeted, is_retargeted_at, targets_in, is_on, targets_at, meant_name, is_meaning, is_pinned, is_alike, touches_service, touches_configuration, touches_revision, touches_collector, touches_route, touches_of, touches, after_entry, is_touched_by}
use Rattle.control_touches.proofs.Narrow.{passing-along}
use Rattle.control_touches.proofs.Paths.{after}

-- ---- what a change at a Health touches

-- what is there, if anything, has the key of a Health
abbrev pub IsHealth : Option Object → Type 0
IsHealth None = Unit {0}
IsHealth (Some o) = o.key.kind ≡ kind.Health

none_naming : (k : Kind) (v : Name) (o : Option Object) → same_kind kind.Health k ≡ false → IsHealth o → is_given (is_naming k v) o ≡ false
none_naming k v None other h = refl
none_naming k v (Some o) other h =
    ap (λ b. ((b && same_kind (kind_of_body o.body) k) && bytes_eq o.key.name.space v.space) && list_any (is_target_on v.name) (targets_of o.body)) (ap (λ z. same_kind z k) h ∙ other)

none_any : {X : Type 0} (f : X → Bool) (xs : List X) → ((x : X) → f x ≡ false) → list_any f xs ≡ false
none_any f [] h = refl
none_any f (x ∷ xs) h = ap (λ b. b || list_any f xs) (h x) ∙ none_any f xs h

and_last : (b : Bool) → (b && false) ≡ false
and_last true = refl
and_last false = refl

module _ (old new : Option Object) (before : IsHealth old) (now : IsHealth new) where
  none_renamed : (k : Kind) → same_kind kind.Health k ≡ false → (v : Name) → is_renamed k v old new ≡ false
  unfolding is_renamed is_changed
  none_renamed k other v = λ i. cond (none_naming k v old other before i) (not (is_given (is_naming k v) new)) (none_naming k v new other now i)

  none_retargeted : (v : Name) → is_retargeted v old new ≡ false
  unfolding is_retargeted
  none_retargeted v = λ i. none_renamed kind.Service refl v i || none_renamed kind.Route refl v i

  none_retargeted_at : (space : List ℕ) (test : List ℕ → Bool) → is_retargeted_at space test old new ≡ false
  unfolding is_retargeted_at
  none_retargeted_at space test =
      none_any _ (targets_in old ++ targets_in new) (λ t. ap (λ b. test t.revision && b) (none_retargeted (record { space = space; name = t.revision })) ∙ and_last (test t.revision))

  same_names : (a b : Name) → same_name a b ≡ true → slot_key controller.Revision b ≡ slot_key controller.Revision a
  same_names a b e = ap (slot_key controller.Revision) (sym (name_exact a b e))

  pub health_change : (st : State) (n : Name) (c : Controller) (m : Name) → touches_of st (key_at kind.Health n) old new c m ≡ true → slot_key c m ≡ slot_key controller.Revision n
  unfolding touches_service touches_configuration touches_revision touches_collector touches_route is_one is_one_of
  health_change st n controller.Service m t = absurd cc
  health_change st n controller.Configuration m t = absurd cc
  health_change st n controller.Revision m t = go (same_name n m) refl (ap (λ b. same_name n m || b) (sym (none_retargeted m)) ∙ t)
    where
      go : (b : Bool) → same_name n m ≡ b → (b || false) ≡ true → slot_key controller.Revision m ≡ slot_key controller.Revision n
      go true e f = same_names n m e
      go false e f = absurd cc
  health_change st n controller.Collector m t = absurd (let e = sym (none_retargeted_at m.space _) ∙ t in cc)
  health_change st n controller.Route m t = absurd cc

-- ---- the state behind the entry

module _ (st : State) (e : ObjectEntry) (n : Name) (new : Object) (at : e.key ≡ key_at kind.Health n) (puts : e.object ≡ Some new) (own : new.key ≡ e.key) where
  abbrev later : State
  later = after_entry e st

  own_put : Puts (λ (o : Object). o.key) e.key e.object
  own_put = subst (Puts (λ (o : Object). o.key) e.key) (sym puts) own

  other_kind : (k : Kind) → (kind.Health ≢ k) → (m : Name) → e.key ≢ key_at k m
  other_kind k other m q = other (sym (ap (λ (z : Key). z.kind) at) ∙ ap (λ (z : Key). z.kind) q)

  -- what stands of another kind is the same
  stands_same : (k : Kind) → (kind.Health ≢ k) → (m : Name) → standing k m later ≡ standing k m st
  unfolding standing
  stands_same k other m =
      ap (of_its_kind k)
      (find-changed (λ (o : Object). o.key) key_order.ghosts.cmp key_laws.total-law (key_at k m) e.key e.object st own_put
      ∙ ap (λ b. cond b e.object (find (key_at k m) st)) (apart_tied e.key (key_at k m) (other_kind k other m)))

  targets_same : (r : Name) → targets_at later r ≡ targets_at st r
  unfolding targets_at
  targets_same r = ap targets_in (stands_same kind.Route (λ q. cc) r)

  meaning_same : (r : Name) (name : List ℕ) (t : Target) → is_meaning later r name t ≡ is_meaning st r name t
  unfolding is_meaning meant_name
  meaning_same r name t =
      ap (λ o. bytes_eq (cond (is_empty t.revision) (read no_status status_of o).ready t.revision) name) (stands_same kind.Configuration (λ q. cc) (beside r t.configuration))

  -- so each change touches the same keys
  touches_same : (k : Key) (old now : Option Object) (c : Controller) (m : Name) → touches_of later k old now c m ≡ touches_of st k old now c m
  unfolding touches_route
  touches_same k old now controller.Service m = refl
  touches_same k old now controller.Configuration m = refl
  touches_same k old now controller.Revision m = refl
  touches_same k old now controller.Collector m = refl
  touches_same k old now controller.Route r = λ i.
      is_one (kind.Route ∷ kind.Table ∷ kind.Service ∷ []) r k
      || (is_one_of kind.Configuration r.space (λ name. list_any (is_on name) (targets_same r i)) k
      || is_one_of kind.Revision r.space (λ name. is_changed (is_pinned r old) (is_pinned r now) || (not (is_alike old now) && list_any (λ t. meaning_same r name t i) (targets_same r i))) k)

  pub touched_same : (before : State) (es : List ObjectEntry) (pick : SlotKey) → is_touched_by later before es pick ≡ is_touched_by st before es pick
  unfolding is_touched_by touches
  touched_same before [] pick = refl
  touched_same before (f ∷ es) pick = λ i. touches_same f.key (find f.key before) f.object pick.controller pick.name i || touched_same (after_entry f before) es pick i

  -- ---- and there are the same keys

  filter_both : (f g : Object → Bool) (xs : List Object) → filter (λ x. f x && g x) xs ≡ filter g (filter f xs)
  filter_both f g [] = refl
  filter_both f g (x ∷ xs) = go (f x) (filter_both f g xs)
    where
      go : (b : Bool) → filter (λ x. f x && g x) xs ≡ filter g (filter f xs) → cond (b && g x) (x ∷ filter (λ x. f x && g x) xs) (filter (λ x. f x && g x) xs) ≡ filter g (cond b (x ∷ filter f xs) (filter f xs))
      go true ih = ap (λ ys. cond (g x) (x ∷ ys) ys) ih
      go false ih = ih

  kind_kept : (k : Kind) → same_kind kind.Health k ≡ false → filter (is_of k) later ≡ filter (is_of k) st
  kind_kept k other =
      filter_both (λ o. same_kind o.key.kind k) (λ o. same_kind (kind_of_body o.body) k) later
      ∙ ap (filter (λ (o : Object). same_kind (kind_of_body o.body) k)) (passing-along (λ key. same_kind key.kind k) st (e ∷ []) (own_put, tt) (ap (λ (z : Key). same_kind z.kind k) at ∙ other, tt))
      ∙ sym (filter_both (λ o. same_kind o.key.kind k) (λ o. same_kind (kind_of_body o.body) k) st)

  names_kept : (k : Kind) → same_kind kind.Health k ≡ false → names_of k later ≡ names_of k st
  names_kept k other = ap (map (λ (o : Object). o.key.name)) (kind_kept k other)

  names_same : (c : Controller) → names_for c later ≡ names_for c st
  unfolding names_for
  names_same controller.Service = names_kept kind.Service refl
  names_same controller.Configuration = names_kept kind.Configuration refl
  names_same controller.Revision = names_kept kind.Revision refl
  names_same controller.Collector = names_kept kind.Configuration refl
  names_same controller.Route = λ i. in_order (names_kept kind.Route refl i ++ (names_kept kind.Table refl i ++ all_holders (kind_kept kind.Revision refl i)))

  pub keys_same : (pick : SlotKey) → is_key pick later ≡ is_key pick st
  unfolding is_key
  keys_same pick = ap (list_any (same_name pick.name)) (names_same pick.controller)

-- ---- one entry more

or_three : (a b c : Bool) → (a || (b || c)) ≡ ((a || b) || c)
or_three true b c = refl
or_three false b c = refl

or_last : (a : Bool) → (a || false) ≡ a
or_last true = refl
or_last false = refl

-- the entries before, or the last one
pub touched_more : (b before : State) (es : List ObjectEntry) (e : ObjectEntry) (pick : SlotKey)
    → is_touched_by b before (es ++ e ∷ []) pick ≡ (is_touched_by b before es pick || touches b e.key (find e.key (after before es)) e.object pick)
unfolding is_touched_by
touched_more b before [] e pick = or_last _
touched_more b before (f ∷ es) e pick =
    ap (λ t. touches b f.key (find f.key before) f.object pick || t) (touched_more b (after_entry f before) es e pick)
    ∙ or_three (touches b f.key (find f.key before) f.object pick) (is_touched_by b (after_entry f before) es pick) _
