-- Pins, Tables and the statuses of Routes are the Route's own: an entry of another changes none.
use Rattle.std.proofs.Common.{◌≡◌, ◌≢◌, ℕ, suc, ◌+◌, ◌≤◌, Bool, true, false, List, [], length, Option, Some, None, refl, sym, ap, ◌∙◌, subst, arith, add-one}
use Rattle.std.specs.Prelude.{slice_get, bytes_eq}
use Rattle.resource_types.specs.declared.names.Kind.TheVariants as kind
use Rattle.resource_types.specs.declared.names.Controller.TheVariants as controller
use Rattle.resource_types.specs.declared.names.Name.{Name}
use Rattle.resource_types.specs.declared.names.SlotKey.{SlotKey}
use Rattle.resource_types.specs.declared.names.Actor.TheVariants.{Controller}
use Rattle.resource_types.specs.declared.objects.Object.{Object}
use Rattle.resource_types.specs.declared.manifests.Manifest.{Manifest}
use Rattle.resource_types.specs.Objects.{pins_of, status_of}
use Rattle.resource_types.specs.Lookups.{Journal, find, is_free}
use Rattle.control_rules.specs.declared.settings.Settings.{Settings}
use Rattle.control_rules.specs.Standing.{beside, key_at, listed, read, of_its_kind, standing, pins_at}
use Rattle.control_rules.specs.Slots.{ObjectEntry, state_at, slot_key}
use Rattle.control_rules.specs.Lawful.{status_over, IsLawful}
use Rattle.control_rules.specs.Facts.{IsOthers, AreOwn}
use Rattle.control_entries.proofs.Tests.{some_same, bytes_apart, name_same}
use Rattle.control_entries.proofs.Lists.{get_below}
use Rattle.control_entries.proofs.Standing.{stands, of_kind_some}
use Rattle.control_entries.proofs.Positions.{untouched, at_standing}
use Rattle.control_entries.proofs.Bodies.{pins-with_status, pins-with_pins, status-with_targets}
use Rattle.control_entries.proofs.Deeds.{TableForeign, TableMade, TableReplaced}
use Rattle.control_entries.proofs.Entries.{EntryOn, Acted, Other, entry_on}
use Rattle.control_entries.proofs.Puts.{RevisionPut, PutMade, PutStated, PutPinned, PutUnpinned, RoutePut, RoutePutByClient, RoutePutMade, RoutePutTargeted, RoutePutStated, revision_put, route_put}
use Rattle.control_entries.proofs.Sound.{none_at, put_stands}
use Rattle.control_safety.proofs.Pins.{listed_added, listed_dropped}
use Rattle.control_entries.proofs.Removals.{free_parts, RevisionRemoval, RemovedByClient, RemovedOrphan, RemovedCollected, revision_removal}
use Rattle.control_entries.proofs.Planned.{candidate_is}

-- two Routes in one namespace differ in name
apart_names : (q r : Name) (x : List ℕ) (v : Name) → v ≡ beside q v.name → v ≡ beside r x → (q ≢ r) → bytes_eq r.name q.name ≡ false
apart_names q r x v p s apart = bytes_apart r.name q.name (λ e. apart (λ i. record { space = space i; name = sym e i }))
  where
    space : q.space ≡ r.space
    space = ap (λ (z : Name). z.space) (sym p ∙ s)

-- the pins of what stands
abbrev pub pins_in : Option Object → List (List ℕ)
pins_in w = read [] pins_of w

module _ {is_good : Manifest → Bool} {settings : Settings} {j : Journal} (lawful : IsLawful is_good settings j) where
  -- a Revision that is removed has no pins
  pub removed_unpinned : (n : ℕ) (e : ObjectEntry) → slice_get j n ≡ Some e → (v : Name) → e.key ≡ key_at kind.Revision v → e.object ≡ None
      → pins_at (state_at j n) v ≡ []
  removed_unpinned n e g v k h = go (revision_removal lawful n e g v k h)
    where
      go : ((o : Object) × (standing kind.Revision v (state_at j n) ≡ Some o) × (RevisionRemoval j n e v o)) → pins_at (state_at j n) v ≡ []
      go (o, at, why) = ap pins_in at ∙ none why
        where
          none : RevisionRemoval j n e v o → pins_of o.body ≡ []
          none (RemovedByClient free past) = (free_parts (state_at j n) v o at free).0
          none (RemovedOrphan b then lost free guard) = (free_parts (state_at j e.seen) v o then free).0
          none (RemovedCollected m c b there then candidate guard) =
              (let name : o.key.name ≡ v = name_same (stands kind.Revision v (state_at j e.seen) o then).key in
              (free_parts (state_at j e.seen) v o then (subst (λ z. is_free (state_at j e.seen) z ≡ true) name (candidate_is _ (state_at j e.seen) c o candidate).free)).0)

  own_pins : (n : ℕ) (e : ObjectEntry) → slice_get j n ≡ Some e → (r : Name) → IsOthers r e → (x : List ℕ)
      → listed r.name (pins_at (state_at j (suc n)) (beside r x)) ≡ listed r.name (pins_at (state_at j n) (beside r x))
  own_pins n e g r others x =
      at_standing j lawful.stamps n e g kind.Revision (beside r x) (λ w. listed r.name (pins_in w) ≡ listed r.name (pins_at (state_at j n) (beside r x))) (λ k. new k e.object refl) (λ _. refl)
    where
      new : e.key ≡ key_at kind.Revision (beside r x) → (w : Option Object) → e.object ≡ w
          → listed r.name (pins_in (of_its_kind kind.Revision e.object)) ≡ listed r.name (pins_at (state_at j n) (beside r x))
      new k None s = rw (s, removed_unpinned n e g (beside r x) k s) refl
      new k (Some o) s = ap (λ w. listed r.name (pins_in w)) (put_stands lawful n e g kind.Revision (beside r x) o k s)
          ∙ from (revision_put lawful n e g (beside r x) k o s)
        where
          before : (old : Object) → standing kind.Revision (beside r x) (state_at j n) ≡ Some old
              → pins_at (state_at j n) (beside r x) ≡ pins_of old.body
          before old at = ap pins_in at

          not_mine : (q : Name) → e.actor ≡ Controller (slot_key controller.Route q) → q ≢ r
          not_mine q a same = others (a ∙ ap (λ z. Controller (slot_key controller.Route z)) same)

          from : RevisionPut j n e (beside r x) o → listed r.name (pins_of o.body) ≡ listed r.name (pins_at (state_at j n) (beside r x))
          from (PutMade m c a b at named none is) = ap (λ (z : Object). listed r.name (pins_of z.body)) is ∙ sym (ap (λ w. listed r.name (pins_in w)) none)
          from (PutStated old a b at seen is) = ap (listed r.name) (ap (λ (z : Object). pins_of z.body) is ∙ pins-with_status _ old.body ∙ sym (before old at))
          from (PutPinned q old a b near at lacks is) =
              ap (listed r.name) (ap (λ (z : Object). pins_of z.body) is ∙ pins-with_pins _ _ old.body (stands kind.Revision (beside r x) (state_at j n) old at).fits)
              ∙ listed_added r.name q.name (pins_of old.body) (apart_names q r x (beside r x) near refl (not_mine q a))
              ∙ ap (listed r.name) (sym (before old at))
          from (PutUnpinned q old a b near at spare is) =
              ap (listed r.name) (ap (λ (z : Object). pins_of z.body) is ∙ pins-with_pins _ _ old.body (stands kind.Revision (beside r x) (state_at j n) old at).fits)
              ∙ listed_dropped r.name q.name (pins_of old.body) (apart_names q r x (beside r x) near refl (not_mine q a))
              ∙ ap (listed r.name) (sym (before old at))

  own_table : (n : ℕ) (e : ObjectEntry) → slice_get j n ≡ Some e → (r : Name) → IsOthers r e
      → standing kind.Table r (state_at j (suc n)) ≡ standing kind.Table r (state_at j n)
  own_table n e g r others = untouched j lawful.stamps n e g kind.Table r (λ k. mine (entry_on lawful n e g kind.Table r k))
    where
      by : (slot : SlotKey) → e.actor ≡ Controller slot → slot ≡ slot_key controller.Route r → ⊥
      by slot q s = others (q ∙ ap Controller s)

      mine : EntryOn kind.Table is_good settings j n e r → ⊥
      mine (Other x) = x
      mine (Acted slot q d (TableForeign t s at f p)) = by slot q s
      mine (Acted slot q d (TableMade o ms s at all pinned none p)) = by slot q s
      mine (Acted slot q d (TableReplaced o t ms s at all pinned now f p)) = by slot q s

  -- the status of a Route that another entry puts: that of the one that stands, or none
  route_status : (n : ℕ) (e : ObjectEntry) → slice_get j n ≡ Some e → n ≤ length j → (r : Name) → IsOthers r e → e.key ≡ key_at kind.Route r
      → (p : Object) → e.object ≡ Some p → status_of p.body ≡ status_over (standing kind.Route r (state_at j n))
  route_status n e g len r others k p s = from (route_put lawful n e g r k p s)
    where
      over : (w : Option Object) → standing kind.Route r (state_at j n) ≡ w → status_over (find (key_at kind.Route r) (state_at j n)) ≡ status_over w
      over None a = ap status_over (none_at lawful n len kind.Route r a)
      over (Some o) a = ap status_over (stands kind.Route r (state_at j n) o a).found

      from : RoutePut is_good settings j n e r p → status_of p.body ≡ status_over (standing kind.Route r (state_at j n))
      from (RoutePutByClient c) =
          ap (λ (z : Object). status_of z.body) (some_same (sym s ∙ c.puts)) ∙ c.status ∙ ap (λ z. status_over (find z (state_at j n))) k
          ∙ over (standing kind.Route r (state_at j n)) refl
      from (RoutePutMade m a b at none is) = ap (λ (z : Object). status_of z.body) is ∙ sym (ap status_over none)
      from (RoutePutTargeted m old a b at now is) = ap (λ (z : Object). status_of z.body) is ∙ status-with_targets _ old.body ∙ sym (ap status_over now)
      from (RoutePutStated old a b at seen is) = absurd (others a)

  route_put_status : (n : ℕ) (e : ObjectEntry) → slice_get j n ≡ Some e → n ≤ length j → (r : Name) → IsOthers r e → (p : Object)
      → standing kind.Route r (state_at j (suc n)) ≡ Some p → status_of p.body ≡ status_over (standing kind.Route r (state_at j n))
  route_put_status n e g len r others p =
      at_standing j lawful.stamps n e g kind.Route r (λ w. w ≡ Some p → status_of p.body ≡ status_over (standing kind.Route r (state_at j n)))
      (λ k s. route_status n e g len r others k p (of_kind_some kind.Route e.object p s))
      (λ _ s. sym (ap status_over s))

  -- the same at the position after the entry
  pub own_after : (n : ℕ) (e : ObjectEntry) (r : Name) → slice_get j n ≡ Some e → IsOthers r e
      → ((x : List ℕ) → listed r.name (pins_at (state_at j (suc n)) (beside r x)) ≡ listed r.name (pins_at (state_at j n) (beside r x)))
      × (standing kind.Table r (state_at j (suc n)) ≡ standing kind.Table r (state_at j n))
      × ((p : Object) → standing kind.Route r (state_at j (suc n)) ≡ Some p → status_of p.body ≡ status_over (standing kind.Route r (state_at j n)))
  own_after n e r g others = (own_pins n e g r others, own_table n e g r others, route_put_status n e g (let b = get_below j n e g in omega arith) r others)

  -- pins, the Table and the status are the Route's own
  pub are_own : (n : ℕ) (e : ObjectEntry) (r : Name) → slice_get j n ≡ Some e → AreOwn j n e r
  are_own n e r g = (let one : suc n ≡ n + 1 = sym (add-one n) in record {
    pins = λ others x. ap (λ m. listed r.name (pins_at (state_at j m) (beside r x))) (sym one) ∙ (own_after n e r g others).0 x;
    table = λ others. ap (λ m. standing kind.Table r (state_at j m)) (sym one) ∙ (own_after n e r g others).1;
    status = λ others o p at then. (own_after n e r g others).2 p (ap (λ m. standing kind.Route r (state_at j m)) one ∙ then) ∙ ap status_over at;
    made = λ others p none then. (own_after n e r g others).2 p (ap (λ m. standing kind.Route r (state_at j m)) one ∙ then) ∙ ap status_over none;
  })
