-- What a pass visits, and that it is the pass of the rules.
use Rattle.std.proofs.Common.{◌≡◌, ℕ, ◌+◌, ◌<◌, ◌≤◌, Bool, true, false, ◌&&◌, cond, List, [], ◌∷◌, length, drop, get_or, map, Option, Some, None, Ordering, refl, sym, ap, subst, ◌∙◌}
use Rattle.std.specs.List.{find, list_any}
use Rattle.std.specs.Option.{is_some, option_map}
use Rattle.std.specs.Ordering.{is_eq, is_lt, ordering_reverse}
use Rattle.std.specs.declared.cmp.Ordering.TheVariants.{Less, Equal, Greater}
use Rattle.version_store.specs.Index.{AreInOrder}
use Rattle.version_store.specs.State as store
use Rattle.version_store.proofs.Keyed.{is_eq-true, find_greater, greater_than_less}
use Rattle.resource_types.specs.declared.names.Controller.{Controller}
use Rattle.resource_types.specs.declared.names.Controller.TheVariants as controller
use Rattle.resource_types.specs.declared.names.Name.{Name}
use Rattle.resource_types.specs.declared.names.SlotKey.{SlotKey}
use Rattle.resource_types.specs.contracts.names.SlotKeyOrd.TheImpl as slot_order
use Rattle.resource_types.specs.contracts.names.SlotKeyOrd.TheImpl.Laws as slot_laws
use Rattle.resource_types.specs.contracts.names.ControllerPartialEq.TheImpl as controller_eq
use Rattle.resource_types.specs.Lookups.{State}
use Rattle.resource_types.proofs.Exact.{left, right, controller-exact, slot-exact}
use Rattle.manifest_intake.specs.Good.{is_good}
use Rattle.control_entries.proofs.Tests.{both}
use Rattle.control_rules.specs.Slots.{same_name, names_for, slot_key, is_key, look_of, Plane, present}
use Rattle.control_rules.specs.Steps.{is_after}
use Rattle.control_rules.specs.Turns.{round, rounds}
use Rattle.control_rules.specs.Facts.{IsKept}
use Rattle.good_laws.proofs.Theorems.{good_laws}
use Rattle.touched_keys.specs.declared.marks.Mark.{Mark}
use Rattle.touched_keys.specs.Marks.{is_marked}
use Rattle.step_scheduler.specs.Rows.{Row, look_in}
use Rattle.step_scheduler.specs.Touched.{HasNothing}
use Rattle.step_scheduler.specs.Passes.{is_next, is_before, lesser, IsVisited, IsVisit}
use Rattle.step_scheduler.proofs.Rows.{look-found}
use Rattle.step_scheduler.proofs.Chains.{round_off}
use Rattle.step_scheduler.proofs.Untouched.{round_calm}
use Rattle.step_scheduler.proofs.OwnKeys.{round_adds}
use Rattle.step_scheduler.proofs.Skipping.{slot_side, in_order_for, left_of, skips_all, skips_to, skips_fall}

-- the key is before what was found, if anything was
abbrev IsAhead : SlotKey → Option SlotKey → Type 0
IsAhead k None = Unit {0}
IsAhead k (Some x) = is_before k x ≡ true

is_less : (r : Ordering) → is_lt r ≡ true → r ≡ Less
is_less Less e = refl
is_less Equal e = absurd cc
is_less Greater e = absurd cc

before_not : (a b : SlotKey) → is_before b a ≡ false → (k : SlotKey) → is_before k a ≡ true → is_before k b ≡ true
before_not a b e k f = go (slot_order.ghosts.cmp a b) refl
  where
    back : (r : Ordering) → slot_order.ghosts.cmp a b ≡ r → slot_order.ghosts.cmp b a ≡ ordering_reverse r
    back r g = slot_laws.total-law.antisymm b a ∙ ap ordering_reverse g

    go : (r : Ordering) → slot_order.ghosts.cmp a b ≡ r → is_before k b ≡ true
    go Less g = ap is_lt (slot_laws.total-law.trans k a b (is_less _ f) g)
    go Equal g = subst (λ z. is_before k z ≡ true) (slot-exact a b g) f
    go Greater g = absurd (let t : true ≡ false = ap is_lt (sym (back Greater g)) ∙ e in cc)

-- what is ahead of the lesser is ahead of both
record AreAhead (k : SlotKey) (a b : Option SlotKey) : Type 0 where
  one : IsAhead k a
  other : IsAhead k b

ahead_both : (k : SlotKey) (a b : Option SlotKey) → IsAhead k (lesser a b) → AreAhead k a b
ahead_both k None b h = record { one = tt; other = h }
ahead_both k (Some a) None h = record { one = h; other = tt }
ahead_both k (Some a) (Some b) h = go (is_before b a) refl h
  where
    go : (t : Bool) → is_before b a ≡ t → IsAhead k (cond t (Some b) (Some a)) → AreAhead k (Some a) (Some b)
    go true e f = record { one = ap is_lt (slot_laws.total-law.trans k b a (is_less _ f) (is_less _ e)); other = f }
    go false e f = record { one = f; other = before_not a b e k f }

module _ {R : Type 0} (key_of : R → SlotKey) (p : SlotKey → Bool) where
  -- what is found passes
  found_passes : (rows : List R) (x : SlotKey) → find p (map key_of rows) ≡ Some x → p x ≡ true
  found_passes [] x e = absurd cc
  found_passes (row ∷ rows) x e = go (p (key_of row)) refl e (found_passes rows x)
    where
      go : (b : Bool) → p (key_of row) ≡ b → cond b (Some (key_of row)) (find p (map key_of rows)) ≡ Some x → (find p (map key_of rows) ≡ Some x → p x ≡ true) → p x ≡ true
      go true is f ih = let same : key_of row ≡ x = cc in subst (λ z. p z ≡ true) same is
      go false is f ih = ih f

  -- a key that passes, ahead of what is found first, isn't among the rows
  not_ahead : (rows : List R) (k : SlotKey) → AreInOrder key_of slot_order.ghosts.cmp rows → p k ≡ true → IsAhead k (find p (map key_of rows)) → store.find key_of slot_order.ghosts.cmp k rows ≡ None
  not_ahead [] k order passes h = refl
  not_ahead (row ∷ rows) k order passes h = go (p (key_of row)) refl h (not_ahead rows k order.1 passes)
    where
      go : (b : Bool) → p (key_of row) ≡ b → IsAhead k (cond b (Some (key_of row)) (find p (map key_of rows))) → (IsAhead k (find p (map key_of rows)) → store.find key_of slot_order.ghosts.cmp k rows ≡ None)
          → store.find key_of slot_order.ghosts.cmp k (row ∷ rows) ≡ None
      go true is f ih =
          let less = is_less _ f in
          find_greater key_of slot_order.ghosts.cmp slot_laws.total-law k (row ∷ rows) (less, greater_than_less key_of slot_order.ghosts.cmp slot_laws.total-law k (key_of row) rows less order.0)
      go false is f ih = ap (λ b. cond b (Some row) (store.find key_of slot_order.ghosts.cmp k rows)) (other (is_eq (slot_order.ghosts.cmp (key_of row) k)) refl) ∙ ih f
        where
          other : (b : Bool) → is_eq (slot_order.ghosts.cmp (key_of row) k) ≡ b → b ≡ false
          other false e = refl
          other true e = absurd (let t = sym (ap p (slot-exact (key_of row) k (is_eq-true _ e))) ∙ is in let u = sym t ∙ passes in cc)

-- ---- what is visited next

own_same : (c : Controller) → controller_eq.ghosts.eq c c ≡ true
own_same controller.Service = refl
own_same controller.Configuration = refl
own_same controller.Revision = refl
own_same controller.Collector = refl
own_same controller.Route = refl

module _ (w : Plane) (c : Controller) (last : Option SlotKey) (marks : List Mark) (rows : List Row)
    (marks_ordered : AreInOrder (λ (m : Mark). m.key) slot_order.ghosts.cmp marks) (rows_ordered : AreInOrder (λ (r : Row). r.key) slot_order.ghosts.cmp rows)
    (slots : w.slots ≡ map look_in rows) (rests : (k : SlotKey) → is_marked k marks ≡ false → HasNothing w k) where
  abbrev marked : Option SlotKey
  marked = find (is_next c last (present w)) (map (λ (m : Mark). m.key) marks)

  abbrev busy : Option SlotKey
  busy = find (is_next c last (present w)) (map (λ (r : Row). r.key) rows)

  -- a round of a key ahead of both changes nothing
  ahead_rests : (n : Name) → is_after last (slot_key c n) ≡ true → AreAhead (slot_key c n) marked busy → round (slot_key c n) w ≡ w
  ahead_rests n after ahead = go (is_key (slot_key c n) (present w)) refl
    where
      go : (b : Bool) → is_key (slot_key c n) (present w) ≡ b → round (slot_key c n) w ≡ w
      go false off = sym (round_off w (slot_key c n) off)
      go true known =
          let next : is_next c last (present w) (slot_key c n) ≡ true = both (both (own_same c) after) known in
          round_calm w (slot_key c n) (record {
            due = rests (slot_key c n) (ap is_some (not_ahead (λ (m : Mark). m.key) (is_next c last (present w)) marks (slot_key c n) marks_ordered next ahead.one));
            idle = ap (look_of (slot_key c n)) slots ∙ look-found (slot_key c n) rows ∙ ap (option_map look_in) (not_ahead (λ (r : Row). r.key) (is_next c last (present w)) rows (slot_key c n) rows_ordered next ahead.other);
          })

  lesser_is : (a b : Option SlotKey) (x : SlotKey) → (a ≡ Some x → is_next c last (present w) x ≡ true) → (b ≡ Some x → is_next c last (present w) x ≡ true) → lesser a b ≡ Some x → is_next c last (present w) x ≡ true
  lesser_is None b x p q e = q e
  lesser_is (Some a) None x p q e = p e
  lesser_is (Some a) (Some b) x p q e = go (is_before b a) e
    where
      go : (t : Bool) → cond t (Some b) (Some a) ≡ Some x → is_next c last (present w) x ≡ true
      go true f = q f
      go false f = p f

  pub visit_is : (next : Option SlotKey) → next ≡ lesser marked busy → IsVisit w c last next
  visit_is None e = λ n after. ahead_rests n after (ahead_both (slot_key c n) marked busy (subst (IsAhead (slot_key c n)) e tt))
  visit_is (Some x) e =
      let passes = lesser_is marked busy x (found_passes (λ (m : Mark). m.key) (is_next c last (present w)) marks x) (found_passes (λ (r : Row). r.key) (is_next c last (present w)) rows x) (sym e) in
      let left_behind = left (controller_eq.ghosts.eq x.controller c && is_after last x) (is_key x (present w)) passes in
      record {
        own = controller-exact x.controller c (left (controller_eq.ghosts.eq x.controller c) (is_after last x) left_behind);
        after = right (controller_eq.ghosts.eq x.controller c) (is_after last x) left_behind;
        known = right (controller_eq.ghosts.eq x.controller c && is_after last x) (is_key x (present w)) passes;
        skipped = λ n after ahead. ahead_rests n after (ahead_both (slot_key c n) marked busy (subst (IsAhead (slot_key c n)) e ahead));
      }

-- ---- a pass

-- the names of the pass
abbrev pub names_at : Controller → Plane → List Name
names_at c w = names_for c (present w)

-- at first all are left
pub none_last : (c : Controller) (ns : List Name) → left_of c None ns ≡ map (slot_key c) ns
none_last c [] = refl
none_last c (n ∷ ns) = ap (λ ks. slot_key c n ∷ ks) (none_last c ns)

own_key : (c : Controller) (key : SlotKey) → key.controller ≡ c → key ≡ slot_key c key.name
own_key c key e = ap (λ d. slot_key d key.name) e

among : (c : Controller) (n : Name) (st : State) → is_key (slot_key c n) st ≡ true → list_any (same_name n) (names_for c st) ≡ true
unfolding is_key
among c n st e = e

module _ (c : Controller) (last : Option SlotKey) (start w : Plane) where
  -- no key is left that is visited: the pass is over
  pub pass_ends : IsVisit w c last None → rounds (left_of c last (names_at c start)) w ≡ w
  pass_ends h = skips_all c last w (names_at c start) h

  module _ (key : SlotKey) (visit : IsVisited w c last key) (known : is_key key (present start) ≡ true) where
    abbrev named : SlotKey
    named = slot_key c key.name

    is_named : key ≡ named
    is_named = own_key c key visit.own

    after_named : is_after last named ≡ true
    after_named = subst (λ k. is_after last k ≡ true) is_named visit.after

    in_pass : list_any (same_name key.name) (names_at c start) ≡ true
    in_pass = among c key.name (present start) (subst (λ k. is_key k (present start) ≡ true) is_named known)

    -- the rounds of the keys up to this one are that of this one
    pub pass_goes : rounds (left_of c last (names_at c start)) w ≡ rounds (left_of c (Some key) (names_at c start)) (round key w)
    pass_goes =
        skips_to c last w key.name after_named (names_at c start) (in_order_for c start.journal) in_pass
        (λ n after less. visit.skipped n after (ap is_lt (ap (slot_order.ghosts.cmp (slot_key c n)) is_named ∙ slot_side c n key.name ∙ less)))
        ∙ sym (ap (λ k. rounds (left_of c (Some k) (names_at c start)) (round k w)) is_named)

    pub pass_falls : length (left_of c (Some key) (names_at c start)) < length (left_of c last (names_at c start))
    pass_falls =
        subst (λ k. length (left_of c (Some k) (names_at c start)) < length (left_of c last (names_at c start))) (sym is_named)
        (skips_fall c last w key.name after_named (names_at c start) (in_order_for c start.journal) in_pass)

-- the keys of the controller are those at the start of its pass, at most
abbrev pub AreKnown : Controller → Plane → Plane → Type 0
AreKnown c start w = (pick : SlotKey) → pick.controller ≡ c → is_key pick (present w) ≡ true → is_key pick (present start) ≡ true

-- in the same plane by another name
pub known_as : (c : Controller) (start w v : Plane) → v ≡ w → AreKnown c start w → AreKnown c start v
known_as c start w v e known = subst (AreKnown c start) (sym e) known

-- and so they are after a round
pub known_later : (c : Controller) (start w v : Plane) (key : SlotKey) → IsKept is_good w → key.controller ≡ c → v ≡ round key w → AreKnown c start w → AreKnown c start v
known_later c start w v key kept own is known pick mine e = known pick mine (round_adds good_laws w key pick kept (mine ∙ sym own) (subst (λ x. is_key pick (present x) ≡ true) is e))
