-- Rows in order, and those that a pass of a controller has behind it.
use Rattle.std.proofs.Common.{◌≡◌, ◌⊎◌, inl, inr, ℕ, zero, suc, ◌+◌, ◌-◌, ◌<◌, ◌≤◌, Bool, true, false, ◌&&◌, ◌||◌, not, cond, List, [], ◌∷◌, length, drop, get_or, slice_range, map, Option, Some, None, Ordering, refl, sym, ap, subst, ◌∙◌, arith}
use Rattle.std.specs.List.{find}
use Rattle.std.specs.List.Sorted.{IsPartitionedBy}
use Rattle.std.specs.Ordering.{is_eq, is_lt, is_gt, ordering_reverse, ordering_then}
use Rattle.std.specs.declared.cmp.Ordering.TheVariants.{Less, Equal, Greater}
use Rattle.std.proofs.Common.{add-one}
use Rattle.std.proofs.Math.Seq.{drop-cons}
use Rattle.std.proofs.lemmas.List.{drop_all, take_all, length-drop}
use Rattle.std.proofs.lemmas.Bool.{cases_lt}
use Rattle.version_store.specs.Index.{AreInOrder, AreGreater}
use Rattle.resource_types.specs.declared.names.Controller.{Controller}
use Rattle.resource_types.specs.declared.names.SlotKey.{SlotKey}
use Rattle.resource_types.specs.contracts.names.NameOrd.TheImpl as name_order
use Rattle.resource_types.specs.contracts.names.SlotKeyOrd.TheImpl as slot_order
use Rattle.resource_types.specs.contracts.names.SlotKeyOrd.TheImpl.Laws as slot_laws
use Rattle.resource_types.specs.contracts.names.ControllerPartialEq.TheImpl as controller_eq
use Rattle.resource_types.specs.contracts.names.ControllerOrd.TheImpl as controller_order
use Rattle.resource_types.specs.contracts.names.ControllerOrd.TheImpl.Laws as controller_laws
use Rattle.resource_types.specs.Lookups.{State}
use Rattle.resource_types.proofs.Exact.{left, right, controller-exact}
use Rattle.control_entries.proofs.Tests.{or_cases, true_or_false, not_both, not_true, false_from}
use Rattle.control_touches.proofs.Own.{or_left, or_right}
use Rattle.control_rules.specs.Slots.{is_key}
use Rattle.control_rules.specs.Steps.{is_after}
use Rattle.step_scheduler.specs.Passes.{is_next, is_passed}

-- ---- keys in order

less_is : (r : Ordering) → is_lt r ≡ true → r ≡ Less
less_is Less e = refl
less_is Equal e = absurd cc
less_is Greater e = absurd cc

greater_is : (r : Ordering) → is_gt r ≡ true → r ≡ Greater
greater_is Less e = absurd cc
greater_is Equal e = absurd cc
greater_is Greater e = refl

not_greater : (r : Ordering) → is_eq r ≡ true → is_gt r ≡ true → ⊥
not_greater Less e h = absurd cc
not_greater Equal e h = absurd cc
not_greater Greater e h = absurd cc

not_less : (r : Ordering) → is_eq r ≡ true → is_lt r ≡ true → ⊥
not_less Less e h = absurd cc
not_less Equal e h = absurd cc
not_less Greater e h = absurd cc

-- of two keys in order, the controllers are in order or the same
controllers_of : (a b : SlotKey) → slot_order.ghosts.cmp a b ≡ Less → (controller_order.ghosts.cmp a.controller b.controller ≡ Less) ⊎ (a.controller ≡ b.controller)
controllers_of a b e = go (controller_order.ghosts.cmp a.controller b.controller) refl e
  where
    go : (r : Ordering) → controller_order.ghosts.cmp a.controller b.controller ≡ r → ordering_then r (name_order.ghosts.cmp a.name b.name) ≡ Less → (controller_order.ghosts.cmp a.controller b.controller ≡ Less) ⊎ (a.controller ≡ b.controller)
    go Less q h = inl q
    go Equal q h = inr (controller-exact a.controller b.controller (controller_laws.matches_eq-law a.controller b.controller ∙ ap is_eq q))
    go Greater q h = absurd cc

-- with a key, all lesser ones are behind the pass
passed_before : (c : Controller) (last : Option SlotKey) (a b : SlotKey) → slot_order.ghosts.cmp a b ≡ Less → is_passed c last b ≡ true → is_passed c last a ≡ true
passed_before c last a b less passed = go (or_cases passed)
  where
    earlier : is_lt (controller_order.ghosts.cmp b.controller c) ≡ true → (controller_order.ghosts.cmp a.controller b.controller ≡ Less) ⊎ (a.controller ≡ b.controller) → is_lt (controller_order.ghosts.cmp a.controller c) ≡ true
    earlier h (inl q) = ap is_lt (controller_laws.total-law.trans a.controller b.controller c q (less_is _ h))
    earlier h (inr q) = ap (λ d. is_lt (controller_order.ghosts.cmp d c)) q ∙ h

    upto : (l : Option SlotKey) → not (is_after l b) ≡ true → not (is_after l a) ≡ true
    upto None h = absurd cc
    upto (Some l) h = ap not (false_from (λ t. not_both (ap is_lt (slot_laws.total-law.trans l a b (less_is _ t) less)) (not_true h)))

    go : (is_lt (controller_order.ghosts.cmp b.controller c) ≡ true) ⊎ (not (is_after last b) ≡ true) → is_passed c last a ≡ true
    go (inl h) = or_left _ _ (earlier h (controllers_of a b less))
    go (inr h) = or_right (is_lt (controller_order.ghosts.cmp a.controller c)) _ (upto last h)

-- ---- the first among rows

module _ {R : Type 0} (key_of : R → SlotKey) (p : SlotKey → Bool) (rows : List R) (i : ℕ) where
  module _ (row : R) (lt : i < length rows) (at : row ≡ get_or rows i row) where
    first_row : drop i rows ≡ row ∷ drop (i + 1) rows
    first_row = drop-cons rows i row lt ∙ ap (λ n. get_or rows i row ∷ drop n rows) (sym (add-one i)) ∙ ap (λ r. r ∷ drop (i + 1) rows) (sym at)

    found_from : find p (map key_of (drop i rows)) ≡ cond (p (key_of row)) (Some (key_of row)) (find p (map key_of (drop (i + 1) rows)))
    found_from = ap (λ rs. find p (map key_of rs)) first_row

    -- a row that passes
    pub row_found : p (key_of row) ≡ true → Some (key_of row) ≡ find p (map key_of (drop i rows))
    row_found e = sym (found_from ∙ ap (λ b. cond b (Some (key_of row)) (find p (map key_of (drop (i + 1) rows)))) e)

    -- and one that doesn't
    pub row_passed : p (key_of row) ≡ false → find p (map key_of (drop (i + 1) rows)) ≡ find p (map key_of (drop i rows))
    row_passed e = sym (found_from ∙ ap (λ b. cond b (Some (key_of row)) (find p (map key_of (drop (i + 1) rows)))) e)

  -- no row is left
  pub rows_past : length rows ≤ i → find p (map key_of (drop i rows)) ≡ None
  rows_past le = ap (λ rs. find p (map key_of rs)) (drop_all i rows le)

-- ---- rows in order

module _ {R : Type 0} (key_of : R → SlotKey) where
  greater_at : (k : SlotKey) (rows : List R) (j : ℕ) (d : R) → AreGreater key_of slot_order.ghosts.cmp k rows → j < length rows → slot_order.ghosts.cmp k (key_of (get_or rows j d)) ≡ Less
  greater_at k [] j d h lt = absurd (omega arith)
  greater_at k (row ∷ rows) zero d h lt = h.0
  greater_at k (row ∷ rows) (suc j) d h lt = greater_at k rows j d h.1 (omega arith)

  before_at : (rows : List R) (i j : ℕ) (d : R) → AreInOrder key_of slot_order.ghosts.cmp rows → i < j → j < length rows → slot_order.ghosts.cmp (key_of (get_or rows i d)) (key_of (get_or rows j d)) ≡ Less
  before_at [] i j d h lt within = absurd (omega arith)
  before_at (row ∷ rows) i zero d h lt within = absurd (omega arith)
  before_at (row ∷ rows) zero (suc j) d h lt within = greater_at (key_of row) rows j d h.0 (omega arith)
  before_at (row ∷ rows) (suc i) (suc j) d h lt within = before_at rows i j d h.1 (omega arith) (omega arith)

  pub order_drop : (i : ℕ) (rows : List R) → AreInOrder key_of slot_order.ghosts.cmp rows → AreInOrder key_of slot_order.ghosts.cmp (drop i rows)
  order_drop zero rows h = h
  order_drop (suc i) [] h = tt
  order_drop (suc i) (row ∷ rows) h = order_drop i rows h.1

  -- the rows from a place on
  pub rest_is : (i : ℕ) (rows : List R) → slice_range rows i (length rows) ≡ drop i rows
  rest_is i rows = take_all (length rows - i) (drop i rows) (omega (arith, length-drop i rows))

  module _ (c : Controller) (last : Option SlotKey) where
    -- the rows that the pass has behind it stand before the others
    pub parted : (rows : List R) → AreInOrder key_of slot_order.ghosts.cmp rows → IsPartitionedBy (λ row. is_passed c last (key_of row)) rows
    parted rows order i j d le within passed = go (cases_lt i j)
      where
        go : (i < j) ⊎ (j ≤ i) → is_passed c last (key_of (get_or rows i d)) ≡ true
        go (inl lt) = passed_before c last (key_of (get_or rows i d)) (key_of (get_or rows j d)) (before_at rows i j d order lt within) passed
        go (inr ge) = let same : j ≡ i = omega arith in subst (λ k. is_passed c last (key_of (get_or rows k d)) ≡ true) same passed

    module _ (st : State) where
      passed_off : (k : SlotKey) → is_passed c last k ≡ true → is_next c last st k ≡ false
      passed_off k passed = false_from (λ next. go next (or_cases passed))
        where
          own : is_next c last st k ≡ true → (controller_eq.ghosts.eq k.controller c && is_after last k) ≡ true
          own next = left (controller_eq.ghosts.eq k.controller c && is_after last k) (is_key k st) next

          go : is_next c last st k ≡ true → (is_lt (controller_order.ghosts.cmp k.controller c) ≡ true) ⊎ (not (is_after last k) ≡ true) → ⊥
          go next (inl h) = not_less (controller_order.ghosts.cmp k.controller c) (sym (controller_laws.matches_eq-law k.controller c) ∙ left (controller_eq.ghosts.eq k.controller c) (is_after last k) (own next)) h
          go next (inr h) = not_both (right (controller_eq.ghosts.eq k.controller c) (is_after last k) (own next)) (not_true h)

      -- what is found among the rows is found behind those
      pub found_ahead : (rows : List R) (i : ℕ) → ((n : ℕ) (d : R) → 0 ≤ n → n < i → is_passed c last (key_of (get_or rows n d)) ≡ true) → find (is_next c last st) (map key_of (drop i rows)) ≡ find (is_next c last st) (map key_of rows)
      found_ahead rows zero h = refl
      found_ahead [] (suc i) h = refl
      found_ahead (row ∷ rows) (suc i) h =
          found_ahead rows i (λ n d low lt. h (suc n) d (omega arith) (omega arith))
          ∙ sym (ap (λ b. cond b (Some (key_of row)) (find (is_next c last st) (map key_of rows))) (passed_off (key_of row) (h 0 row (omega arith) (omega arith))))

      -- a key of a later controller isn't one of the pass, and no key behind it is
      later_off : (k : SlotKey) → is_gt (controller_order.ghosts.cmp k.controller c) ≡ true → is_next c last st k ≡ false
      later_off k later = false_from (λ next. not_greater (controller_order.ghosts.cmp k.controller c)
          (sym (controller_laws.matches_eq-law k.controller c) ∙ left (controller_eq.ghosts.eq k.controller c) (is_after last k) (left (controller_eq.ghosts.eq k.controller c && is_after last k) (is_key k st) next)) later)

      later_than : (k q : SlotKey) → slot_order.ghosts.cmp k q ≡ Less → is_gt (controller_order.ghosts.cmp k.controller c) ≡ true → is_gt (controller_order.ghosts.cmp q.controller c) ≡ true
      later_than k q less later = go (controllers_of k q less)
        where
          turned : controller_order.ghosts.cmp c k.controller ≡ Less
          turned = controller_laws.total-law.antisymm c k.controller ∙ ap ordering_reverse (greater_is _ later)

          go : (controller_order.ghosts.cmp k.controller q.controller ≡ Less) ⊎ (k.controller ≡ q.controller) → is_gt (controller_order.ghosts.cmp q.controller c) ≡ true
          go (inl h) = ap is_gt (controller_laws.total-law.antisymm q.controller c ∙ ap ordering_reverse (controller_laws.total-law.trans c k.controller q.controller turned h))
          go (inr h) = ap (λ d. is_gt (controller_order.ghosts.cmp d c)) (sym h) ∙ later

      none_later : (k : SlotKey) → is_gt (controller_order.ghosts.cmp k.controller c) ≡ true → (rows : List R) → AreGreater key_of slot_order.ghosts.cmp k rows → find (is_next c last st) (map key_of rows) ≡ None
      none_later k later [] h = refl
      none_later k later (row ∷ rows) h =
          ap (λ b. cond b (Some (key_of row)) (find (is_next c last st) (map key_of rows))) (later_off (key_of row) (later_than k (key_of row) h.0 later)) ∙ none_later k later rows h.1

      none_from : (row : R) (rows : List R) → is_gt (controller_order.ghosts.cmp (key_of row).controller c) ≡ true → AreInOrder key_of slot_order.ghosts.cmp (row ∷ rows) → find (is_next c last st) (map key_of (row ∷ rows)) ≡ None
      none_from row rows later h = ap (λ b. cond b (Some (key_of row)) (find (is_next c last st) (map key_of rows))) (later_off (key_of row) later) ∙ none_later (key_of row) later rows h.0

      -- so the pass ends at the first row of a later controller
      pub ends_later : (rows : List R) (i : ℕ) (row : R) → i < length rows → row ≡ get_or rows i row → is_gt (controller_order.ghosts.cmp (key_of row).controller c) ≡ true → AreInOrder key_of slot_order.ghosts.cmp rows → find (is_next c last st) (map key_of (drop i rows)) ≡ None
      ends_later rows i row lt at later order =
          let rest = first_row key_of (is_next c last st) rows i row lt at in
          ap (λ rs. find (is_next c last st) (map key_of rs)) rest ∙ none_from row (drop (i + 1) rows) later (subst (AreInOrder key_of slot_order.ghosts.cmp) rest (order_drop i rows order))
