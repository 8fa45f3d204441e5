-- A step for each name of the Route controller, one after another; so names are put in order.
use Rattle.std.proofs.Common.{◌≡◌, ℕ, zero, suc, ◌+◌, ◌≤◌, Bool, true, false, ◌&&◌, cond, List, [], ◌∷◌, ◌++◌, length, drop, Some, Ordering, refl, sym, ap, ◌∙◌, arith}
use Rattle.std.specs.Prelude.{map, slice_get}
use Rattle.std.specs.List.{filter}
use Rattle.std.specs.declared.cmp.Ordering.TheVariants.{Less, Equal, Greater}
use Rattle.version_store.specs.State as store
use Rattle.resource_types.specs.declared.names.Kind.{Kind}
use Rattle.resource_types.specs.declared.names.Kind.TheVariants as kind
use Rattle.resource_types.specs.declared.names.Name.{Name}
use Rattle.resource_types.specs.declared.names.Controller.TheVariants as controller
use Rattle.resource_types.specs.declared.objects.Object.{Object}
use Rattle.resource_types.specs.contracts.names.NameOrd.TheImpl as name_order
use Rattle.resource_types.specs.Objects.{same_kind, is_of, kind_of_body}
use Rattle.resource_types.specs.Lookups.{State, of_kind}
use Rattle.resource_types.proofs.Lists.{drop_at}
use Rattle.control_rules.specs.Standing.{beside}
use Rattle.control_rules.specs.Slots.{names_of, holders, all_holders, in_order, names_for}
use Rattle.slot_keys.specs.declared.routed.Routed.{Routed}
use Rattle.slot_keys.specs.Routed.{after_each, put_name, put_names, names_in}
use Rattle.slot_keys.proofs.Keying.{names_kind, drop_past}
use Rattle.slot_keys.proofs.Swaps.{put_swaps}

-- ---- rows

put_by : (r : Ordering) (new row : Routed) (rows rest : List Routed) (names : List Name) → names_in rest ≡ names
    → names_in (store.placed r new row rows rest) ≡ store.placed r new.name row.name (names_in rows) names
put_by Less new row rows rest names e = refl
put_by Equal new row rows rest names e = refl
put_by Greater new row rows rest names e = ap (λ ns. row.name ∷ ns) e

-- the names of rows with one put in
pub names-put : (new : Routed) (rows : List Routed) → names_in (store.put (λ (r : Routed). r.name) name_order.ghosts.cmp new rows) ≡ put_name new.name (names_in rows)
names-put new [] = refl
names-put new (row ∷ rows) = put_by (name_order.ghosts.cmp new.name row.name) new row rows (store.put (λ (r : Routed). r.name) name_order.ghosts.cmp new rows) (put_name new.name (names_in rows)) (names-put new rows)

-- ---- what is left of a list

-- no pin is left
nothing_past : (pins : List (List ℕ)) (n : ℕ) → length pins ≤ n → drop n pins ≡ []
nothing_past [] zero le = refl
nothing_past [] (suc n) le = refl
nothing_past (p ∷ pins) zero le = absurd (omega (arith, le))
nothing_past (p ∷ pins) (suc n) le = let le' : length pins ≤ n = omega (arith, le) in nothing_past pins n le'

-- the Revisions among the objects of their kind are those among all
filter_by : (o : Object) (one other : State) → filter (is_of kind.Revision) one ≡ filter (is_of kind.Revision) other → (a b : Bool) → is_of kind.Revision o ≡ (a && b)
    → filter (is_of kind.Revision) (cond a (o ∷ one) one) ≡ cond (is_of kind.Revision o) (o ∷ filter (is_of kind.Revision) other) (filter (is_of kind.Revision) other)
filter_by o one other e true b is = ap (λ os. cond (is_of kind.Revision o) (o ∷ os) os) e
filter_by o one other e false b is = e ∙ sym (ap (λ c. cond c (o ∷ filter (is_of kind.Revision) other) (filter (is_of kind.Revision) other)) is)

revisions_kind : (st : State) → filter (is_of kind.Revision) (of_kind kind.Revision st) ≡ filter (is_of kind.Revision) st
revisions_kind [] = refl
revisions_kind (o ∷ st) = filter_by o (of_kind kind.Revision st) st (revisions_kind st) (same_kind o.key.kind kind.Revision) (same_kind (kind_of_body o.body) kind.Revision) refl

-- ---- steps for names

pub steps-append : {A : Type 0} (step : Name → A → A) (xs ys : List Name) (a : A) → after_each step (xs ++ ys) a ≡ after_each step xs (after_each step ys a)
unfolding after_each
steps-append step [] ys a = refl
steps-append step (x ∷ xs) ys a = ap (step x) (steps-append step xs ys a)

-- steps that may be swapped may be taken in any order
module _ {A : Type 0} (step : Name → A → A) (swaps : (n m : Name) (a : A) → step n (step m a) ≡ step m (step n a)) where
  step_first : (n : Name) (ns : List Name) (a : A) → after_each step ns (step n a) ≡ step n (after_each step ns a)
  unfolding after_each
  step_first n [] a = refl
  step_first n (m ∷ ns) a = ap (step m) (step_first n ns a) ∙ swaps m n (after_each step ns a)

  pub steps_swap : (xs ys : List Name) (a : A) → after_each step xs (after_each step ys a) ≡ after_each step ys (after_each step xs a)
  unfolding after_each
  steps_swap [] ys a = refl
  steps_swap (x ∷ xs) ys a = ap (step x) (steps_swap xs ys a) ∙ sym (step_first x ys (after_each step xs a))

  -- ---- an object more

  pub kind_init : (k : Kind) (objects st : State) (a : A) → objects ≡ of_kind k st → after_each step (names_of k objects) a ≡ after_each step (names_of k st) a
  kind_init k objects st a walk = ap (λ os. after_each step (names_of k os) a) walk ∙ ap (λ ns. after_each step ns a) (names_kind k st)

  module _ (k : Kind) (objects : State) (place : ℕ) (before all : A) (so_far : after_each step (names_of k (drop place objects)) before ≡ all) where
    module _ (o : Object) (at : slice_get objects place ≡ Some o) where
      abbrev rest_of : State
      rest_of = filter (is_of k) (drop (place + 1) objects)

      names_here : after_each step (map (λ (x : Object). x.key.name) (cond (is_of k o) (o ∷ rest_of) rest_of)) before ≡ all
      names_here = sym (ap (λ os. after_each step (names_of k os) before) (drop_at objects place o at)) ∙ so_far

      -- of the kind, or not
      pub kind_more : (now : A) → is_of k o ≡ true → now ≡ step o.key.name before → after_each step (names_of k (drop (place + 1) objects)) now ≡ all
      unfolding after_each
      kind_more now is e =
          ap (after_each step (names_of k (drop (place + 1) objects))) e ∙ step_first o.key.name (names_of k (drop (place + 1) objects)) before
          ∙ sym (ap (λ b. after_each step (map (λ (x : Object). x.key.name) (cond b (o ∷ rest_of) rest_of)) before) is) ∙ names_here

      pub kind_less : is_of k o ≡ false → after_each step (names_of k (drop (place + 1) objects)) before ≡ all
      kind_less is = sym (ap (λ b. after_each step (map (λ (x : Object). x.key.name) (cond b (o ∷ rest_of) rest_of)) before) is) ∙ names_here

    -- none is left
    pub kind_whole : length objects ≤ place → before ≡ all
    unfolding after_each
    kind_whole le = sym (ap (λ os. after_each step (names_of k os) before) (drop_past objects place le)) ∙ so_far

  -- ---- a pin more

  module _ (n : Name) (pins : List (List ℕ)) (place : ℕ) (before all : A) (so_far : after_each step (map (beside n) (drop place pins)) before ≡ all) where
    pub pin_more : (pin : List ℕ) → slice_get pins place ≡ Some pin → (now : A) → now ≡ step (beside n pin) before → after_each step (map (beside n) (drop (place + 1) pins)) now ≡ all
    unfolding after_each
    pin_more pin at now e =
        ap (after_each step (map (beside n) (drop (place + 1) pins))) e ∙ step_first (beside n pin) (map (beside n) (drop (place + 1) pins)) before
        ∙ sym (ap (λ ps. after_each step (map (beside n) ps) before) (drop_at pins place pin at)) ∙ so_far

    pub pins_whole : length pins ≤ place → before ≡ all
    unfolding after_each
    pins_whole le = sym (ap (λ ps. after_each step (map (beside n) ps) before) (nothing_past pins place le)) ∙ so_far

  -- ---- a Revision more

  pub holders_init : (objects st : State) (a : A) → objects ≡ of_kind kind.Revision st
      → after_each step (all_holders (filter (is_of kind.Revision) objects)) a ≡ after_each step (all_holders (filter (is_of kind.Revision) st)) a
  holders_init objects st a walk =
      ap (λ os. after_each step (all_holders (filter (is_of kind.Revision) os)) a) walk ∙ ap (λ os. after_each step (all_holders os) a) (revisions_kind st)

  module _ (objects : State) (place : ℕ) (before all : A) (so_far : after_each step (all_holders (filter (is_of kind.Revision) (drop place objects))) before ≡ all) where
    module _ (o : Object) (at : slice_get objects place ≡ Some o) where
      abbrev rest : State
      rest = filter (is_of kind.Revision) (drop (place + 1) objects)

      holders_here : after_each step (all_holders (cond (is_of kind.Revision o) (o ∷ rest) rest)) before ≡ all
      holders_here = sym (ap (λ os. after_each step (all_holders (filter (is_of kind.Revision) os)) before) (drop_at objects place o at)) ∙ so_far

      pub holders_more : (now : A) → is_of kind.Revision o ≡ true → now ≡ after_each step (holders o) before → after_each step (all_holders (filter (is_of kind.Revision) (drop (place + 1) objects))) now ≡ all
      holders_more now is e =
          ap (after_each step (all_holders rest)) e ∙ steps_swap (all_holders rest) (holders o) before ∙ sym (steps-append step (holders o) (all_holders rest) before)
          ∙ sym (ap (λ b. after_each step (all_holders (cond b (o ∷ rest) rest)) before) is) ∙ holders_here

      pub holders_less : is_of kind.Revision o ≡ false → after_each step (all_holders (filter (is_of kind.Revision) (drop (place + 1) objects))) before ≡ all
      holders_less is = sym (ap (λ b. after_each step (all_holders (cond b (o ∷ rest) rest)) before) is) ∙ holders_here

    pub holders_whole : length objects ≤ place → before ≡ all
    unfolding after_each
    holders_whole le = sym (ap (λ os. after_each step (all_holders (filter (is_of kind.Revision) os)) before) (drop_past objects place le)) ∙ so_far

-- ---- all names

pub put-order : (xs : List Name) → put_names xs [] ≡ in_order xs
unfolding after_each in_order
put-order [] = refl
put-order (x ∷ xs) = ap (put_name x) (put-order xs)

-- the names of the Route controller, those of Routes first
pub names_routed : (st : State) (a b c : List Name) → a ≡ put_names (names_of kind.Route st) [] → b ≡ put_names (names_of kind.Table st) a
    → c ≡ put_names (all_holders (filter (is_of kind.Revision) st)) b → c ≡ names_for controller.Route st
unfolding names_for
names_routed st a b c p q r =
    let pins = all_holders (filter (is_of kind.Revision) st) in
    let routes = names_of kind.Route st in
    let tables = names_of kind.Table st in
    r ∙ ap (put_names pins) (q ∙ ap (put_names tables) p ∙ steps_swap put_name put_swaps tables routes [])
    ∙ steps_swap put_name put_swaps pins routes (put_names tables [])
    ∙ ap (put_names routes) (steps_swap put_name put_swaps pins tables [])
    ∙ ap (put_names routes) (sym (steps-append put_name tables pins []))
    ∙ sym (steps-append put_name routes (tables ++ pins) [])
    ∙ put-order (routes ++ (tables ++ pins))

-- ---- a row more

-- the name at a place of the rows
pub name_at : (rows : List Routed) (place : ℕ) (row : Routed) → slice_get rows place ≡ Some row → slice_get (names_in rows) place ≡ Some row.name
name_at [] place row e = absurd cc
name_at (r ∷ rows) zero row e = let f : r ≡ row = cc in ap (λ (x : Routed). Some x.name) f
name_at (r ∷ rows) (suc place) row e = name_at rows place row e
