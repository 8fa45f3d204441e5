-- Steps of the cursor: a step takes no notice of it, so it may move before or after.
use Rattle.std.proofs.Common.{◌≡◌, Bool, true, false, cond, List, [], ◌∷◌, ◌++◌, Option, Some, None, refl, sym, ap, ◌∙◌}
use Rattle.std.specs.Prelude.{map}
use Rattle.std.specs.List.{find, list_any}
use Rattle.std.specs.Option.{option_or}
use Rattle.resource_types.specs.declared.names.Controller.{Controller}
use Rattle.resource_types.specs.declared.names.Controller.TheVariants as controller
use Rattle.resource_types.specs.declared.names.Name.{Name}
use Rattle.resource_types.specs.Lookups.{State, is_given}
use Rattle.resource_types.proofs.Exact.{left}
use Rattle.resource_types.specs.declared.names.SlotKey.{SlotKey}
use Rattle.control_rules.specs.declared.slots.StepOutcome.{StepOutcome}
use Rattle.control_rules.specs.declared.slots.StepOutcome.TheVariants as outcome
use Rattle.control_rules.specs.Differences.{ObjectPlan}
use Rattle.control_rules.specs.Slots.{same_name, names_for, is_key, slot_key, keys_for, all_keys, Look, look_of, Plane, present}
use Rattle.control_rules.specs.Steps.{Event, plan_of, drops, plans, writes, goes_on, step_of, is_after, first_of, next_key, stays, picked, step_picked, cursor_step_of}
use Rattle.step_scheduler.specs.Planes.{Is}

-- the event, with another cursor
abbrev with_cursor : Option SlotKey → Event StepOutcome → Event StepOutcome
with_cursor c e = record { plane = record e.plane { cursor = c }; answer = e.answer }

plans_point : (w : Plane) (c : Option SlotKey) (l : Look) (p : Option ObjectPlan) → plans (record w { cursor = c }) l p ≡ with_cursor c (plans w l p)
plans_point w c l None = refl
plans_point w c l (Some plan) = refl

writes_point : (w : Plane) (c : Option SlotKey) (l : Look) (p : Option ObjectPlan) → writes (record w { cursor = c }) l p ≡ with_cursor c (writes w l p)
writes_point w c l None = refl
writes_point w c l (Some plan) = refl

goes_point : (w : Plane) (c : Option SlotKey) (key : SlotKey) (h : Option Look) → goes_on (record w { cursor = c }) key h ≡ with_cursor c (goes_on w key h)
goes_point w c key None = refl
goes_point w c key (Some l) = go l.planned
  where
    go : (b : Bool) → cond b (writes (record w { cursor = c }) l (plan_of w l)) (plans (record w { cursor = c }) l (plan_of w l)) ≡ with_cursor c (cond b (writes w l (plan_of w l)) (plans w l (plan_of w l)))
    go true = writes_point w c l (plan_of w l)
    go false = plans_point w c l (plan_of w l)

-- a step takes no notice of the cursor
pub step_points : (w : Plane) (c : Option SlotKey) (key : SlotKey) → step_of (record w { cursor = c }) key ≡ with_cursor c (step_of w key)
unfolding step_of
step_points w c key = go (is_key key (present w))
  where
    go : (b : Bool) → cond b (goes_on (record w { cursor = c }) key (look_of key w.slots)) (drops (record w { cursor = c }) key outcome.Unknown)
        ≡ with_cursor c (cond b (goes_on w key (look_of key w.slots)) (drops w key outcome.Unknown))
    go true = goes_point w c key (look_of key w.slots)
    go false = refl

-- there is no key
pub cursor_empty : (w : Plane) → None ≡ picked w w.cursor → Is (cursor_step_of w) w outcome.Empty
unfolding cursor_step_of
cursor_empty w e = record { plane_is = ap (λ p. (step_picked w p).plane) e; answer_is = ap (λ p. (step_picked w p).answer) e }

-- the cursor moves once the step is made
pub cursor_steps : (w v x : Plane) (key : SlotKey) (answer : StepOutcome) → Some key ≡ picked w w.cursor → Is (step_of w key) v answer → x ≡ record v { cursor = Some key } → Is (cursor_step_of w) x answer
unfolding cursor_step_of
cursor_steps w v x key answer e s is = record {
  plane_is = is ∙ ap (λ (z : Plane). record z { cursor = Some key }) s.plane_is ∙ sym (ap (λ z. z.plane) (step_points w (Some key) key)) ∙ ap (λ p. (step_picked w p).plane) e;
  answer_is = s.answer_is ∙ sym (ap (λ z. z.answer) (step_points w (Some key) key)) ∙ ap (λ p. (step_picked w p).answer) e;
}

-- ---- there are no keys

next_none : (cursor : Option SlotKey) (keys : List SlotKey) → None ≡ next_key cursor keys → keys ≡ []
unfolding next_key
next_none cursor [] e = refl
next_none cursor (key ∷ keys) e = absurd (go (find (is_after cursor) (key ∷ keys)) e)
  where
    go : (o : Option SlotKey) → None ≡ option_or o (Some key) → ⊥
    go None f = cc
    go (Some k) f = cc

next_some : (cursor : Option SlotKey) (keys : List SlotKey) (key : SlotKey) → Some key ≡ next_key cursor keys → keys ≡ [] → ⊥
unfolding next_key
next_some cursor keys key e z = let f = e ∙ ap (λ ks. option_or (find (is_after cursor) ks) (first_of ks)) z in cc

pub cursor_none : (w : Plane) → None ≡ picked w w.cursor → all_keys (present w) ≡ []
cursor_none w e = go w.cursor e
  where
    go : (c : Option SlotKey) → None ≡ picked w c → all_keys (present w) ≡ []
    go None f = next_none None (all_keys (present w)) f
    go (Some last) f = by (stays w last) f
      where
        by : (b : Bool) → None ≡ cond b (Some last) (next_key (Some last) (all_keys (present w))) → all_keys (present w) ≡ []
        by true g = absurd cc
        by false g = next_none (Some last) (all_keys (present w)) g

none_left : {X : Type 0} (xs ys : List X) → xs ++ ys ≡ [] → xs ≡ []
none_left [] ys e = refl
none_left (x ∷ xs) ys e = absurd cc

none_right : {X : Type 0} (xs ys : List X) → xs ++ ys ≡ [] → ys ≡ []
none_right [] ys e = e
none_right (x ∷ xs) ys e = absurd cc

none_named : (c : Controller) (ns : List Name) → map (slot_key c) ns ≡ [] → ns ≡ []
none_named c [] e = refl
none_named c (n ∷ ns) e = absurd cc

no_keys_of : (st : State) → all_keys st ≡ [] → (c : Controller) → keys_for c st ≡ []
unfolding all_keys
no_keys_of st e controller.Service = none_left _ _ e
no_keys_of st e controller.Configuration = none_left _ _ (none_right (keys_for controller.Service st) _ e)
no_keys_of st e controller.Revision = none_left _ _ (none_right (keys_for controller.Configuration st) _ (none_right (keys_for controller.Service st) _ e))
no_keys_of st e controller.Collector =
    none_left _ _ (none_right (keys_for controller.Revision st) _ (none_right (keys_for controller.Configuration st) _ (none_right (keys_for controller.Service st) _ e)))
no_keys_of st e controller.Route =
    none_right (keys_for controller.Collector st) _ (none_right (keys_for controller.Revision st) _ (none_right (keys_for controller.Configuration st) _ (none_right (keys_for controller.Service st) _ e)))

no_key : (key : SlotKey) (st : State) → all_keys st ≡ [] → is_key key st ≡ true → ⊥
unfolding is_key
no_key key st e known =
    let none = none_named key.controller (names_for key.controller st) (no_keys_of st e key.controller) in
    let f : false ≡ true = sym (ap (list_any (same_name key.name)) none) ∙ known in cc

pub cursor_some : (w : Plane) (key : SlotKey) → Some key ≡ picked w w.cursor → all_keys (present w) ≡ [] → ⊥
cursor_some w key e z = go w.cursor e
  where
    go : (c : Option SlotKey) → Some key ≡ picked w c → ⊥
    go None f = next_some None (all_keys (present w)) key f z
    go (Some last) f = by (stays w last) refl f
      where
        by : (b : Bool) → stays w last ≡ b → Some key ≡ cond b (Some last) (next_key (Some last) (all_keys (present w))) → ⊥
        by true s g = no_key last (present w) z (left (is_key last (present w)) (is_given (λ look. true) (look_of last w.slots)) s)
        by false s g = next_some (Some last) (all_keys (present w)) key g z
