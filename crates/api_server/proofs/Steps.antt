-- Automatic steps, one after another.
use Rattle.std.proofs.Common.{◌≡◌, ℕ, zero, suc, ◌+◌, List, [], Option, Some, None, refl, sym, ap, ◌∙◌, arith}
use Rattle.resource_types.specs.declared.names.SlotKey.{SlotKey}
use Rattle.control_rules.specs.Slots.{all_keys, Plane, present}
use Rattle.control_rules.specs.Steps.{picked, step_picked, cursor_step_of, automatic_steps}
use Rattle.step_scheduler.proofs.Cursor.{cursor_some}
use Rattle.api_server.specs.declared.mark.Mark.{Mark}
use Rattle.api_server.specs.Ask.{WorldView, stepped}

-- where there are no keys, a step of the cursor changes nothing
cursor_stays : (w : Plane) → all_keys (present w) ≡ [] → (cursor_step_of w).plane ≡ w
unfolding cursor_step_of
cursor_stays w none = go (picked w w.cursor) refl
  where
    go : (p : Option SlotKey) → picked w w.cursor ≡ p → (step_picked w p).plane ≡ w
    go None e = refl
    go (Some key) e = absurd (cursor_some w key (sym e) none)

steps_stay : (m : ℕ) (w : Plane) → all_keys (present w) ≡ [] → automatic_steps m w ≡ w
unfolding automatic_steps
steps_stay zero w none = refl
steps_stay (suc m) w none = ap (automatic_steps m) (cursor_stays w none) ∙ steps_stay m w none

steps_join : (n m : ℕ) (w : Plane) → automatic_steps (n + m) w ≡ automatic_steps m (automatic_steps n w)
unfolding automatic_steps
steps_join zero m w = let e : 0 + m ≡ m = omega arith in ap (λ (k : ℕ). automatic_steps k w) e
steps_join (suc n) m w =
    let e : suc n + m ≡ suc (n + m) = omega arith in ap (λ (k : ℕ). automatic_steps k w) e ∙ steps_join n m (cursor_step_of w).plane

pub no_steps : (w : Plane) → w ≡ automatic_steps 0 w
unfolding automatic_steps
no_steps w = refl

-- one step more
pub one_step_more : (n : ℕ) (w p v : Plane) → p ≡ automatic_steps n w → v ≡ (cursor_step_of p).plane → v ≡ automatic_steps (n + 1) w
unfolding automatic_steps
one_step_more n w p v is step = step ∙ ap (λ (x : Plane). (cursor_step_of x).plane) is ∙ sym (steps_join n 1 w)

-- once there are no keys, the steps that are left change nothing
pub steps_end : (n m k : ℕ) (w p v : Plane) → p ≡ automatic_steps n w → v ≡ (cursor_step_of p).plane → all_keys (present p) ≡ [] → k ≡ n + m → v ≡ automatic_steps k w
steps_end n m k w p v is step none all =
    step ∙ cursor_stays p none ∙ sym (steps_stay m p none) ∙ ap (automatic_steps m) is ∙ sym (steps_join n m w) ∙ ap (λ (x : ℕ). automatic_steps x w) (sym all)

-- a world by its parts
pub stepped_is : (w : WorldView) (n auto : ℕ) (p : Plane) (marks : List Mark) → p ≡ automatic_steps n w.plane → auto ≡ w.auto → marks ≡ w.marks
    → record { plane = p; auto = auto; marks = marks } ≡ stepped w n
stepped_is w n auto p marks ep ea em =
    ap (λ (x : Plane). record { plane = x; auto = auto; marks = marks }) ep
    ∙ ap (λ (x : ℕ). record { plane = automatic_steps n w.plane; auto = x; marks = marks }) ea
    ∙ ap (λ (x : List Mark). record { plane = automatic_steps n w.plane; auto = w.auto; marks = x }) em
