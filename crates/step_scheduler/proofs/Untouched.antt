-- Rounds of keys to which nothing is due: they idle the slot, and change nothing else.
use Rattle.std.proofs.Common.{◌≡◌, Bool, true, false, cond, [], ◌∷◌, length, Option, Some, None, Ordering, refl, sym, ap, subst, ◌∙◌}
use Rattle.std.specs.Option.{is_some}
use Rattle.std.specs.Ordering.{is_eq}
use Rattle.std.specs.declared.cmp.Ordering.TheVariants.{Less, Equal, Greater}
use Rattle.version_store.specs.State.{placed}
use Rattle.version_store.proofs.Growth.{state_at-all}
use Rattle.resource_types.specs.declared.names.SlotKey.{SlotKey}
use Rattle.resource_types.specs.declared.objects.Object.{Object}
use Rattle.resource_types.specs.contracts.names.KeyOrd.TheImpl as key_order
use Rattle.resource_types.specs.contracts.names.SlotKeyOrd.TheImpl as slot_order
use Rattle.resource_types.specs.contracts.names.SlotKeyOrd.TheImpl.Laws as slot_laws
use Rattle.control_rules.specs.Differences.{ObjectPlan}
use Rattle.control_rules.specs.Next.{next_write}
use Rattle.control_rules.specs.Slots.{is_key, Look, Slots, look_of, held, idle_at, Plane, present}
use Rattle.control_rules.specs.Steps.{plan_of, looks, plans, step_of}
use Rattle.control_rules.specs.Turns.{step_held, step_again, look_plan_write, round}
use Rattle.control_rules.proofs.SlotsHeld.{key_self, look_held, look_idle}
use Rattle.control_rules.proofs.RoundJournal.{step_looks, step_goes}

-- ---- slots that are idled

-- a slot that is idle is idled
idle_by : (key : SlotKey) (l : Look) (rest : Slots) (b : Bool) → cond b (Some l) (look_of key rest) ≡ None → (look_of key rest ≡ None → idle_at key rest ≡ rest) → cond b (idle_at key rest) (l ∷ idle_at key rest) ≡ l ∷ rest
idle_by key l rest true e ih = absurd cc
idle_by key l rest false e ih = ap (λ ls. l ∷ ls) (ih e)

pub idle_none : (key : SlotKey) (slots : Slots) → look_of key slots ≡ None → idle_at key slots ≡ slots
idle_none key [] e = refl
idle_none key (l ∷ rest) e = idle_by key l rest (is_eq (slot_order.ghosts.cmp l.key key)) e (idle_none key rest)

-- a slot that is idled twice
pub idle_twice : (key : SlotKey) (slots : Slots) → idle_at key (idle_at key slots) ≡ idle_at key slots
idle_twice key slots = idle_none key (idle_at key slots) (look_idle key slots)

-- what a slot is given is dropped with it
given_by : (key : SlotKey) (l x : Look) (xs rest : Slots) → is_eq (slot_order.ghosts.cmp l.key key) ≡ true → idle_at key rest ≡ idle_at key xs → (r : Ordering) → (r ≡ Equal → is_eq (slot_order.ghosts.cmp x.key key) ≡ true)
    → idle_at key (placed r l x xs rest) ≡ idle_at key (x ∷ xs)
given_by key l x xs rest own ih Less e = ap (λ b. cond b (idle_at key (x ∷ xs)) (l ∷ idle_at key (x ∷ xs))) own
given_by key l x xs rest own ih Equal e =
    ap (λ b. cond b (idle_at key xs) (l ∷ idle_at key xs)) own ∙ sym (ap (λ b. cond b (idle_at key xs) (x ∷ idle_at key xs)) (e refl))
given_by key l x xs rest own ih Greater e = ap (λ ls. cond (is_eq (slot_order.ghosts.cmp x.key key)) ls (x ∷ ls)) ih

pub idle_held : (l : Look) (slots : Slots) → idle_at l.key (held l slots) ≡ idle_at l.key slots
idle_held l [] = ap (λ b. cond b [] (l ∷ [])) (key_self l.key)
idle_held l (x ∷ xs) = given_by l.key l x xs (held l xs) (key_self l.key) (idle_held l xs) (slot_order.ghosts.cmp l.key x.key) (λ e. ap is_eq (sym (slot_laws.total-law.congr l.key x.key l.key e)) ∙ key_self l.key)

-- ---- a round

-- the plane once the slot of the key is idle
abbrev pub dropped : Plane → SlotKey → Plane
dropped w key = record w { slots = idle_at key w.slots }

-- the look of a round
abbrev look_now : Plane → SlotKey → Look
look_now w key = record { key = key; planned = false; seen = length w.journal; read_at = w.now }

-- the plane behind it
abbrev looked : Plane → SlotKey → Plane
looked w key = (looks (dropped w key) key).plane

again_idle : (v : Plane) (key : SlotKey) → look_of key v.slots ≡ None → step_again key v ≡ v
again_idle v key e = ap (step_held v key) e

-- what is due by the look is what is due in the present state
due_now : (w : Plane) (key : SlotKey) → plan_of w (look_now w key) ≡ next_write w.settings key (present w) w.now
due_now w key = ap (λ st. next_write w.settings key st w.now) (state_at-all (λ (o : Object). o.key) key_order.ghosts.cmp w.journal)

-- the second step of a round plans what is due
second_step : (w : Plane) (key : SlotKey) → is_key key (present w) ≡ true → step_again key (step_of (dropped w key) key).plane ≡ (plans (looked w key) (look_now w key) (next_write w.settings key (present w) w.now)).plane
second_step w key known =
    ap (λ z. step_again key z.plane) (step_looks (dropped w key) key known (look_idle key w.slots))
    ∙ ap (step_held (looked w key) key) held_now
    ∙ ap (λ z. z.plane) (step_goes (looked w key) key (look_now w key) known held_now)
    ∙ ap (λ p. (plans (looked w key) (look_now w key) p).plane) (due_now w key)
  where
    held_now : look_of key (looked w key).slots ≡ Some (look_now w key)
    held_now = look_held (look_now w key) (idle_at key w.slots)

-- the slot is idle after the second step where nothing is due
idles : (w : Plane) (key : SlotKey) → (plans (looked w key) (look_now w key) None).plane ≡ dropped w key
idles w key = ap (λ (s : Slots). record w { slots = s }) (idle_held (look_now w key) (idle_at key w.slots) ∙ idle_twice key w.slots)

-- a round of a key to which nothing is due idles its slot
pub round_idles : (w : Plane) (key : SlotKey) → is_key key (present w) ≡ true → next_write w.settings key (present w) w.now ≡ None → round key w ≡ dropped w key
unfolding round
round_idles w key known none =
    ap (λ b. cond b (look_plan_write key w) w) known
    ∙ ap (step_again key) (second_step w key known ∙ ap (λ p. (plans (looked w key) (look_now w key) p).plane) none ∙ idles w key)
    ∙ again_idle (dropped w key) key (look_idle key w.slots)

-- the key has nothing due, and its slot is idle
pub record IsCalm (w : Plane) (key : SlotKey) : Type 0 where
  pub due : next_write w.settings key (present w) w.now ≡ None
  pub idle : look_of key w.slots ≡ None

-- a round of such a key changes nothing
pub round_calm : (w : Plane) (key : SlotKey) → IsCalm w key → round key w ≡ w
unfolding round
round_calm w key calm = go (is_key key (present w)) refl
  where
    go : (b : Bool) → is_key key (present w) ≡ b → round key w ≡ w
    go true known = round_idles w key known calm.due ∙ ap (λ (s : Slots). record w { slots = s }) (idle_none key w.slots calm.idle)
    go false off = ap (λ b. cond b (look_plan_write key w) w) off

-- ---- what a round finds out

-- nothing was due: the journal is as before, and nothing is due now
pub record FindsNothing (w v : Plane) (key : SlotKey) : Type 0 where
  pub journal : v.journal ≡ w.journal
  pub due : next_write v.settings key (present v) v.now ≡ None

-- a slot that is idle after the second step of a round had nothing due
pub finds_nothing : (w a b c : Plane) (key : SlotKey) → is_key key (present w) ≡ true → a ≡ dropped w key → b ≡ (step_of a key).plane → c ≡ step_again key b → is_some (look_of key c.slots) ≡ false → FindsNothing w c key
finds_nothing w a b c key known p q r idle = subst (λ v. FindsNothing w v key) (sym is) (go (next_write w.settings key (present w) w.now) refl (ap (λ v. is_some (look_of key v.slots)) (sym is) ∙ idle))
  where
    is : c ≡ (plans (looked w key) (look_now w key) (next_write w.settings key (present w) w.now)).plane
    is = r ∙ ap (step_again key) (q ∙ ap (λ v. (step_of v key).plane) p) ∙ second_step w key known

    go : (o : Option ObjectPlan) → next_write w.settings key (present w) w.now ≡ o → is_some (look_of key (plans (looked w key) (look_now w key) o).plane.slots) ≡ false → FindsNothing w (plans (looked w key) (look_now w key) o).plane key
    go None none e = record { journal = refl; due = none }
    go (Some plan) some e = let f : true ≡ false = ap is_some (sym (look_held (record (look_now w key) { planned = true }) (looked w key).slots)) ∙ e in absurd cc
