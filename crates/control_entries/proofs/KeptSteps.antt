-- A plane stays kept through steps, and so through turns.
use Rattle.std.proofs.Common.{◌≡◌, ◌≢◌, ℕ, zero, suc, Bool, true, false, cond, List, [], ◌∷◌, Option, Some, None, refl, sym, ap, ◌∙◌, subst}
use Rattle.std.specs.Prelude.{is_some}
use Rattle.std.specs.Ordering.{is_eq}
use Rattle.version_store.specs.declared.write.Applied.{Applied}
use Rattle.version_store.specs.declared.write.Applied.TheVariants as applied
use Rattle.version_store.specs.Apply.{with_entry}
use Rattle.version_store.proofs.Keyed.{find-put, find-without, order-put, order-without}
use Rattle.version_store.proofs.Standing.{find_key}
use Rattle.resource_types.specs.declared.names.Controller.{Controller}
use Rattle.resource_types.specs.declared.names.SlotKey.{SlotKey}
use Rattle.resource_types.specs.declared.names.Actor.TheVariants as actor
use Rattle.resource_types.specs.declared.manifests.Manifest.{Manifest}
use Rattle.resource_types.specs.contracts.names.SlotKeyOrd.TheImpl as slot_order
use Rattle.resource_types.specs.contracts.names.SlotKeyOrd.TheImpl.Laws as slot_laws
use Rattle.resource_types.proofs.Exact.{slot-exact}
use Rattle.control_rules.specs.declared.slots.StepOutcome.TheVariants as outcome
use Rattle.control_rules.specs.Differences.{ObjectPlan}
use Rattle.control_rules.specs.Slots.{ObjectEntry, is_key, keys_for, Look, Slots, look_of, held, idle_at, Plane, present, answer_in, entry_in}
use Rattle.control_rules.specs.Steps.{write_of, plan_of, drops, plans, writes, goes_on, step_of}
use Rattle.control_rules.specs.Turns.{step_held, step_again, look_plan_write, round, rounds, pass, turn_of, turns_of}
use Rattle.control_rules.specs.Lawful.{IsLawful}
use Rattle.control_rules.specs.Facts.{LooksBack, IsKept}
use Rattle.control_rules.proofs.SlotsHeld.{key_self}
use Rattle.control_rules.proofs.KeptPlanes.{drops_kept, looks_kept}
use Rattle.control_entries.proofs.Tests.{not_both}
use Rattle.control_entries.proofs.LawfulWrites.{IsLook, write_lawful}
use Rattle.control_entries.proofs.Fitting.{lawful_fits}
use Rattle.control_entries.proofs.KeptEntries.{kept_more}

-- ---- keys of slots

-- what a slot holds is of its key
pub look-key : (key : SlotKey) (slots : Slots) (l : Look) → look_of key slots ≡ Some l → l.key ≡ key
look-key key slots l e = slot-exact l.key key (find_key (λ (x : Look). x.key) slot_order.ghosts.cmp slot_laws.total-law key slots l e)

-- what another slot holds once this one is idle
others : (key q : SlotKey) (slots : Slots) (l : Look) → look_of q (idle_at key slots) ≡ Some l → (look_of q slots ≡ Some l) × (l.key ≡ key → ⊥)
others key q slots l e = go (is_eq (slot_order.ghosts.cmp key q)) refl
    (sym (find-without (λ (x : Look). x.key) slot_order.ghosts.cmp slot_laws.total-law q key slots) ∙ e)
  where
    go : (b : Bool) → is_eq (slot_order.ghosts.cmp key q) ≡ b → cond b None (look_of q slots) ≡ Some l
        → (look_of q slots ≡ Some l) × (l.key ≡ key → ⊥)
    go true t f = absurd cc
    go false t f = (f, λ same. not_both (ap (λ k. is_eq (slot_order.ghosts.cmp key k)) (sym (sym same ∙ look-key q slots l f)) ∙ key_self key) t)

module _ (is_good : Manifest → Bool) where
  -- ---- a slot that has looked plans

  held_kept : (w : Plane) (look : Look) → IsKept is_good w → LooksBack w look → is_some (plan_of w look) ≡ true
      → IsKept is_good (record w { slots = held (record look { planned = true }) w.slots })
  held_kept w look k back some = record {
    lawful = k.lawful;
    past = k.past;
    clock = k.clock;
    ordered = order-put (λ (l : Look). l.key) slot_order.ghosts.cmp slot_laws.total-law planned w.slots k.ordered;
    slots = λ q l e. go q l (is_eq (slot_order.ghosts.cmp look.key q)) (sym (find-put (λ (l : Look). l.key) slot_order.ghosts.cmp slot_laws.total-law q planned w.slots) ∙ e);
  }
    where
      planned : Look
      planned = record look { planned = true }

      after : Plane
      after = record w { slots = held (record look { planned = true }) w.slots }

      new : LooksBack after planned
      new = record { some = back.some; before = back.before; from = back.from; upto = back.upto; past = back.past; alone = back.alone; planned = λ _. some }

      old : (l : Look) → LooksBack w l → LooksBack after l
      old l h = record { some = h.some; before = h.before; from = h.from; upto = h.upto; past = h.past; alone = h.alone; planned = h.planned }

      same : (l : Look) → Some planned ≡ Some l → planned ≡ l
      same l e = cc

      go : (q : SlotKey) (l : Look) (b : Bool) → cond b (Some planned) (look_of q w.slots) ≡ Some l → LooksBack after l
      go q l true e = subst (LooksBack after) (same l e) new
      go q l false e = old l (k.slots q l e)

  plans_kept : (w : Plane) (look : Look) → IsKept is_good w → LooksBack w look → (p : Option ObjectPlan) → plan_of w look ≡ p
      → IsKept is_good (plans w look p).plane
  plans_kept w look k back None e = drops_kept is_good w look.key k
  plans_kept w look k back (Some plan) e = held_kept w look k back (ap is_some e)

  -- ---- one that has planned writes

  writes_kept : (w : Plane) (look : Look) → IsKept is_good w → LooksBack w look → is_key look.key (present w) ≡ true → (p : Option ObjectPlan)
      → plan_of w look ≡ p → IsKept is_good (writes w look p).plane
  writes_kept w look k back known None e = drops_kept is_good w look.key k
  writes_kept w look k back known (Some plan) e = go (answer_in w.journal (write_of w (actor.Controller look.key) look.seen look.read_at plan))
      (write_lawful is_good w.settings w.journal w.now k.lawful k.past look.key look.seen look.read_at from (lawful_fits is_good w.settings w.journal k.lawful look.seen back.before) known plan e)
    where
      from : IsLook w.journal w.now look.key look.seen look.read_at
      from = record { before = back.before; from = back.from; upto = back.upto; past = back.past; alone = back.alone }

      made : ObjectEntry
      made = entry_in w.journal (write_of w (actor.Controller look.key) look.seen look.read_at plan)

      controller_same : (a b : SlotKey) → actor.Controller a ≡ actor.Controller b → a ≡ b
      controller_same a b f = cc

      mine : (q : SlotKey) (l : Look) → look_of q (idle_at look.key w.slots) ≡ Some l
          → LooksBack w l × (actor.Controller look.key ≢ actor.Controller l.key)
      mine q l f = let h = others look.key q w.slots l f in (k.slots q l h.0, λ same. h.1 (sym (controller_same look.key l.key same)))

      go : (a : Applied) → IsLawful is_good w.settings (with_entry a w.journal made)
          → IsKept is_good (record w { journal = with_entry a w.journal made; slots = idle_at look.key w.slots })
      go (applied.Done version) lawful = kept_more w made (idle_at look.key w.slots) refl is_good k lawful
          (order-without (λ (l : Look). l.key) slot_order.ghosts.cmp slot_laws.total-law look.key w.slots k.ordered) mine
      go (applied.Same version) lawful = drops_kept is_good w look.key k
      go (applied.Stale newer) lawful = drops_kept is_good w look.key k
      go (applied.Exists version) lawful = drops_kept is_good w look.key k
      go (applied.Absent last) lawful = drops_kept is_good w look.key k

  -- ---- steps

  goes_kept : (w : Plane) (key : SlotKey) → IsKept is_good w → is_key key (present w) ≡ true → (h : Option Look) → look_of key w.slots ≡ h
      → IsKept is_good (goes_on w key h).plane
  goes_kept w key k known None e = looks_kept is_good w key known k
  goes_kept w key k known (Some look) e = go look.planned
    where
      back : LooksBack w look
      back = k.slots key look e

      own : is_key look.key (present w) ≡ true
      own = ap (λ q. is_key q (present w)) (look-key key w.slots look e) ∙ known

      go : (b : Bool) → IsKept is_good (cond b (writes w look (plan_of w look)) (plans w look (plan_of w look))).plane
      go true = writes_kept w look k back own (plan_of w look) refl
      go false = plans_kept w look k back (plan_of w look) refl

  pub step_kept : (w : Plane) (key : SlotKey) → IsKept is_good w → IsKept is_good (step_of w key).plane
  unfolding step_of
  step_kept w key k = go (is_key key (present w)) refl
    where
      go : (b : Bool) → is_key key (present w) ≡ b → IsKept is_good (cond b (goes_on w key (look_of key w.slots)) (drops w key outcome.Unknown)).plane
      go true e = goes_kept w key k e (look_of key w.slots) refl
      go false e = drops_kept is_good w key k

  -- ---- turns

  again_kept : (key : SlotKey) (w : Plane) → IsKept is_good w → IsKept is_good (step_again key w)
  again_kept key w k = go (look_of key w.slots)
    where
      go : (h : Option Look) → IsKept is_good (step_held w key h)
      go None = k
      go (Some look) = step_kept w key k

  round_kept : (key : SlotKey) (w : Plane) → IsKept is_good w → IsKept is_good (round key w)
  unfolding round
  round_kept key w k = go (is_key key (present w))
    where
      go : (b : Bool) → IsKept is_good (cond b (look_plan_write key w) w)
      go false = k
      go true = again_kept key _ (again_kept key _ (step_kept (record w { slots = idle_at key w.slots }) key (drops_kept is_good w key k)))

  rounds_kept : (keys : List SlotKey) (w : Plane) → IsKept is_good w → IsKept is_good (rounds keys w)
  unfolding rounds
  rounds_kept [] w k = k
  rounds_kept (key ∷ keys) w k = rounds_kept keys (round key w) (round_kept key w k)

  pass_kept : (c : Controller) (w : Plane) → IsKept is_good w → IsKept is_good (pass c w)
  pass_kept c w k = rounds_kept (keys_for c (present w)) w k

  pub turn_kept : (w : Plane) → IsKept is_good w → IsKept is_good (turn_of w)
  unfolding turn_of
  turn_kept w k = pass_kept _ _ (pass_kept _ _ (pass_kept _ _ (pass_kept _ _ (pass_kept _ w k))))

  pub turns_kept : (t : ℕ) (w : Plane) → IsKept is_good w → IsKept is_good (turns_of t w)
  unfolding turns_of
  turns_kept zero w k = k
  turns_kept (suc t) w k = turns_kept t (turn_of w) (turn_kept w k)
